-- One flow, from its first line to the replies behind it.
use Rattle.std.proofs.Common.{◌≡◌, ◌≤◌, ℕ, ◌+◌, ◌-◌, Bool, true, List, [], ◌∷◌, map, length, Option, Some, ap, ◌∙◌, subst, arith}
use Rattle.std.specs.Prelude.{All, slice_get, option_map, unwrap_or}
use Rattle.std.specs.Option.{option_map_or}
use Rattle.std.proofs.lemmas.List.{length-map}
use Rattle.net_io.specs.Depot.{SameHeld}
use Rattle.label_commands.specs.declared.flow_lines.flow.FlowLine.{FlowLine}
use Rattle.label_commands.specs.declared.script.Script.{Script}
use Rattle.label_commands.specs.Script.{before}
use Rattle.captures.specs.declared.packet_in.PacketIn.{PacketIn}
use Rattle.label_flow.specs.packet_walk.Stepping.{TablesAt}
use Rattle.captures.specs.CaptureFile.{CaptureFile, capture_file}
use Rattle.captures.specs.Frame.{packet_in}
use Rattle.call_report.specs.Report.{Folder}
use Rattle.call_report.specs.Lines.Flow.{flow_line}
use Rattle.call_report.specs.Lines.Reply.{replies_text}
use Rattle.script_run.specs.flow_run.Input.{flow_input}
use Rattle.script_run.specs.Runs.{FlowsStatus}
use Rattle.label_audit.specs.declared.flow.Counted.{Counted}
use Rattle.label_audit.specs.declared.place.Place.{Place}
use Rattle.label_audit.specs.inside.Grammar.{FlowsFrom, nothing_counted, end_text_of}
use Rattle.label_audit.specs.inside.Reading.{IsExpected, IsJudgedTo}
use Rattle.label_audit.specs.inside.Flow.{behind_flow, packets_awaited, end_awaited, flows_behind, packets_of, capture_packets, HasWholeCapture}
use Rattle.label_audit.proofs.Judgings.{judged_on, FirstPackets, flow_expected, packets_begin, end_expected, replies_expected}
use Rattle.label_audit.proofs.WholeInputs.{whole_input}
use Rattle.label_audit.proofs.CaptureJudged.{IsWhole, one_capture}

pub whole_kept : (script : Script) (flow : ℕ) (a b : Folder) → SameHeld a b → HasWholeCapture script flow a → HasWholeCapture script flow b
whole_kept script flow a b same whole = λ line at. let w = whole line at in (w.0, w.1, same line.input ∙ w.2, w.3, w.4, w.5)

pub before_is : (script : Script) (flow : ℕ) (line : FlowLine) → slice_get script.flows flow ≡ Some line → before script flow ≡ line.before
before_is script flow line at = ap (λ (o : Option FlowLine). unwrap_or (option_map (λ (f : FlowLine). f.before) o) (length script.steps)) at

module _ (script : Script) (w : ℕ) (held : Folder) (flow most : ℕ) (line : FlowLine) (flows : List FlowLine) (status : FlowsStatus held (flow + 1) most (line ∷ flows) 0) (folder : Folder) (whole : IsWhole (folder line.input)) (same : held line.input ≡ folder line.input) where
  abbrev All_ : Bool → List ℕ → Type 0
  All_ = FlowsFrom script w held (flow + 1) most (line ∷ flows)

  abbrev behind : Counted → Bool → List ℕ → Type 0
  behind = behind_flow script w held flow most line flows

  frames_are : (flow_input (flow + 1) most (held line.input)).frames ≡ whole.1.frames
  frames_are =
      let own = whole_input (flow + 1) most (held line.input) _ status in
      own.frames ∙ ap (λ (c : CaptureFile). c.frames) (one_capture own.there (same ∙ whole.2) own.read whole.3)

  packets_are : capture_packets folder line ≡ map packet_in whole.1.frames
  packets_are = ap (λ (h : Option (List ℕ)). option_map_or (λ (file : List ℕ). packets_of (capture_file file)) h []) whole.2 ∙ ap packets_of whole.3

  pub front_judged : (file : List ℕ) (a b c : Place) (met : Bool) (tables : List TablesAt) (count : Counted) → All (λ (t : TablesAt). t.version ≤ line.before) tables → IsExpected file (flow_line (flow + 1) line.input) a b true
      → IsJudgedTo (packets_awaited script w held flow most line flows nothing_counted tables (capture_packets folder line)) (behind count) file b c met → IsJudgedTo All_ (behind count) file a c met
  front_judged file a b c met tables count low e packets =
      let First = FirstPackets script w held flow most line flows in
      let Awaits : List PacketIn → Bool → List ℕ → Type 0 = packets_awaited script w held flow most line flows nothing_counted tables in
      let one = flow_expected script w held flow most line flows file a b true e in
      let begin = packets_begin script w held flow most line flows file b tables whole.1.frames e.2 low frames_are in
      let two = judged_on All_ First (Awaits (map packet_in whole.1.frames)) file a b b true one begin in
      judged_on All_ (Awaits (map packet_in whole.1.frames)) (behind count) file a b c met two (subst (λ (ps : List PacketIn). IsJudgedTo (Awaits ps) (behind count) file b c met) packets_are packets)

  pub front_fails : (file : List ℕ) (a b : Place) (met : Bool) → IsExpected file (flow_line (flow + 1) line.input) a b met → IsJudgedTo All_ (FirstPackets script w held flow most line flows) file a b met
  front_fails file a b met e = flow_expected script w held flow most line flows file a b met e

  pub back_judged : (file : List ℕ) (a c d : Place) (met : Bool) (count : Counted) → count.packets ≡ length (capture_packets folder line) → IsJudgedTo All_ (behind count) file a c true → IsExpected file (end_text_of (flow + 1) count) c d met
      → IsJudgedTo All_ (end_awaited script w held flow most line flows) file a d met
  back_judged file a c d met count many front e =
      let all : count.packets ≡ length (flow_input (flow + 1) most (held line.input)).frames = omega (arith, many, ap length packets_are, length-map whole.1.frames packet_in, ap length frames_are) in
      judged_on All_ (behind count) (end_awaited script w held flow most line flows) file a c d met front (end_expected script w held flow most line flows file c d met count all e)

  pub all_judged : (file : List ℕ) (a d e : Place) (met : Bool) (done upto : ℕ) → done ≡ line.before → upto ≡ before script (flow + 1) → IsJudgedTo All_ (end_awaited script w held flow most line flows) file a d true
      → IsExpected file (replies_text script.nodes script.steps done (upto - done)) d e met → IsJudgedTo All_ (flows_behind script w held flow most line flows) file a e met
  all_judged file a d e met done upto done_is upto_is back x =
      judged_on All_ (end_awaited script w held flow most line flows) (flows_behind script w held flow most line flows) file a d e met back
      (replies_expected script w held flow most line flows file d e met (rw (done_is, upto_is) at x))
