-- The parts of a report that are judged one after the other.
use Rattle.std.proofs.Common.{◌≡◌, ◌<◌, ◌≤◌, ℕ, zero, suc, ◌+◌, ◌-◌, Bool, true, false, List, [], ◌∷◌, map, length, drop, refl, sym, ap, subst, arith}
use Rattle.std.specs.Prelude.{All}
use Rattle.label_commands.specs.declared.flow_lines.flow.FlowLine.{FlowLine}
use Rattle.label_commands.specs.declared.script.Script.{Script}
use Rattle.label_commands.specs.Script.{before}
use Rattle.captures.specs.declared.packet_in.PacketIn.{PacketIn}
use Rattle.label_flow.specs.packet_walk.Stepping.{TablesAt}
use Rattle.captures.specs.Frame.{CapturedFrame, packet_in}
use Rattle.call_report.specs.Report.{Folder}
use Rattle.call_report.specs.Lines.Flow.{flow_line}
use Rattle.script_run.specs.flow_run.Input.{FlowInput, flow_input, packets_in}
use Rattle.call_report.specs.report_file.Meeting.{lines_in}
use Rattle.label_audit.specs.declared.flow.Counted.{Counted}
use Rattle.label_audit.specs.declared.place.Place.{Place}
use Rattle.label_audit.specs.inside.Awaited.{Awaited, BadBehind, ComesTo}
use Rattle.label_audit.specs.inside.Grammar.{PacketsFrom, Then, FlowsFrom, site_of, nothing_counted, end_text_of, replies_of}
use Rattle.label_audit.specs.inside.Reading.{StandsIn, IsExpected, IsJudgedTo}
use Rattle.label_audit.specs.inside.Flow.{met_by, behind_flow, packets_awaited, end_awaited}
use Rattle.label_audit.proofs.Fronts.{Whole}
use Rattle.label_audit.proofs.Reading.{Inhabits, comes_on}
use Rattle.label_audit.proofs.Steps.{then_stands, then_differs, then_some, OrNothing, or_stands, or_differs, packets_same, packets_some, flows_some}
use Rattle.label_audit.proofs.Wholes.{flow_whole, flow_some, end_whole, replies_whole}
use Rattle.label_audit.proofs.Nexts.{same_awaited}

pub judged_on : (may may' may'' : Awaited) (file : List ℕ) (a b c : Place) (met : Bool) → IsJudgedTo may may' file a b true → IsJudgedTo may' may'' file b c met → IsJudgedTo may may'' file a c met
judged_on may may' may'' file a b c true one two = (comes_on may may' may'' (drop a.at file) (drop b.at file) (drop c.at file) a.lines b.lines c.lines one.0 two.0, two.1)
judged_on may may' may'' file a b c false one two = one.0.no c.lines two

pub judged_same : (may may' : Awaited) (file : List ℕ) (a : Place) → StandsIn file a → ((all : Bool) (text : List ℕ) → may' all text → may all text) → ((all : Bool) (text : List ℕ) → may all text → may' all text) → IsJudgedTo may may' file a a true
judged_same may may' file a stands up down = (same_awaited may may' (drop a.at file) a.lines up down, stands)

pub then_expected : (text : List ℕ) (Behind : Awaited) (file : List ℕ) (old new : Place) (met : Bool) → Whole text → Inhabits Behind → IsExpected file text old new met → IsJudgedTo (Then text Behind) Behind file old new met
then_expected text Behind file old new true whole some e =
    (subst (λ (n : ℕ). ComesTo (Then text Behind) (drop old.at file) old.lines Behind (drop new.at file) n) (sym e.1) (then_stands text Behind whole (drop old.at file) (drop new.at file) old.lines e.0), e.2)
then_expected text Behind file old new false whole some e =
    subst (BadBehind (Then text Behind) (drop old.at file) old.lines) (sym e.2) (then_differs text Behind whole (drop old.at file) e.0 old.lines e.1 some)

pub or_expected : (text : List ℕ) (Behind : Awaited) (file : List ℕ) (old new : Place) (met : Bool) (whole : Whole text) → 0 < lines_in text → Inhabits Behind → IsExpected file text old new met → IsJudgedTo (OrNothing text Behind whole) Behind file old new met
or_expected text Behind file old new true whole lines some e =
    (subst (λ (n : ℕ). ComesTo (OrNothing text Behind whole) (drop old.at file) old.lines Behind (drop new.at file) n) (sym e.1) (or_stands text Behind whole lines (drop old.at file) (drop new.at file) old.lines e.0), e.2)
or_expected text Behind file old new false whole lines some e =
    subst (BadBehind (OrNothing text Behind whole) (drop old.at file) old.lines) (sym e.2) (or_differs text Behind whole (drop old.at file) e.0 old.lines e.1 some)

-- ---- one flow

start_met : (low : ℕ) (tables : List TablesAt) (k : ℕ) → All (λ (t : TablesAt). t.version ≤ low) tables → low ≡ met_by low tables k
start_met low [] k all = refl
start_met low (t ∷ tables) zero all = let few = all 0 t (omega arith) in omega (arith, few)
start_met low (t ∷ tables) (suc k) all = start_met low tables k (λ j d less. all (suc j) d (omega (arith, less)))

module _ (script : Script) (w : ℕ) (held : Folder) (flow most : ℕ) (line : FlowLine) (flows : List FlowLine) where
  abbrev input : FlowInput
  input = flow_input (flow + 1) most (held line.input)

  abbrev Behind : Counted → Awaited
  Behind = behind_flow script w held flow most line flows

  abbrev pub FirstPackets : Bool → List ℕ → Type 0
  FirstPackets = PacketsFrom (site_of script w (flow + 1) line) Behind nothing_counted (λ k. line.before) (packets_in input)

  some_behind : (count : Counted) → Inhabits (Behind count)
  some_behind count =
      then_some (end_text_of (flow + 1) count) (Then (replies_of script (flow + 1) line) (λ b u. FlowsFrom script w held (flow + 1 + 1) (most - count.packets) flows b u)) (end_whole (flow + 1) count.packets count.passed count.denied)
      (then_some (replies_of script (flow + 1) line) (λ b u. FlowsFrom script w held (flow + 1 + 1) (most - count.packets) flows b u) (replies_whole script.nodes script.steps line.before (before script (flow + 1) - line.before))
      (flows_some script w held (flow + 1 + 1) (most - count.packets) flows))

  -- its first line
  pub flow_expected : (file : List ℕ) (old new : Place) (met : Bool) → IsExpected file (flow_line (flow + 1) line.input) old new met → IsJudgedTo (FlowsFrom script w held (flow + 1) most (line ∷ flows)) FirstPackets file old new met
  flow_expected file old new met e =
      or_expected (flow_line (flow + 1) line.input) FirstPackets file old new met (flow_whole (flow + 1) line.input) (flow_some (flow + 1) line.input)
      (packets_some (site_of script w (flow + 1) line) Behind nothing_counted (λ k. line.before) (packets_in input) (some_behind nothing_counted)) e

  -- its packets, as the capture's reader has them left
  pub packets_begin : (file : List ℕ) (at : Place) (tables : List TablesAt) (frames : List CapturedFrame) → StandsIn file at → All (λ (t : TablesAt). t.version ≤ line.before) tables → input.frames ≡ frames
      → IsJudgedTo FirstPackets (packets_awaited script w held flow most line flows nothing_counted tables (map packet_in frames)) file at at true
  packets_begin file at tables frames stands low is =
      let site = site_of script w (flow + 1) line in
      let same : (k : ℕ) → line.before ≡ met_by line.before tables k = λ k. start_met line.before tables k low in
      let packets : packets_in input ≡ map packet_in frames = ap (map packet_in) is in
      judged_same FirstPackets (packets_awaited script w held flow most line flows nothing_counted tables (map packet_in frames)) file at stands
      (λ all text from. subst (λ (ps : List PacketIn). PacketsFrom site Behind nothing_counted (λ k. line.before) ps all text) (sym packets) (packets_same site Behind nothing_counted (met_by line.before tables) (λ k. line.before) (map packet_in frames) all text (λ k. sym (same k)) from))
      (λ all text from. packets_same site Behind nothing_counted (λ k. line.before) (met_by line.before tables) (map packet_in frames) all text same (subst (λ (ps : List PacketIn). PacketsFrom site Behind nothing_counted (λ k. line.before) ps all text) packets from))

  -- its last line
  pub end_expected : (file : List ℕ) (old new : Place) (met : Bool) (count : Counted) → count.packets ≡ length input.frames → IsExpected file (end_text_of (flow + 1) count) old new met
      → IsJudgedTo (Behind count) (end_awaited script w held flow most line flows) file old new met
  end_expected file old new met count many e =
      let all = then_expected (end_text_of (flow + 1) count) (Then (replies_of script (flow + 1) line) (λ b u. FlowsFrom script w held (flow + 1 + 1) (most - count.packets) flows b u)) file old new met (end_whole (flow + 1) count.packets count.passed count.denied)
      (then_some (replies_of script (flow + 1) line) (λ b u. FlowsFrom script w held (flow + 1 + 1) (most - count.packets) flows b u) (replies_whole script.nodes script.steps line.before (before script (flow + 1) - line.before))
      (flows_some script w held (flow + 1 + 1) (most - count.packets) flows)) e in
      subst (λ (n : ℕ). IsJudgedTo (Behind count) (Then (replies_of script (flow + 1) line) (λ b u. FlowsFrom script w held (flow + 1 + 1) (most - n) flows b u)) file old new met) many all

  -- and the replies behind it
  pub replies_expected : (file : List ℕ) (old new : Place) (met : Bool) → IsExpected file (replies_of script (flow + 1) line) old new met
      → IsJudgedTo (end_awaited script w held flow most line flows) (λ b u. FlowsFrom script w held (flow + 1 + 1) (most - length input.frames) flows b u) file old new met
  replies_expected file old new met e =
      then_expected (replies_of script (flow + 1) line) (λ b u. FlowsFrom script w held (flow + 1 + 1) (most - length input.frames) flows b u) file old new met (replies_whole script.nodes script.steps line.before (before script (flow + 1) - line.before))
      (flows_some script w held (flow + 1 + 1) (most - length input.frames) flows) e
