-- A report from its first line to its end.
use Rattle.std.proofs.Common.{◌≡◌, ◌≢◌, ◌<◌, ◌≤◌, inl, inr, ℕ, ◌+◌, ◌-◌, ◌%◌, Bool, true, false, List, [], ◌∷◌, ◌++◌, length, drop, Option, Some, None, refl, sym, ap, ◌∙◌, subst, arith}
use Rattle.std.specs.Prelude.{slice_get, option_map, unwrap_or, nat_lt}
use Rattle.std.proofs.lemmas.List.{append-nil, length-drop}
use Rattle.std.proofs.lemmas.Bool.{ltb-true, ltb-false}
use Rattle.net_io.specs.Depot.{SameHeld}
use Rattle.label_commands.specs.declared.flow_lines.flow.FlowLine.{FlowLine}
use Rattle.label_commands.specs.declared.script.Script.{Script}
use Rattle.label_commands.specs.Script.{before}
use Rattle.label_commands.specs.Sound.{IsSoundScript}
use Rattle.captures.specs.declared.packet_in.PacketIn.{PacketIn}
use Rattle.captures.specs.declared.format.CaptureFormat.{CaptureFormat}
use Rattle.call_report.specs.Event.{Event, packets_limit}
use Rattle.call_report.specs.Report.{Folder}
use Rattle.call_report.specs.Lines.Fixed.{done_line}
use Rattle.call_report.specs.Lines.Reply.{replies_text}
use Rattle.script_run.specs.flow_run.Input.{flow_input, packets_in}
use Rattle.script_run.specs.Runs.{FlowsStatus, StatusOr}
use Rattle.label_audit.specs.Good.{IsReport, IsFirstBad}
use Rattle.label_audit.specs.declared.flow.Counted.{Counted}
use Rattle.label_audit.specs.declared.place.Place.{Place}
use Rattle.label_audit.specs.inside.Awaited.{Awaited, BadBehind, ComesTo}
use Rattle.label_audit.specs.inside.Grammar.{Site, counted_more, last_met, meets_now, PacketsFrom, BehindPackets, FlowsFrom, ScriptFrom, site_of, nothing_counted}
use Rattle.label_audit.specs.inside.Reading.{IsExpected, IsJudgedTo, front_place}
use Rattle.label_audit.specs.inside.Flow.{done_awaited, ended_awaited}
use Rattle.label_audit.proofs.Reading.{rest_of, stands, differs, more_left}
use Rattle.label_audit.proofs.Steps.{flows_some}
use Rattle.label_audit.proofs.Wholes.{done_whole, replies_whole}
use Rattle.label_audit.proofs.Judgings.{judged_on, judged_same, then_expected}
use Rattle.label_audit.proofs.Verdicts.{may_be_all, first_bad}

-- ---- over folders that hold the same

packets_map : (site : Site) (B C : Counted → Awaited) → ((count : Counted) (all : Bool) (text : List ℕ) → B count all text → C count all text) → (count : Counted) (met : ℕ → ℕ) (packets : List PacketIn) (all : Bool) (text : List ℕ)
    → PacketsFrom site B count met packets all text → PacketsFrom site C count met packets all text
packets_map site B C up count met [] all text from = up count all text from
packets_map site B C up count met (packet ∷ packets) all text (inl stop) = inl stop
packets_map site B C up count met (packet ∷ packets) all text (inr one) =
    let met' = meets_now met (count.packets % site.workers) (last_met (met (count.packets % site.workers)) one.0.walked.versions) in
    inr (one.0, one.1, one.2, one.3, one.4, packets_map site B C up (counted_more count one.0) met' packets all one.1 one.5)

pub flows_map : (script : Script) (w : ℕ) (a b : Folder) → SameHeld a b → (number most : ℕ) (flows : List FlowLine) (all : Bool) (text : List ℕ) → FlowsFrom script w a number most flows all text → FlowsFrom script w b number most flows all text
flows_map script w a b same number most [] all text from = from
flows_map script w a b same number most (flow ∷ flows) all text (inl stop) = inl stop
flows_map script w a b same number most (flow ∷ flows) all text (inr (more, is, from)) =
    let B = BehindPackets script number flow (λ packets x u. FlowsFrom script w a (number + 1) (most - packets) flows x u) in
    let C = BehindPackets script number flow (λ packets x u. FlowsFrom script w b (number + 1) (most - packets) flows x u) in
    let site = site_of script w number flow in
    let over = packets_map site B C (λ count x u h. (h.0, h.1, (h.2.0, h.2.1, flows_map script w a b same (number + 1) (most - count.packets) flows x h.2.0 h.2.2))) nothing_counted (λ k. flow.before) (packets_in (flow_input number most (a flow.input))) all more from in
    inr (more, is, subst (λ (h : Option (List ℕ)). PacketsFrom site C nothing_counted (λ k. flow.before) (packets_in (flow_input number most h)) all more) (sym (same flow.input)) over)

status_or : (event : Option Event) (format : Option CaptureFormat) (X Y : Type 0) (status : ℕ) → (X → Y) → StatusOr event format X status → StatusOr event format Y status
status_or (Some event) format X Y status up h = h
status_or None (Some format) X Y status up h = up h
status_or None None X Y status up h = h

pub status_map : (a b : Folder) → SameHeld a b → (number most : ℕ) (flows : List FlowLine) (status : ℕ) → FlowsStatus a number most flows status → FlowsStatus b number most flows status
status_map a b same number most [] status h = h
status_map a b same number most (flow ∷ flows) status h =
    let input = flow_input number most (a flow.input) in
    let over = status_or input.event input.format _ (FlowsStatus b (number + 1) (most - length input.frames) flows status) status (λ x. status_map a b same (number + 1) (most - length input.frames) flows status x) h in
    subst (λ (h : Option (List ℕ)). StatusOr (flow_input number most h).event (flow_input number most h).format (FlowsStatus b (number + 1) (most - length (flow_input number most h).frames) flows status) status) (sym (same flow.input)) over

same_back : (a b : Folder) → SameHeld a b → SameHeld b a
same_back a b same = λ name. sym (same name)

-- ---- the parts of a report

pub done_expected : (file : List ℕ) (old new : Place) (met : Bool) → IsExpected file done_line old new met → IsJudgedTo done_awaited ended_awaited file old new met
done_expected file old new true e =
    let up = λ (all : Bool) (more : List ℕ) (is : more ≡ []). ap (λ t. done_line ++ t) is ∙ append-nil done_line in
    let down = λ (all : Bool) (more : List ℕ) (is : done_line ++ more ≡ done_line). rest_of done_line more [] (is ∙ sym (append-nil done_line)) in
    (subst (λ (n : ℕ). ComesTo done_awaited (drop old.at file) old.lines ended_awaited (drop new.at file) n) (sym e.1) (stands done_awaited ended_awaited (drop old.at file) (drop new.at file) done_line e.0 done_whole up down old.lines), e.2)
done_expected file old new false e =
    subst (BadBehind done_awaited (drop old.at file) old.lines) (sym e.2)
    (differs done_awaited (drop old.at file) done_line e.0 e.1 ([], append-nil done_line) (λ all whole is. inr ([], is ∙ sym (append-nil done_line))) old.lines)

module _ (script : Script) (w : ℕ) (held : Folder) where
  abbrev Flows : Bool → List ℕ → Type 0
  Flows = λ b u. FlowsFrom script w held 1 packets_limit script.flows b u

  pub first_expected : (file : List ℕ) (a b : Place) (met : Bool) (done upto : ℕ) → done ≡ 0 → upto ≡ before script 0 → IsExpected file (replies_text script.nodes script.steps done (upto - done)) a b met → IsJudgedTo (ScriptFrom script w held) Flows file a b met
  first_expected file a b met done upto zero up e =
      let text : upto - done ≡ before script 0 = omega (arith, zero, up) in
      let is : replies_text script.nodes script.steps done (upto - done) ≡ replies_text script.nodes script.steps 0 (before script 0) = ap (replies_text script.nodes script.steps done) text ∙ ap (λ n. replies_text script.nodes script.steps n (before script 0)) zero in
      then_expected (replies_text script.nodes script.steps 0 (before script 0)) Flows file a b met (replies_whole script.nodes script.steps 0 (before script 0)) (flows_some script w held 1 packets_limit script.flows)
      (subst (λ (t : List ℕ). IsExpected file t a b met) is e)

  pub flows_judged : (other : Folder) → SameHeld held other → (file file' : List ℕ) (a b c : Place) (met : Bool) (w' : ℕ) → w' ≡ w → file' ≡ file → IsJudgedTo (ScriptFrom script w held) Flows file a b true
      → IsJudgedTo (FlowsFrom script w' other 1 packets_limit script.flows) done_awaited file' b c met → IsJudgedTo (ScriptFrom script w held) done_awaited file a c met
  flows_judged other same file file' a b c met w' many is one two =
      let Others : Bool → List ℕ → Type 0 = FlowsFrom script w other 1 packets_limit script.flows in
      let turn = judged_same Flows Others file b one.1 (λ all text from. flows_map script w other held (same_back held other same) 1 packets_limit script.flows all text from) (λ all text from. flows_map script w held other same 1 packets_limit script.flows all text from) in
      let by_w = subst (λ (n : ℕ). IsJudgedTo (FlowsFrom script n other 1 packets_limit script.flows) done_awaited file' b c met) many two in
      judged_on (ScriptFrom script w held) Others done_awaited file a b c met (judged_on (ScriptFrom script w held) Flows Others file a b b true one turn) (subst (λ (f : List ℕ). IsJudgedTo Others done_awaited f b c met) is by_w)

  pub end_judged : (file file' : List ℕ) (a c d : Place) (met : Bool) → file' ≡ file → IsJudgedTo (ScriptFrom script w held) done_awaited file a c true → IsExpected file' done_line c d met → IsJudgedTo (ScriptFrom script w held) ended_awaited file a d met
  end_judged file file' a c d met is one e = judged_on (ScriptFrom script w held) done_awaited ended_awaited file a c d met one (done_expected file c d met (subst (λ (f : List ℕ). IsExpected f done_line c d met) is e))

  -- ---- what it comes to

  ordered_of : (own : List ℕ) → IsSoundScript own script → (j : ℕ) (flow : FlowLine) → slice_get script.flows j ≡ Some flow → flow.before ≤ before script (1 + j)
  ordered_of own sound j flow at =
      let is : before script j ≡ flow.before = ap (λ (o : Option FlowLine). unwrap_or (option_map (λ (f : FlowLine). f.before) o) (length script.steps)) at in
      let next : j + 1 ≡ 1 + j = omega arith in
      subst (λ (n : ℕ). flow.before ≤ before script n) next (let up = (sound.order j).0 in omega (arith, up, is))

  module _ (some : 0 < w) (own : List ℕ) (sound : IsSoundScript own script) (whole : FlowsStatus held 1 packets_limit script.flows 0) (file : List ℕ) where
    bad_is : (l : ℕ) → BadBehind (ScriptFrom script w held) file 0 l → IsFirstBad script w held file l
    bad_is l b =
        let here : b.here ≡ l = let is = b.is in omega (arith, is) in
        subst (IsFirstBad script w held file) here (first_bad script w held some whole (ordered_of own sound) file b.here b.bad)

    pub audited_bad : (at : Place) → IsJudgedTo (ScriptFrom script w held) ended_awaited file front_place at false → IsFirstBad script w held file at.lines
    audited_bad at j = bad_is at.lines j

    pub audited_longer : (at : Place) (longer : Bool) (line : ℕ) → IsJudgedTo (ScriptFrom script w held) ended_awaited file front_place at true → longer ≡ nat_lt at.at (length file) → longer ≡ true → line ≡ at.lines + 1 → IsFirstBad script w held file line
    audited_longer at longer line j is longer_is line_is =
        let more : at.at < length file = ltb-true at.at (length file) (sym is ∙ longer_is) in
        let left : drop at.at file ≢ [] = λ none. absurd (omega (arith, more, length-drop at.at file, ap length none)) in
        subst (IsFirstBad script w held file) (sym line_is) (bad_is (at.lines + 1) (j.0.no (at.lines + 1) (more_left (drop at.at file) at.lines left)))

    pub audited_yes : (at : Place) (longer : Bool) → IsJudgedTo (ScriptFrom script w held) ended_awaited file front_place at true → longer ≡ nat_lt at.at (length file) → longer ≡ false → IsReport script w held file
    audited_yes at longer j is longer_is =
        let all : length file ≤ at.at = ltb-false at.at (length file) (sym is ∙ longer_is) in
        may_be_all script w held some whole (ordered_of own sound) file (j.0.yes (nothing (drop at.at file) (let few = all in omega (arith, few, length-drop at.at file))))
      where
        nothing : (xs : List ℕ) → length xs ≡ 0 → xs ≡ []
        nothing [] none = refl
        nothing (x ∷ xs) none = absurd (omega (arith, none))
