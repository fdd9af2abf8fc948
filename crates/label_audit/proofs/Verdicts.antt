-- What is judged piece by piece is what is said of the whole report.
use Rattle.std.proofs.Common.{◌≡◌, ◌<◌, ℕ, ◌+◌, ◌-◌, Bool, true, false, List, [], ◌∷◌, ◌++◌, length, Option, None, refl, sym, ap, ◌∙◌, subst, arith}
use Rattle.std.specs.Prelude.{All, IsTrue, is_some, if◌then◌else◌}
use Rattle.std.specs.Option.{option_map_or}
use Rattle.std.proofs.lemmas.List.{append-nil, length-map}
use Rattle.label_commands.specs.declared.flow_lines.flow.FlowLine.{FlowLine}
use Rattle.label_commands.specs.declared.script.Script.{Script}
use Rattle.label_flow.specs.Pair.{PairState}
use Rattle.call_report.specs.Event.{Event, packets_limit}
use Rattle.call_report.specs.Report.{Folder, Versions, report_text}
use Rattle.label_flow.specs.flow_access.Valid.{plan_of}
use Rattle.script_run.specs.flow_run.Input.{FlowInput, flow_input}
use Rattle.script_run.specs.flow_run.Run.{FlowRun, goes_on, is_judged}
use Rattle.script_run.specs.Runs.{AreRuns, FlowsStatus, IsLawfulRun, is_done, last_event}
use Rattle.script_run.specs.Report.{first_replies, runs_report}
use Rattle.label_audit.specs.Good.{IsFirstBad, IsLawfullyPrinted, IsReport}
use Rattle.label_audit.specs.inside.Awaited.{BadFrom}
use Rattle.label_audit.specs.inside.Grammar.{ScriptFrom}
use Rattle.label_audit.proofs.WholeInputs.{whole_input}
use Rattle.label_audit.proofs.Flows.{HaveRun, Ordered, eq_sides, flows_printed, on_when, printed_flows, text_of}

module _ (script : Script) (w : ℕ) (held : Folder) (some : 0 < w) where
  no_event : (number most : ℕ) (flows : List FlowLine) (seen : Versions) (runs : List FlowRun) → FlowsStatus held number most flows 0 → AreRuns (plan_of script) held number most flows seen runs → last_event runs ≡ None
  no_event number most flows [] [] whole are = refl
  no_event number most [] [] (run ∷ runs) whole are = absurd are
  no_event number most (flow ∷ flows) [] (run ∷ runs) whole are = absurd are
  no_event number most flows (lists ∷ seen) [] whole are = refl
  no_event number most [] (lists ∷ seen) (run ∷ runs) whole are = absurd are
  no_event number most (flow ∷ flows) (lists ∷ seen) (run ∷ []) whole are =
      let told = whole_input number most (held flow.input) (FlowsStatus held (number + 1) (most - length (flow_input number most (held flow.input)).frames) flows 0) whole in
      by (is_judged run) (ap (λ (i : FlowInput). i.event) are.2 ∙ told.event) where
        by : (b : Bool) → run.input.event ≡ None → (if b then run.input.event else None) ≡ None
        by true is = is
        by false is = refl
  no_event number most (flow ∷ flows) (lists ∷ []) (run ∷ next ∷ runs) whole are = absurd (no_next flows are.5) where
    no_next : (flows : List FlowLine) → AreRuns (plan_of script) held (number + 1) (most - length lists) flows [] (next ∷ runs) → ⊥
    no_next [] are = are
    no_next (flow ∷ flows) are = are
  no_event number most (flow ∷ flows) (lists ∷ more ∷ seen) (run ∷ next ∷ runs) whole are =
      let input = flow_input number most (held flow.input) in
      let told = whole_input number most (held flow.input) (FlowsStatus held (number + 1) (most - length input.frames) flows 0) whole in
      let on : goes_on run ≡ true = are.4 (omega arith) in
      let event : run.input.event ≡ None = ap (λ (i : FlowInput). i.event) are.2 ∙ told.event in
      let format : is_some run.input.format ≡ true = ap (λ (i : FlowInput). is_some i.format) are.2 ∙ told.format in
      let many : length lists ≡ length run.pairs = ap length (sym are.3.versions) ∙ length-map run.pairs (λ (pair : PairState). pair.walked.versions) in
      let judged : length run.pairs ≡ length input.frames = eq_sides (length run.pairs) (length run.input.frames) (sym (on_when run event format) ∙ on) ∙ ap (λ (i : FlowInput). length i.frames) are.2 in
      let same : most - length input.frames ≡ most - length lists = ap (λ (n : ℕ). most - n) (sym judged ∙ sym many) in
      no_event (number + 1) (most - length lists) flows (more ∷ seen) (next ∷ runs) (subst (λ (n : ℕ). FlowsStatus held (number + 1) n flows 0) same told.rest) are.5

  report_is : (runs : List FlowRun) → last_event runs ≡ None → report_text (runs_report script runs) ≡ first_replies script ++ text_of script w held some script.flows runs
  report_is runs none = ap (λ (e : Option Event). (first_replies script ++ text_of script w held some script.flows runs) ++ option_map_or (λ event. event.line) e []) none ∙ append-nil (first_replies script ++ text_of script w held some script.flows runs)

  module _ (whole : FlowsStatus held 1 packets_limit script.flows 0) (ordered : Ordered script w held some 1 script.flows) where
    have : (all : Bool) (text : List ℕ) → ScriptFrom script w held all text → (rest : List ℕ) × (text ≡ first_replies script ++ rest) × HaveRun script w held some 1 packets_limit script.flows all rest
    have all text from = (from.0, from.1, printed_flows script w held some 1 packets_limit script.flows all from.0 whole ordered from.2)

    printed_is : (all : Bool) (text rest : List ℕ) → text ≡ first_replies script ++ rest → (run : HaveRun script w held some 1 packets_limit script.flows all rest) → report_text (runs_report script run.runs) ≡ text
    printed_is all text rest is run =
        report_is run.runs (no_event 1 packets_limit script.flows run.seen run.runs whole run.are) ∙ ap (λ t. first_replies script ++ t) (sym run.is) ∙ sym is

    pub may_be_printed : (text : List ℕ) → ScriptFrom script w held false text → IsLawfullyPrinted script w held text
    may_be_printed text from =
        let h = have false text from in
        record { seen = h.2.seen; runs = h.2.runs; are = h.2.are; lawful = h.2.lawful; prints = printed_is false text h.0 h.1 h.2 }

    pub may_be_all : (text : List ℕ) → ScriptFrom script w held true text → IsReport script w held text
    may_be_all text from =
        let h = have true text from in
        record { seen = h.2.seen; runs = h.2.runs; are = h.2.are; lawful = h.2.lawful; done = h.2.done refl; prints = printed_is true text h.0 h.1 h.2 }

    from_runs : (all : Bool) (text : List ℕ) (seen : Versions) (runs : List FlowRun) → AreRuns (plan_of script) held 1 packets_limit script.flows seen runs → All (IsLawfulRun script w) runs → (all ≡ true → IsTrue (is_done script runs))
        → report_text (runs_report script runs) ≡ text → ScriptFrom script w held all text
    from_runs all text seen runs are lawful done prints = (
      text_of script w held some script.flows runs,
      sym prints ∙ report_is runs (no_event 1 packets_limit script.flows seen runs whole are),
      flows_printed script w held some 1 packets_limit script.flows seen runs all whole are lawful done,
    )

    pub was_printed : (text : List ℕ) → IsLawfullyPrinted script w held text → ScriptFrom script w held false text
    was_printed text p = from_runs false text p.seen p.runs p.are p.lawful (λ yes. absurd cc) p.prints

    pub was_all : (text : List ℕ) → IsReport script w held text → ScriptFrom script w held true text
    was_all text p = from_runs true text p.seen p.runs p.are p.lawful (λ yes. p.done) p.prints

    pub first_bad : (report : List ℕ) (l : ℕ) → BadFrom (ScriptFrom script w held) report l → IsFirstBad script w held report l
    first_bad report l b = record {
      before = λ k less.
          let g = b.before k less in
          record { front = g.front; first = g.first; more = g.more; printed = may_be_printed (g.front ++ g.more) g.printed };
      bad = λ g. b.bad (record { front = g.front; first = g.first; more = g.more; printed = was_printed (g.front ++ g.more) g.printed });
      other = λ all. b.other (was_all report all);
    }
