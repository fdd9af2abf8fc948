-- What flows that have run say of the status that is due, and that there is one way to run under given versions.
use Rattle.std.proofs.Common.{◌≡◌, ℕ, ◌+◌, ◌-◌, Bool, true, false, cond, List, [], ◌∷◌, length, Option, Some, None, refl, sym, ap, subst, ◌∙◌, arith}
use Rattle.std.specs.Prelude.{is_some, not, ◌&&◌}
use Rattle.std.specs.List.{list_all}
use Rattle.std.proofs.lemmas.Bool.{and_parts, eqb-true, false≢true}
use Rattle.std.proofs.lemmas.List.{length-map}
use Rattle.std.proofs.lemmas.Option.{none-some, same_Some}
use Rattle.label_commands.specs.declared.flow_lines.flow.FlowLine.{FlowLine}
use Rattle.shared_tables.specs.Plan.{PlanState}
use Rattle.label_flow.specs.Pair.{PairState}
use Rattle.label_flow.specs.Walked.{AreWalked}
use Rattle.label_flow.proofs.Law.{walked_packets_are_determined}
use Rattle.captures.specs.declared.format.CaptureFormat.{CaptureFormat}
use Rattle.call_report.specs.Report.{Folder, Versions}
use Rattle.call_report.specs.Event.{Event}
use Rattle.script_run.specs.flow_run.Input.{FlowInput, flow_input, packets_in}
use Rattle.script_run.specs.flow_run.Run.{FlowRun, IsRun, is_judged, goes_on}
use Rattle.script_run.specs.Runs.{AreRuns, last_event, StatusOr, FlowsStatus}

-- ---- one way

of_parts : ℕ → FlowLine → FlowInput → List PairState → FlowRun
of_parts number flow input pairs = record { number = number; flow = flow; input = input; pairs = pairs }

same_parts : (a b : FlowRun) → a.number ≡ b.number → a.flow ≡ b.flow → a.input ≡ b.input → a.pairs ≡ b.pairs → a ≡ b
unfolding of_parts
same_parts a b number flow input pairs =
    ap (λ n. of_parts n a.flow a.input a.pairs) number
    ∙ ap (λ f. of_parts b.number f a.input a.pairs) flow
    ∙ ap (λ i. of_parts b.number b.flow i a.pairs) input
    ∙ ap (λ p. of_parts b.number b.flow b.input p) pairs

pub one_run : (plan : PlanState) (a b : FlowRun) (lists : List (List ℕ)) → a.number ≡ b.number → a.flow ≡ b.flow → a.input ≡ b.input → IsRun plan a lists → IsRun plan b lists → a ≡ b
one_run plan a b lists number flow input is is' =
    let hops : AreWalked plan a.flow.hops (packets_in a.input) b.pairs =
    subst (λ (i : FlowInput). AreWalked plan a.flow.hops (packets_in i) b.pairs) (sym input) (subst (λ (f : FlowLine). AreWalked plan f.hops (packets_in b.input) b.pairs) (sym flow) is'.walked) in
    same_parts a b number flow input (walked_packets_are_determined plan a.flow.hops (packets_in a.input) a.pairs b.pairs is.walked hops (is.versions ∙ sym is'.versions))

module _ (plan : PlanState) (held : Folder) where
  pub one_way : (number most : ℕ) (flows : List FlowLine) (seen : Versions) (runs runs' : List FlowRun) → AreRuns plan held number most flows seen runs → AreRuns plan held number most flows seen runs' → runs ≡ runs'
  one_way number most flows [] [] [] are are' = refl
  one_way number most [] [] [] (b ∷ others) are are' = absurd are'
  one_way number most (flow ∷ flows) [] [] (b ∷ others) are are' = absurd are'
  one_way number most [] [] (a ∷ more) others are are' = absurd are
  one_way number most (flow ∷ flows) [] (a ∷ more) others are are' = absurd are
  one_way number most [] (lists ∷ seen) [] others are are' = absurd are
  one_way number most [] (lists ∷ seen) (a ∷ more) others are are' = absurd are
  one_way number most (flow ∷ flows) (lists ∷ seen) [] others are are' = absurd are
  one_way number most (flow ∷ flows) (lists ∷ seen) (a ∷ more) [] are are' = absurd are'
  one_way number most (flow ∷ flows) (lists ∷ seen) (a ∷ more) (b ∷ others) are are' =
      ap (λ r. r ∷ more) (one_run plan a b lists (are.0 ∙ sym are'.0) (are.1 ∙ sym are'.1) (are.2 ∙ sym are'.2) are.3 are'.3)
      ∙ ap (λ rs. b ∷ rs) (one_way (number + 1) (most - length lists) flows seen more others are.5 are'.5)

-- ---- statuses

by_event : (found : Option Event) (format : Option CaptureFormat) (behind : Type 0) (event : Event) → found ≡ Some event → StatusOr found format behind event.status
by_event (Some x) format behind event is = sym (ap (λ (y : Event). y.status) (same_Some x event is))
by_event None format behind event is = absurd (none-some event is)

by_next : (found : Option Event) (format : Option CaptureFormat) (behind : Type 0) (status : ℕ) → is_some format ≡ true → is_some found ≡ false → behind → StatusOr found format behind status
by_next (Some x) format behind status some none goes = absurd (false≢true (sym none))
by_next None (Some format) behind status some none goes = goes
by_next None None behind status some none goes = absurd (false≢true some)

-- the parts of a run that goes on
went_on : (run : FlowRun) → goes_on run ≡ true → (length run.pairs ≡ length run.input.frames) × (is_some run.input.format ≡ true) × (is_some run.input.event ≡ false)
went_on run on =
    let last = and_parts (is_judged run && is_some run.input.format) (not (is_some run.input.event)) on in
    let first = and_parts (is_judged run) (is_some run.input.format) last.0 in
    (eqb-true (length run.pairs) (length run.input.frames) first.0, first.1, not_true (is_some run.input.event) last.1) where
      not_true : (b : Bool) → not b ≡ true → b ≡ false
      not_true true e = absurd (false≢true e)
      not_true false e = refl

pub judged_event : (run : FlowRun) (event : Event) → last_event (run ∷ []) ≡ Some event → run.input.event ≡ Some event
judged_event run event is = by_test (is_judged run) is where
  by_test : (b : Bool) → cond b run.input.event None ≡ Some event → run.input.event ≡ Some event
  by_test true e = e
  by_test false e = absurd (none-some event e)

module _ (plan : PlanState) (held : Folder) where
  -- behind a run that went on, the status is that of the flows behind it
  status_behind : (number most : ℕ) (flow : FlowLine) (flows : List FlowLine) (lists : List (List ℕ)) (run : FlowRun) (status : ℕ) → run.input ≡ flow_input number most (held flow.input) → IsRun plan run lists → goes_on run ≡ true
      → FlowsStatus held (number + 1) (most - length lists) flows status → FlowsStatus held number most (flow ∷ flows) status
  status_behind number most flow flows lists run status input is on next =
      let parts = went_on run on in
      let many : length lists ≡ length run.input.frames = ap length (sym is.versions) ∙ length-map run.pairs (λ (p : PairState). p.walked.versions) ∙ parts.0 in
      let Next = λ (n : ℕ). FlowsStatus held (number + 1) (most - n) flows status in
      subst (λ (i : FlowInput). StatusOr i.event i.format (Next (length i.frames)) status) input (by_next run.input.event run.input.format (Next (length run.input.frames)) status parts.1 parts.2 (subst Next many next))

  pub event_status : (number most : ℕ) (flows : List FlowLine) (seen : Versions) (runs : List FlowRun) (event : Event) → AreRuns plan held number most flows seen runs → last_event runs ≡ Some event
      → FlowsStatus held number most flows event.status
  event_status number most flows seen [] event are is = absurd (none-some event is)
  event_status number most [] [] (run ∷ runs) event are is = absurd are
  event_status number most [] (lists ∷ seen) (run ∷ runs) event are is = absurd are
  event_status number most (flow ∷ flows) [] (run ∷ runs) event are is = absurd are
  event_status number most (flow ∷ flows) (lists ∷ seen) (run ∷ []) event are is =
      let Next = λ (n : ℕ). FlowsStatus held (number + 1) (most - n) flows event.status in
      subst (λ (i : FlowInput). StatusOr i.event i.format (Next (length i.frames)) event.status) are.2
      (by_event run.input.event run.input.format (Next (length run.input.frames)) event (judged_event run event is))
  event_status number most (flow ∷ flows) (lists ∷ []) (run ∷ next ∷ runs) event are is = absurd (no_more flows are.5) where
    no_more : (fs : List FlowLine) → AreRuns plan held (number + 1) (most - length lists) fs [] (next ∷ runs) → ⊥
    no_more [] a = a
    no_more (f ∷ fs) a = a
  event_status number most (flow ∷ flows) (lists ∷ more ∷ seen) (run ∷ next ∷ runs) event are is =
      status_behind number most flow flows lists run event.status are.2 are.3 (are.4 (omega arith)) (event_status (number + 1) (most - length lists) flows (more ∷ seen) (next ∷ runs) event are.5 is)

  pub done_status : (number most : ℕ) (flows : List FlowLine) (seen : Versions) (runs : List FlowRun) → AreRuns plan held number most flows seen runs → length runs ≡ length flows → list_all goes_on runs ≡ true
      → FlowsStatus held number most flows 0
  done_status number most [] seen runs are all on = refl
  done_status number most (flow ∷ flows) seen [] are all on = absurd (omega (arith, all))
  done_status number most (flow ∷ flows) [] (run ∷ runs) are all on = absurd are
  done_status number most (flow ∷ flows) (lists ∷ seen) (run ∷ runs) are all on =
      let both = and_parts (goes_on run) (list_all goes_on runs) on in
      status_behind number most flow flows lists run 0 are.2 are.3 both.0 (done_status (number + 1) (most - length lists) flows seen runs are.5 (omega (arith, all)) both.1)
