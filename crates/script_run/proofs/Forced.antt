-- Where no step stands beside a flow, versions that are lawful and leave nothing out are one list.
use Rattle.std.proofs.Common.{◌≡◌, ◌<◌, ℕ, suc, ◌+◌, ◌-◌, true, List, [], ◌∷◌, length, take, Option, Some, None, refl, sym, ap, subst, ◌∙◌, arith, inl, inr, ◌⊎◌, add-zero}
use Rattle.std.specs.Prelude.{All, IsTrue, IsSome, ◌==◌, slice_get}
use Rattle.std.specs.List.{list_all}
use Rattle.std.proofs.lemmas.Bool.{and_parts, eqb-true, false≢true}
use Rattle.std.proofs.lemmas.Option.{slice_get_within}
use Rattle.std.proofs.lemmas.List.Elements.{All-head, All-tail}
use Rattle.label_commands.specs.declared.flow_lines.flow.FlowLine.{FlowLine}
use Rattle.label_commands.specs.declared.script.Script.{Script}
use Rattle.label_commands.specs.Script.{before}
use Rattle.label_flow.specs.Schedule.{AreLawful, versions_in}
use Rattle.label_flow.proofs.Law.{versions_without_steps_are_forced}
use Rattle.call_report.specs.Report.{Folder, Versions}
use Rattle.call_report.specs.Event.{Event, packets_limit}
use Rattle.script_run.specs.flow_run.Input.{FlowInput, packets_in}
use Rattle.script_run.specs.flow_run.Run.{FlowRun, IsRun, is_judged, goes_on}
use Rattle.label_flow.specs.flow_access.Valid.{plan_of}
use Rattle.script_run.specs.Runs.{AreRuns, AreWholeRuns, IsLawfulRun, HasNoneBeside, last_event}
use Rattle.script_run.proofs.Runs.{event_stops}
use Rattle.script_run.proofs.Starting.{above_is}
use Rattle.script_run.proofs.Statuses.{one_run, judged_event}

-- ---- one flow

-- what a run without a step beside it says of its flow, by what it reads
level_run : (script : Script) (w : ℕ) (run : FlowRun) (flow : FlowLine) (input : FlowInput) (lists : List (List ℕ)) → run.flow ≡ flow → run.input ≡ input → versions_in run.pairs ≡ lists → IsTrue (is_judged run)
    → before script run.number ≡ flow.before → IsLawfulRun script w run → AreLawful (plan_of script) flow.hops w flow.before flow.before (take (length input.frames) (packets_in input)) lists
level_run script w run flow input lists of reads are judged none lawful =
    let Says = λ (f : FlowLine) (upto count : ℕ) (i : FlowInput) (ls : List (List ℕ)). AreLawful (plan_of script) f.hops w f.before upto (take count (packets_in i)) ls in
    let count : length run.pairs ≡ length input.frames = eqb-true (length run.pairs) (length run.input.frames) judged ∙ ap (λ (i : FlowInput). length i.frames) reads in
    subst (λ (ls : List (List ℕ)). Says flow flow.before (length input.frames) input ls) are
    (subst (λ (i : FlowInput). Says flow flow.before (length input.frames) i (versions_in run.pairs)) reads
    (subst (λ (n : ℕ). Says flow flow.before n run.input (versions_in run.pairs)) count
    (subst (λ (n : ℕ). Says flow n (length run.pairs) run.input (versions_in run.pairs)) none
    (subst (λ (f : FlowLine). Says f (before script run.number) (length run.pairs) run.input (versions_in run.pairs)) of lawful))))

-- ---- all flows

-- all of these flows have run, or an event ends the last one that has
abbrev Left : List FlowLine → List FlowRun → Type 0
Left flows runs = (length runs ≡ length flows) ⊎ IsSome (last_event runs)

-- no step stands beside these flows, numbered from here on
abbrev Still : Script → ℕ → List FlowLine → Type 0
Still script number flows = (place : ℕ) (flow : FlowLine) → slice_get flows place ≡ Some flow → before script (number + place) ≡ flow.before

still_behind : (script : Script) (number : ℕ) (flow : FlowLine) (flows : List FlowLine) → Still script number (flow ∷ flows) → Still script (number + 1) flows
still_behind script number flow flows still place next at =
    let moved : number + suc place ≡ number + 1 + place = omega arith in
    ap (before script) (sym moved) ∙ still (suc place) next at

some_event : (event : Option Event) → IsSome event → (found : Event) × (event ≡ Some found)
some_event (Some event) is = (event, refl)
some_event None is = absurd (false≢true is)

module _ (script : Script) (held : Folder) where
  abbrev Runs : ℕ → ℕ → List FlowLine → Versions → List FlowRun → Type 0
  Runs number most flows seen runs = AreRuns (plan_of script) held number most flows seen runs

  -- some flow has run where any is to run
  none_left : (number most : ℕ) (flows : List FlowLine) (lists : List (List ℕ)) (seen : Versions) (runs runs' : List FlowRun) → Runs number most flows [] runs → Runs number most flows (lists ∷ seen) runs' → Left flows runs → ⊥
  none_left number most [] lists seen runs runs' are are' left = are'
  none_left number most (flow ∷ flows) lists seen (run ∷ runs) runs' are are' left = are
  none_left number most (flow ∷ flows) lists seen [] runs' are are' (inl all) = omega (arith, all)
  none_left number most (flow ∷ flows) lists seen [] runs' are are' (inr event) = false≢true event

  -- so has the next one behind a run that goes on
  none_behind : (number most : ℕ) (flow : FlowLine) (flows : List FlowLine) (lists : List (List ℕ)) (seen : Versions) (run : FlowRun) (runs runs' : List FlowRun) → goes_on run ≡ true
      → Runs number most flows [] runs → Runs number most flows (lists ∷ seen) runs' → Left (flow ∷ flows) (run ∷ runs) → ⊥
  none_behind number most flow [] lists seen run runs runs' on are are' left = are'
  none_behind number most flow (next ∷ flows) lists seen run (r ∷ runs) runs' on are are' left = are
  none_behind number most flow (next ∷ flows) lists seen run [] runs' on are are' (inl all) = omega (arith, all)
  none_behind number most flow (next ∷ flows) lists seen run [] runs' on are are' (inr some) =
      let event = some_event (last_event (run ∷ [])) some in
      false≢true (sym (event_stops run event.0 (judged_event run event.0 event.1)) ∙ on)

  no_run : (number most : ℕ) (flows : List FlowLine) (lists : List (List ℕ)) (seen : Versions) → Runs number most flows (lists ∷ seen) [] → ⊥
  no_run number most [] lists seen are = are
  no_run number most (flow ∷ flows) lists seen are = are

  left_behind : (flow : FlowLine) (flows : List FlowLine) (run next : FlowRun) (runs : List FlowRun) → Left (flow ∷ flows) (run ∷ next ∷ runs) → Left flows (next ∷ runs)
  left_behind flow flows run next runs (inl all) = inl (omega (arith, all))
  left_behind flow flows run next runs (inr event) = inr event

  abbrev Judged : List FlowRun → Type 0
  Judged runs = All (λ run. IsTrue (is_judged run)) runs

  module _ (w w' : ℕ) (some : 0 < w) (some' : 0 < w') where
    same_lists : (number most : ℕ) (flow : FlowLine) (flows : List FlowLine) (lists lists' : List (List ℕ)) (seen seen' : Versions) (run run' : FlowRun) (runs runs' : List FlowRun)
        → Runs number most (flow ∷ flows) (lists ∷ seen) (run ∷ runs) → Runs number most (flow ∷ flows) (lists' ∷ seen') (run' ∷ runs') → IsTrue (is_judged run) → IsTrue (is_judged run')
        → IsLawfulRun script w run → IsLawfulRun script w' run' → Still script number (flow ∷ flows) → lists ≡ lists'
    same_lists number most flow flows lists lists' seen seen' run run' runs runs' are are' judged judged' lawful lawful' still =
        let none : before script number ≡ flow.before = ap (before script) (sym (add-zero number)) ∙ still 0 flow refl in
        versions_without_steps_are_forced (plan_of script) flow.hops w w' flow.before (take (length run.input.frames) (packets_in run.input)) lists lists' some some'
        (level_run script w run flow run.input lists are.1 refl are.3.versions judged (ap (before script) are.0 ∙ none) lawful)
        (level_run script w' run' flow run.input lists' are'.1 (are'.2 ∙ sym are.2) are'.3.versions judged' (ap (before script) are'.0 ∙ none) lawful')

    same_run : (number most : ℕ) (flow : FlowLine) (flows : List FlowLine) (lists lists' : List (List ℕ)) (seen seen' : Versions) (run run' : FlowRun) (runs runs' : List FlowRun) → lists ≡ lists'
        → Runs number most (flow ∷ flows) (lists ∷ seen) (run ∷ runs) → Runs number most (flow ∷ flows) (lists' ∷ seen') (run' ∷ runs') → run ≡ run'
    same_run number most flow flows lists lists' seen seen' run run' runs runs' same are are' =
        one_run (plan_of script) run run' lists (are.0 ∙ sym are'.0) (are.1 ∙ sym are'.1) (are.2 ∙ sym are'.2) are.3 (subst (λ (ls : List (List ℕ)). IsRun (plan_of script) run' ls) (sym same) are'.3)

    one_seen : (number most : ℕ) (flows : List FlowLine) (seen seen' : Versions) (runs runs' : List FlowRun) → Runs number most flows seen runs → Runs number most flows seen' runs' → Judged runs → Judged runs'
        → Left flows runs → Left flows runs' → All (IsLawfulRun script w) runs → All (IsLawfulRun script w') runs' → Still script number flows → seen ≡ seen'
    one_seen number most flows [] [] runs runs' are are' judged judged' left left' lawful lawful' still = refl
    one_seen number most flows [] (m ∷ seen') runs runs' are are' judged judged' left left' lawful lawful' still = absurd (none_left number most flows m seen' runs runs' are are' left)
    one_seen number most flows (l ∷ seen) [] runs runs' are are' judged judged' left left' lawful lawful' still = absurd (none_left number most flows l seen runs' runs are' are left')
    one_seen number most [] (l ∷ seen) (m ∷ seen') runs runs' are are' judged judged' left left' lawful lawful' still = absurd are
    one_seen number most (f ∷ fs) (l ∷ seen) (m ∷ seen') [] runs' are are' judged judged' left left' lawful lawful' still = absurd are
    one_seen number most (f ∷ fs) (l ∷ seen) (m ∷ seen') (a ∷ runs) [] are are' judged judged' left left' lawful lawful' still = absurd are'
    one_seen number most (f ∷ fs) (l ∷ []) (m ∷ []) (a ∷ runs) (b ∷ runs') are are' judged judged' left left' lawful lawful' still =
        let J = λ (r : FlowRun). IsTrue (is_judged r) in
        ap (λ (ls : List (List ℕ)). ls ∷ [])
        (same_lists number most f fs l m [] [] a b runs runs' are are' (All-head J a runs judged) (All-head J b runs' judged') (All-head (IsLawfulRun script w) a runs lawful) (All-head (IsLawfulRun script w') b runs' lawful') still)
    one_seen number most (f ∷ fs) (l ∷ []) (m ∷ n ∷ seen') (a ∷ runs) (b ∷ runs') are are' judged judged' left left' lawful lawful' still =
        let J = λ (r : FlowRun). IsTrue (is_judged r) in
        let same : l ≡ m = same_lists number most f fs l m [] (n ∷ seen') a b runs runs' are are' (All-head J a runs judged) (All-head J b runs' judged') (All-head (IsLawfulRun script w) a runs lawful) (All-head (IsLawfulRun script w') b runs' lawful') still in
        let on : goes_on a ≡ true = ap goes_on (same_run number most f fs l m [] (n ∷ seen') a b runs runs' same are are') ∙ are'.4 (omega arith) in
        absurd (none_behind (number + 1) (most - length l) f fs n seen' a runs runs' on are.5 (subst (λ (ls : List (List ℕ)). Runs (number + 1) (most - length ls) fs (n ∷ seen') runs') (sym same) are'.5) left)
    one_seen number most (f ∷ fs) (l ∷ k ∷ seen) (m ∷ []) (a ∷ runs) (b ∷ runs') are are' judged judged' left left' lawful lawful' still =
        let J = λ (r : FlowRun). IsTrue (is_judged r) in
        let same : l ≡ m = same_lists number most f fs l m (k ∷ seen) [] a b runs runs' are are' (All-head J a runs judged) (All-head J b runs' judged') (All-head (IsLawfulRun script w) a runs lawful) (All-head (IsLawfulRun script w') b runs' lawful') still in
        let on : goes_on b ≡ true = ap goes_on (sym (same_run number most f fs l m (k ∷ seen) [] a b runs runs' same are are')) ∙ are.4 (omega arith) in
        absurd (none_behind (number + 1) (most - length l) f fs k seen b runs' runs on (subst (λ (ls : List (List ℕ)). Runs (number + 1) (most - length ls) fs [] runs') (sym same) are'.5) are.5 left')
    one_seen number most (f ∷ fs) (l ∷ k ∷ seen) (m ∷ n ∷ seen') (a ∷ []) (b ∷ runs') are are' judged judged' left left' lawful lawful' still = absurd (no_run (number + 1) (most - length l) fs k seen are.5)
    one_seen number most (f ∷ fs) (l ∷ k ∷ seen) (m ∷ n ∷ seen') (a ∷ c ∷ runs) (b ∷ []) are are' judged judged' left left' lawful lawful' still = absurd (no_run (number + 1) (most - length m) fs n seen' are'.5)
    one_seen number most (f ∷ fs) (l ∷ k ∷ seen) (m ∷ n ∷ seen') (a ∷ c ∷ runs) (b ∷ d ∷ runs') are are' judged judged' left left' lawful lawful' still =
        let J = λ (r : FlowRun). IsTrue (is_judged r) in
        let L = IsLawfulRun script w in
        let L' = IsLawfulRun script w' in
        let same : l ≡ m = same_lists number most f fs l m (k ∷ seen) (n ∷ seen') a b (c ∷ runs) (d ∷ runs') are are' (All-head J a (c ∷ runs) judged) (All-head J b (d ∷ runs') judged') (All-head L a (c ∷ runs) lawful) (All-head L' b (d ∷ runs') lawful') still in
        ap (λ (ls : List (List ℕ)). ls ∷ k ∷ seen) same
        ∙ ap (λ (rest : Versions). m ∷ rest)
        (one_seen (number + 1) (most - length l) fs (k ∷ seen) (n ∷ seen') (c ∷ runs) (d ∷ runs') are.5 (subst (λ (ls : List (List ℕ)). Runs (number + 1) (most - length ls) fs (n ∷ seen') (d ∷ runs')) (sym same) are'.5)
        (All-tail J a (c ∷ runs) judged) (All-tail J b (d ∷ runs') judged') (left_behind f fs a c runs left) (left_behind f fs b d runs' left')
        (All-tail L a (c ∷ runs) lawful) (All-tail L' b (d ∷ runs') lawful') (still_behind script number f fs still))

-- ---- the law

whole_left : (script : Script) (runs : List FlowRun) → AreWholeRuns script runs → Left script.flows runs
whole_left script runs whole = elim whole.last [
  | inl done ↦ inl (eqb-true (length runs) (length script.flows) (and_parts (length runs == length script.flows) (list_all goes_on runs) done).0)
  | inr event ↦ inr event
]

still_all : (script : Script) → HasNoneBeside script → Still script 1 script.flows
still_all script none place flow at =
    let next : 1 + place ≡ place + 1 = omega arith in
    ap (before script) next ∙ none place (slice_get_within script.flows place flow at) ∙ above_is script place flow at

pub forced : (script : Script) (held : Folder) (w w' : ℕ) (seen seen' : Versions) (runs runs' : List FlowRun) → HasNoneBeside script → 0 < w → 0 < w'
    → AreRuns (plan_of script) held 1 packets_limit script.flows seen runs → AreWholeRuns script runs → All (IsLawfulRun script w) runs
    → AreRuns (plan_of script) held 1 packets_limit script.flows seen' runs' → AreWholeRuns script runs' → All (IsLawfulRun script w') runs' → seen ≡ seen'
forced script held w w' seen seen' runs runs' none some some' are whole lawful are' whole' lawful' =
    one_seen script held w w' some some' 1 packets_limit script.flows seen seen' runs runs' are are' whole.judged whole'.judged (whole_left script runs whole) (whole_left script runs' whole') lawful lawful' (still_all script none)
