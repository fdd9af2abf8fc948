-- What one more flow adds to the flows that have run, and to their report.
use Rattle.std.proofs.Common.{◌≡◌, ◌<◌, ℕ, zero, suc, ◌+◌, ◌-◌, Bool, true, false, cond, List, [], ◌∷◌, ◌++◌, map, length, take, Option, Some, None, refl, sym, ap, subst, ◌∙◌, arith, append_assoc}
use Rattle.std.specs.Prelude.{All, is_some, not, ◌==◌, ◌&&◌, slice_get, option_map}
use Rattle.std.specs.List.{list_all, concat, cons_option}
use Rattle.std.proofs.lemmas.Bool.{and_parts, false≢true}
use Rattle.std.proofs.lemmas.List.{append-nil, map-append}
use Rattle.std.proofs.lemmas.List.Elements.{All-nil, All-cons, All-head, All-tail}
use Rattle.std.proofs.lemmas.List.Folds.{concat-append}
use Rattle.std.proofs.lemmas.Option.{none-some, same_Some}
use Rattle.label_commands.specs.declared.flow_lines.flow.FlowLine.{FlowLine}
use Rattle.label_commands.specs.declared.script.Script.{Script}
use Rattle.shared_tables.specs.Plan.{PlanState}
use Rattle.call_report.specs.Report.{Folder, Versions}
use Rattle.call_report.specs.Event.{Event}
use Rattle.call_report.specs.Output.{Output}
use Rattle.script_run.specs.flow_run.Input.{flow_input}
use Rattle.script_run.specs.flow_run.Run.{FlowRun, IsRun, is_judged, goes_on, run_text, run_end, output_capture, run_output}
use Rattle.script_run.specs.Runs.{AreRuns, is_done, last_event}
use Rattle.script_run.specs.Report.{first_replies, replies_behind, turn_text, text_so_far, pause_text, runs_outputs}
use Rattle.script_run.specs.Ends.{last_of}

-- how many packets may still be read behind flows of which so many were judged
abbrev pub left_after : ℕ → Versions → ℕ
left_after most [] = most
left_after most (lists ∷ seen) = left_after (most - length lists) seen

pub left_behind : (most : ℕ) (seen : Versions) (lists : List (List ℕ)) → left_after most (seen ++ lists ∷ []) ≡ left_after most seen - length lists
left_behind most [] lists = refl
left_behind most (first ∷ seen) lists = left_behind (most - length first) seen lists

-- ---- the flows that have run

module _ (plan : PlanState) (held : Folder) where
  pub as_many_runs : (number most : ℕ) (flows : List FlowLine) (seen : Versions) (runs : List FlowRun) → AreRuns plan held number most flows seen runs → length runs ≡ length seen
  as_many_runs number most [] [] [] are = refl
  as_many_runs number most [] [] (run ∷ runs) are = absurd are
  as_many_runs number most [] (lists ∷ seen) [] are = absurd are
  as_many_runs number most [] (lists ∷ seen) (run ∷ runs) are = absurd are
  as_many_runs number most (flow ∷ flows) [] [] are = refl
  as_many_runs number most (flow ∷ flows) [] (run ∷ runs) are = absurd are
  as_many_runs number most (flow ∷ flows) (lists ∷ seen) [] are = absurd are
  as_many_runs number most (flow ∷ flows) (lists ∷ seen) (run ∷ runs) are = ap suc (as_many_runs (number + 1) (most - length lists) flows seen runs are.5)

  -- what holds of each flow that was begun holds of the flow of each run
  pub of_each_flow : (P : FlowLine → Type 0) (number most : ℕ) (flows : List FlowLine) (seen : Versions) (runs : List FlowRun) → AreRuns plan held number most flows seen runs
      → ((j : ℕ) (flow : FlowLine) → j < length seen → slice_get flows j ≡ Some flow → P flow) → All (λ (run : FlowRun). P run.flow) runs
  of_each_flow P number most [] [] [] are each = All-nil (λ (run : FlowRun). P run.flow)
  of_each_flow P number most [] [] (run ∷ runs) are each = absurd are
  of_each_flow P number most [] (lists ∷ seen) [] are each = absurd are
  of_each_flow P number most [] (lists ∷ seen) (run ∷ runs) are each = absurd are
  of_each_flow P number most (flow ∷ flows) [] [] are each = All-nil (λ (run : FlowRun). P run.flow)
  of_each_flow P number most (flow ∷ flows) [] (run ∷ runs) are each = absurd are
  of_each_flow P number most (flow ∷ flows) (lists ∷ seen) [] are each = absurd are
  of_each_flow P number most (flow ∷ flows) (lists ∷ seen) (run ∷ runs) are each =
      All-cons (λ (r : FlowRun). P r.flow) run runs (subst P (sym are.1) (each 0 flow (omega arith) refl))
      (of_each_flow P (number + 1) (most - length lists) flows seen runs are.5 (λ j next before at. each (suc j) next (omega (arith, before)) at))

  -- the next flow behind flows that all went on
  pub one_more_run : (number most : ℕ) (flows : List FlowLine) (seen : Versions) (runs : List FlowRun) (flow : FlowLine) (lists : List (List ℕ)) (run : FlowRun) → AreRuns plan held number most flows seen runs
      → list_all goes_on runs ≡ true → slice_get flows (length seen) ≡ Some flow → run.number ≡ number + length seen → run.flow ≡ flow
      → run.input ≡ flow_input (number + length seen) (left_after most seen) (held flow.input) → IsRun plan run lists → AreRuns plan held number most flows (seen ++ lists ∷ []) (runs ++ run ∷ [])
  one_more_run number most [] seen runs flow lists run are on at numbered of input is = absurd (none-some flow at)
  one_more_run number most (first ∷ flows) [] [] flow lists run are on at numbered of input is =
      let one : number + 0 ≡ number = omega arith in
      let same : first ≡ flow = same_Some first flow at in (
        numbered ∙ one,
        of ∙ sym same,
        input ∙ ap (λ (n : ℕ). flow_input n most (held flow.input)) one ∙ ap (λ (f : FlowLine). flow_input number most (held f.input)) (sym same),
        is,
        λ more. absurd (omega (arith, more)),
        tt,
      )
  one_more_run number most (first ∷ flows) [] (r ∷ runs) flow lists run are on at numbered of input is = absurd are
  one_more_run number most (first ∷ flows) (ls ∷ seen) [] flow lists run are on at numbered of input is = absurd are
  one_more_run number most (first ∷ flows) (ls ∷ seen) (r ∷ runs) flow lists run are on at numbered of input is =
      let both = and_parts (goes_on r) (list_all goes_on runs) on in
      let count : number + suc (length seen) ≡ number + 1 + length seen = omega arith in (
        are.0,
        are.1,
        are.2,
        are.3,
        λ more. both.0,
        one_more_run (number + 1) (most - length ls) flows seen runs flow lists run are.5 both.1 at (numbered ∙ count) of
            (input ∙ ap (λ (n : ℕ). flow_input n (left_after (most - length ls) seen) (held flow.input)) count) is,
      )

pub all_on_behind : (runs : List FlowRun) (run : FlowRun) → list_all goes_on runs ≡ true → list_all goes_on (runs ++ run ∷ []) ≡ goes_on run
all_on_behind [] run on = by_cases (goes_on run) where
  by_cases : (b : Bool) → (b && true) ≡ b
  by_cases true = refl
  by_cases false = refl
all_on_behind (r ∷ runs) run on =
    let both = and_parts (goes_on r) (list_all goes_on runs) on in
    ap (λ (b : Bool). b && list_all goes_on (runs ++ run ∷ [])) both.0 ∙ all_on_behind runs run both.1

pub last_event_behind : (runs : List FlowRun) (run : FlowRun) → last_event (runs ++ run ∷ []) ≡ last_event (run ∷ [])
last_event_behind [] run = refl
last_event_behind (r ∷ []) run = refl
last_event_behind (r ∷ next ∷ runs) run = last_event_behind (next ∷ runs) run

-- ---- their texts

module _ (script : Script) where
  abbrev pub turns_text : List FlowRun → List ℕ
  turns_text runs = concat (map (turn_text script) runs)

  pub turns_behind : (runs : List FlowRun) (run : FlowRun) → turns_text (runs ++ run ∷ []) ≡ turns_text runs ++ turn_text script run
  turns_behind runs run =
      ap concat (map-append (turn_text script) runs (run ∷ []))
      ∙ concat-append (map (turn_text script) runs) (turn_text script run ∷ [])
      ∙ ap (λ t. turns_text runs ++ t) (append-nil (turn_text script run))

  pub so_far_behind : (runs : List FlowRun) (run : FlowRun) → text_so_far script (runs ++ run ∷ []) ≡ turns_text runs ++ run_text script.nodes run
  so_far_behind [] run = refl
  so_far_behind (r ∷ []) run = ap (λ t. t ++ run_text script.nodes run) (sym (append-nil (turn_text script r)))
  so_far_behind (r ∷ next ∷ runs) run =
      ap (λ t. turn_text script r ++ t) (so_far_behind (next ∷ runs) run)
      ∙ sym (append_assoc (turn_text script r) (turns_text (next ∷ runs)) (run_text script.nodes run))

  pub pause_behind : (runs : List FlowRun) (run : FlowRun) → pause_text script (runs ++ run ∷ []) ≡ first_replies script ++ (turns_text runs ++ run_text script.nodes run)
  pause_behind [] run = ap (λ t. first_replies script ++ t) (so_far_behind [] run)
  pause_behind (r ∷ runs) run = ap (λ t. first_replies script ++ t) (so_far_behind (r ∷ runs) run)

  -- where the next flow comes, its replies stand behind the flow
  pub turn_on : (run : FlowRun) → goes_on run ≡ true → turn_text script run ≡ run_text script.nodes run ++ (run_end run ++ replies_behind script run)
  turn_on run on = by_test (goes_on run) on where
    by_test : (b : Bool) → b ≡ true → run_text script.nodes run ++ cond b (run_end run ++ replies_behind script run) [] ≡ run_text script.nodes run ++ (run_end run ++ replies_behind script run)
    by_test true on = refl
    by_test false on = absurd (false≢true on)

  pub turn_off : (run : FlowRun) → goes_on run ≡ false → turn_text script run ≡ run_text script.nodes run
  turn_off run off = by_test (goes_on run) off where
    by_test : (b : Bool) → b ≡ false → run_text script.nodes run ++ cond b (run_end run ++ replies_behind script run) [] ≡ run_text script.nodes run
    by_test true off = absurd (false≢true (sym off))
    by_test false off = append-nil (run_text script.nodes run)

  pub not_done : (runs : List FlowRun) (run : FlowRun) → list_all goes_on runs ≡ true → goes_on run ≡ false → is_done script (runs ++ run ∷ []) ≡ false
  not_done runs run on off = by_test (length (runs ++ run ∷ []) == length script.flows) (list_all goes_on (runs ++ run ∷ [])) (all_on_behind runs run on ∙ off) where
    by_test : (a b : Bool) → b ≡ false → (a && b) ≡ false
    by_test true b off = off
    by_test false b off = refl

-- a run behind whose capture an event stands doesn't go on
pub event_stops : (run : FlowRun) (event : Event) → run.input.event ≡ Some event → goes_on run ≡ false
event_stops run event is = by_test (is_judged run) (is_some run.input.format) run.input.event is where
  by_test : (a b : Bool) (e : Option Event) → e ≡ Some event → (a && b && not (is_some e)) ≡ false
  by_test true true (Some e) is = refl
  by_test true false (Some e) is = refl
  by_test false true (Some e) is = refl
  by_test false false (Some e) is = refl
  by_test a b None is = absurd (none-some event is)

-- ---- the flow in hand

pub in_hand : (flows : List FlowLine) (k : ℕ) (flow : FlowLine) → slice_get flows k ≡ Some flow → last_of (take (suc k) flows) ≡ Some flow
in_hand [] k flow at = absurd (none-some flow at)
in_hand (first ∷ flows) zero flow at = at
in_hand (first ∷ []) (suc k) flow at = absurd (none-some flow at)
in_hand (first ∷ next ∷ flows) (suc k) flow at = in_hand (next ∷ flows) k flow at

pub of_flow_in_hand : (P : FlowLine → Type 0) (flows : List FlowLine) (k : ℕ) (flow : FlowLine) → slice_get flows k ≡ Some flow → All P (take (suc k) flows) → P flow
of_flow_in_hand P [] k flow at all = absurd (none-some flow at)
of_flow_in_hand P (first ∷ flows) zero flow at all = subst P (same_Some first flow at) (All-head P first [] all)
of_flow_in_hand P (first ∷ flows) (suc k) flow at all = of_flow_in_hand P flows k flow at (All-tail P first (take (suc k) flows) all)

-- ---- what flows make

-- what holds of the output of each run holds of all outputs
pub of_each_output : (P : Output → Type 0) (runs : List FlowRun) → All (λ (run : FlowRun). (output : Output) → run_output run ≡ Some output → P output) runs → All P (runs_outputs runs)
of_each_output P [] all = All-nil P
of_each_output P (run ∷ runs) all =
    let Has = λ (r : FlowRun). (output : Output) → run_output r ≡ Some output → P output in
    by_output (run_output run) (All-head Has run runs all) (of_each_output P runs (All-tail Has run runs all)) where
      by_output : (made : Option Output) → ((output : Output) → made ≡ Some output → P output) → All P (runs_outputs runs) → All P (cons_option made (runs_outputs runs))
      by_output None here rest = rest
      by_output (Some output) here rest = All-cons P output (runs_outputs runs) (here output refl) rest

-- an output has the name that its flow gives
pub output_named : (run : FlowRun) (output : Output) → run_output run ≡ Some output → run.flow.output ≡ Some output.name
output_named run output is = by_name run.flow.output is where
  by_name : (name : Option (List ℕ)) → option_map (λ n. record { name = n; octets = output_capture run }) name ≡ Some output → name ≡ Some output.name
  by_name None is = absurd (none-some output is)
  by_name (Some n) is = ap (λ (o : Output). Some o.name) (same_Some _ output is)
