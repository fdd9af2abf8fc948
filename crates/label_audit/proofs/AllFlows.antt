-- All flows of a script, one after the other.
use Rattle.std.proofs.Common.{◌≡◌, ◌≤◌, ℕ, zero, suc, ◌+◌, ◌-◌, Bool, true, List, [], ◌∷◌, length, drop, Option, Some, refl, ap, ◌∙◌, subst, arith, le_trans}
use Rattle.std.specs.Prelude.{slice_get}
use Rattle.std.proofs.lemmas.Option.{none-some, same_Some}
use Rattle.label_commands.specs.declared.flow_lines.flow.FlowLine.{FlowLine}
use Rattle.label_commands.specs.declared.script.Script.{Script}
use Rattle.call_report.specs.Event.{packets_limit}
use Rattle.call_report.specs.Report.{Folder}
use Rattle.script_run.specs.flow_run.Input.{flow_input}
use Rattle.script_run.specs.Runs.{FlowsStatus, StatusOr}
use Rattle.label_audit.specs.declared.place.Place.{Place}
use Rattle.label_audit.specs.inside.Grammar.{FlowsFrom}
use Rattle.label_audit.specs.inside.Reading.{IsJudgedTo}
use Rattle.label_audit.specs.inside.Flow.{flows_behind, done_awaited}
use Rattle.label_audit.proofs.WholeInputs.{whole_input}
use Rattle.label_audit.proofs.Judgings.{judged_on}
use Rattle.label_audit.proofs.CaptureJudged.{IsWhole}

pub drop_one : (xs : List FlowLine) (i : ℕ) (x : FlowLine) → slice_get xs i ≡ Some x → drop i xs ≡ x ∷ drop (i + 1) xs
drop_one [] i x at = absurd (none-some x at)
drop_one (y ∷ ys) zero x at = ap (λ (f : FlowLine). f ∷ ys) (same_Some y x at)
drop_one (y ∷ ys) (suc i) x at =
    let more : suc (i + 1) ≡ suc i + 1 = omega arith in
    drop_one ys i x at ∙ ap (λ n. x ∷ drop n (y ∷ ys)) more

drop_all : (xs : List FlowLine) (i : ℕ) → length xs ≤ i → drop i xs ≡ []
drop_all [] zero few = refl
drop_all [] (suc i) few = refl
drop_all (x ∷ xs) zero few = absurd (omega (arith, few))
drop_all (x ∷ xs) (suc i) few = drop_all xs i (omega (arith, few))

-- ---- the capture of the next flow

has_capture : (number most : ℕ) (held : Option (List ℕ)) (behind : Type 0) → most ≤ 1048576 → StatusOr (flow_input number most held).event (flow_input number most held).format behind 0 → IsWhole held
has_capture number most held behind few h =
    let whole = whole_input number most held behind h in
    (whole.file, whole.capture, whole.there, whole.read, whole.fault, le_trans whole.few few)

module _ (script : Script) (w : ℕ) (held : Folder) (file : List ℕ) (a0 : Place) where
  abbrev Start : Bool → List ℕ → Type 0
  Start = FlowsFrom script w held 1 packets_limit script.flows

  -- so many flows were judged
  pub record JudgedFlows (flow : ℕ) (at : Place) : Type 0 where
    pub most : ℕ
    pub few : most ≤ 1048576
    pub status : FlowsStatus held (flow + 1) most (drop flow script.flows) 0
    pub judged : IsJudgedTo Start (FlowsFrom script w held (flow + 1) most (drop flow script.flows)) file a0 at true

  module _ (flow : ℕ) (at : Place) (j : JudgedFlows flow at) (line : FlowLine) (at_line : slice_get script.flows flow ≡ Some line) where
    abbrev pub rest : List FlowLine
    rest = drop (flow + 1) script.flows

    pub next_status : FlowsStatus held (flow + 1) j.most (line ∷ rest) 0
    next_status = subst (λ (fs : List FlowLine). FlowsStatus held (flow + 1) j.most fs 0) (drop_one script.flows flow line at_line) j.status

    pub next_whole : IsWhole (held line.input)
    next_whole = has_capture (flow + 1) j.most (held line.input) _ j.few next_status

    pub next_judged : (next : Place) (met : Bool) → IsJudgedTo (FlowsFrom script w held (flow + 1) j.most (line ∷ rest)) (flows_behind script w held flow j.most line rest) file at next met
        → IsJudgedTo Start (flows_behind script w held flow j.most line rest) file a0 next met
    next_judged next met one =
        judged_on Start (FlowsFrom script w held (flow + 1) j.most (line ∷ rest)) (flows_behind script w held flow j.most line rest) file a0 at next met
        (subst (λ (fs : List FlowLine). IsJudgedTo Start (FlowsFrom script w held (flow + 1) j.most fs) file a0 at true) (drop_one script.flows flow line at_line) j.judged) one

    pub more_flows : (next : Place) → IsJudgedTo (FlowsFrom script w held (flow + 1) j.most (line ∷ rest)) (flows_behind script w held flow j.most line rest) file at next true → JudgedFlows (flow + 1) next
    more_flows next one =
        let input = flow_input (flow + 1) j.most (held line.input) in
        record {
          most = j.most - length input.frames;
          few = let few = j.few in omega (arith, few);
          status = (whole_input (flow + 1) j.most (held line.input) (FlowsStatus held (flow + 1 + 1) (j.most - length input.frames) rest 0) next_status).rest;
          judged = next_judged next true one;
        }

  pub last_flows : (flow : ℕ) (at : Place) → length script.flows ≤ flow → JudgedFlows flow at → IsJudgedTo Start done_awaited file a0 at true
  last_flows flow at all j = subst (λ (fs : List FlowLine). IsJudgedTo Start (FlowsFrom script w held (flow + 1) j.most fs) file a0 at true) (drop_all script.flows flow all) j.judged
