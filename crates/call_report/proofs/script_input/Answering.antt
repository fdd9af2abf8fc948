-- The answer on the neighbouring hops of a flow is an answer to a script.
use Rattle.std.proofs.Common.{◌≡◌, ◌≢◌, ◌⊎◌, ℕ, List, [], ◌∷◌, Option, Some, None, refl, sym, ap, subst, ◌∙◌, arith, inl, inr}
use Rattle.label_commands.specs.declared.script.Script.{Script}
use Rattle.label_commands.specs.declared.flow_lines.flow.FlowLine.{FlowLine}
use Rattle.label_commands.specs.declared.flow_lines.hop.Hop.{Hop}
use Rattle.label_commands.specs.node_readings.Reading.{NamedMeanings}
use Rattle.shared_tables.specs.Plan.{PlanState}
use Rattle.label_flow.specs.flow_access.Valid.{plan_of}
use Rattle.call_report.specs.Report.{Report, late_report}
use Rattle.call_report.specs.script_input.Flow.{flow_numbered, versions_for, AreVersionsOf}
use Rattle.call_report.specs.script_input.Neighbours.{HopState, hop_under, EachTwo}
use Rattle.call_report.specs.script_input.Answer.{HopsAnswer, no_flow, bad_versions, compared}
use Rattle.call_report.proofs.script_input.Scripts.{IsAnswering}

module _ {X : Type 0} (finds : HopState → HopState → X → Type 0) (text : List X → List ℕ) (number : ℕ) (named : Option (List ℕ)) where
  abbrev Answers : Script → ℕ → Report → Type 0
  Answers = HopsAnswer finds text number named

  -- the status is 0 or 2
  no_other_status : (script : Script) (status : ℕ) (report : Report) → Answers script status report → (status ≢ 1) × (status ≢ 3) × (status ≢ 4) × (status ≢ 6)
  no_other_status script status report (no_flow none) = (λ e. omega (arith, e), λ e. omega (arith, e), λ e. omega (arith, e), λ e. omega (arith, e))
  no_other_status script status report (bad_versions flow is never) = (λ e. omega (arith, e), λ e. omega (arith, e), λ e. omega (arith, e), λ e. omega (arith, e))
  no_other_status script status report (compared flow found is are compares) = (λ e. omega (arith, e), λ e. omega (arith, e), λ e. omega (arith, e), λ e. omega (arith, e))

  none_or_no_line : (script : Script) (status : ℕ) (report : Report) → Answers script status report → (status ≡ 0) ⊎ (status ≡ 8) → report.last ≡ []
  none_or_no_line script status report (no_flow none) done = elim done [ inl zero ↦ absurd (omega (arith, zero)) | inr eight ↦ absurd (omega (arith, eight)) ]
  none_or_no_line script status report (bad_versions flow is never) done = elim done [ inl zero ↦ absurd (omega (arith, zero)) | inr eight ↦ absurd (omega (arith, eight)) ]
  none_or_no_line script status report (compared flow found is are compares) done = refl

  answer_pauses : (script : Script) (status : ℕ) (report : Report) → Answers script status report → report.pauses ≡ [] ∷ []
  answer_pauses script status report (no_flow none) = refl
  answer_pauses script status report (bad_versions flow is never) = refl
  answer_pauses script status report (compared flow found is are compares) = refl

  pub hops_are_answered : IsAnswering Answers
  hops_are_answered = record { other = no_other_status; no_line = none_or_no_line; late = answer_pauses }

-- ---- there is one answer, where two hops come to one thing

module _ {X : Type 0} (finds : HopState → HopState → X → Type 0) (once : (left right : HopState) (a b : X) → finds left right a → finds left right b → a ≡ b) where
  pub found_once : (plan : PlanState) (readings : List NamedMeanings) (hops : List Hop) (versions : List ℕ) (a b : List X) → EachTwo finds plan readings hops versions a
      → EachTwo finds plan readings hops versions b → a ≡ b
  found_once plan readings [] versions a b x y = absurd x
  found_once plan readings (hop ∷ []) [] a b x y = absurd x
  found_once plan readings (hop ∷ []) (v ∷ []) [] [] x y = refl
  found_once plan readings (hop ∷ []) (v ∷ []) [] (f ∷ b) x y = absurd y
  found_once plan readings (hop ∷ []) (v ∷ []) (f ∷ a) b x y = absurd x
  found_once plan readings (hop ∷ []) (v ∷ w ∷ versions) a b x y = absurd x
  found_once plan readings (left ∷ right ∷ hops) [] a b x y = absurd x
  found_once plan readings (left ∷ right ∷ hops) (v ∷ []) a b x y = absurd x
  found_once plan readings (left ∷ right ∷ hops) (v ∷ w ∷ versions) [] b x y = absurd x
  found_once plan readings (left ∷ right ∷ hops) (v ∷ w ∷ versions) (f ∷ a) [] x y = absurd y
  found_once plan readings (left ∷ right ∷ hops) (v ∷ w ∷ versions) (f ∷ a) (g ∷ b) x y =
      let first : f ≡ g = once (hop_under plan readings v left) (hop_under plan readings w right) f g x.0 y.0 in
      let rest : a ≡ b = found_once plan readings (right ∷ hops) (w ∷ versions) a b x.1 y.1 in
      λ i. first i ∷ rest i

  module _ (text : List X → List ℕ) (number : ℕ) (named : Option (List ℕ)) (script : Script) where
    one_flow : (a b : FlowLine) → flow_numbered script number ≡ Some a → flow_numbered script number ≡ Some b → a ≡ b
    one_flow a b x y = let same : ◌≡◌ {A = Option FlowLine} (Some a) (Some b) = sym x ∙ y in cc

    some_flow : (a : FlowLine) → flow_numbered script number ≡ None → flow_numbered script number ≡ Some a → ⊥
    some_flow a x y = absurd (let same : ◌≡◌ {A = Option FlowLine} None (Some a) = sym x ∙ y in cc)

    -- the flow's versions and what its hops come to, of another name of the flow
    same_versions : (a b : FlowLine) → a ≡ b → AreVersionsOf script number a (versions_for a named) → AreVersionsOf script number b (versions_for b named)
    same_versions a b same are = subst (λ (f : FlowLine). AreVersionsOf script number f (versions_for f named)) same are

    same_found : (a b : FlowLine) (found : List X) → a ≡ b → EachTwo finds (plan_of script) script.readings a.hops (versions_for a named) found
        → EachTwo finds (plan_of script) script.readings b.hops (versions_for b named) found
    same_found a b found same are = subst (λ (f : FlowLine). EachTwo finds (plan_of script) script.readings f.hops (versions_for f named) found) same are

    pub one_answer : (s t : ℕ) (r q : Report) → HopsAnswer finds text number named script s r → HopsAnswer finds text number named script t q → (s ≡ t) × (r ≡ q)
    one_answer s t r q (no_flow x) (no_flow y) = (refl, refl)
    one_answer s t r q (no_flow x) (bad_versions b y never) = absurd (some_flow b x y)
    one_answer s t r q (no_flow x) (compared b found y are compares) = absurd (some_flow b x y)
    one_answer s t r q (bad_versions a x never) (no_flow y) = absurd (some_flow a y x)
    one_answer s t r q (bad_versions a x never) (bad_versions b y never') = (refl, refl)
    one_answer s t r q (bad_versions a x never) (compared b found y are compares) = absurd (never (same_versions b a (one_flow b a y x) are))
    one_answer s t r q (compared a found x are compares) (no_flow y) = absurd (some_flow a y x)
    one_answer s t r q (compared a found x are compares) (bad_versions b y never) = absurd (never (same_versions a b (one_flow a b x y) are))
    one_answer s t r q (compared a found x are compares) (compared b found' y are' compares') = (
      refl,
      ap (λ f. late_report (text f) [])
          (found_once (plan_of script) script.readings b.hops (versions_for b named) found found' (same_found a b found (one_flow a b x y) compares) compares'),
    )
