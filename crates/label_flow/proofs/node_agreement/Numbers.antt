-- What pairs give for a number.
use Rattle.std.proofs.Common.{◌≡◌, ℕ, ◌<◌, Bool, true, false, cond, List, [], ◌∷◌, Option, Some, None, refl, sym, ap, subst, ◌∙◌, arith, inl, inr}
use Rattle.std.specs.List.{All}
use Rattle.std.specs.Prelude.{option_map}
use Rattle.std.proofs.lemmas.Bool.{cases_eq, eq-eqb, ne_eqb}
use Rattle.std.proofs.lemmas.List.Elements.{All-head, All-tail}
use Rattle.doi_table.specs.declared.plan.DoiPlan.{DoiPlan}
use Rattle.doi_table.specs.Pairs.{number_by, flipped}
use Rattle.doi_table.specs.Definition.{AreBelow, IsDefinition, number_in}

number_here : (p : ℕ × ℕ) (pairs : List (ℕ × ℕ)) (n : ℕ) → n ≡ p.0 → number_by (p ∷ pairs) n ≡ Some p.1
number_here p pairs n e = ap (λ b. cond b (Some p.1) (number_by pairs n)) (eq-eqb n p.0 e)

number_behind : (p : ℕ × ℕ) (pairs : List (ℕ × ℕ)) (n : ℕ) → (n ≡ p.0 → ⊥) → number_by (p ∷ pairs) n ≡ number_by pairs n
number_behind p pairs n ne = ap (λ b. cond b (Some p.1) (number_by pairs n)) (ne_eqb n p.0 ne)

-- pairs that are turned round give numbers below the bound of all
turned_within : (bound n m : ℕ) (pairs : List (ℕ × ℕ)) → AreBelow bound pairs → number_by (flipped pairs) n ≡ Some m → m < bound
turned_within bound n m [] below e = absurd (cc)
turned_within bound n m (p ∷ pairs) below e =
    let P : ℕ × ℕ → Type 0 = λ q. (q.0 < bound) × (q.1 < bound) in
    elim (cases_eq n p.1) [
      | inl here ↦
          let same : p.0 ≡ m = let is : Some p.0 ≡ Some m = sym (number_here (p.1, p.0) (flipped pairs) n here) ∙ e in cc in
          omega (arith, (All-head P p pairs below).0)
      | inr ne ↦ turned_within bound n m pairs (All-tail P p pairs below) (sym (number_behind (p.1, p.0) (flipped pairs) n ne) ∙ e)
    ]

-- the local number of a category is a category
pub local_within : (plan : DoiPlan) (n m : ℕ) → IsDefinition plan → n < 65535 → number_in plan.trans (flipped plan.cats) n ≡ Some m → m < 65535
local_within plan n m is lt e = by plan.trans e
  where
    by : (b : Bool) → number_in b (flipped plan.cats) n ≡ Some m → m < 65535
    by true e = turned_within 65535 n m plan.cats is.is_plan.cats e
    by false e =
        let same : n ≡ m = cc in
        omega (arith)

-- what holds of all first numbers holds of a number that the pairs have
pub at_number : (P : ℕ → Type 0) (pairs : List (ℕ × ℕ)) (n m : ℕ) → All (λ (p : ℕ × ℕ). P p.0) pairs → number_by pairs n ≡ Some m → P n
at_number P [] n m all e = absurd (cc)
at_number P (p ∷ pairs) n m all e =
    elim (cases_eq n p.0) [
      | inl here ↦ subst P (sym here) (All-head (λ (q : ℕ × ℕ). P q.0) p pairs all)
      | inr ne ↦ at_number P pairs n m (All-tail (λ (q : ℕ × ℕ). P q.0) p pairs all) (sym (number_behind p pairs n ne) ∙ e)
    ]

-- what is mapped is there
pub mapped : (f : ℕ → ℕ) (r : Option ℕ) (a : ℕ) → option_map f r ≡ Some a → (c : ℕ) × (r ≡ Some c) × (f c ≡ a)
mapped f None a e = absurd (cc)
mapped f (Some c) a e = (c, refl, cc)
