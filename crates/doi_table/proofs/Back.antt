-- Pairs that are one to one lead back.
use Rattle.std.proofs.Common.{◌≡◌, ℕ, Bool, true, false, ◌||◌, not, nat_eq, List, [], ◌∷◌, Some, IsTrue, refl, sym, ap, subst, ◌∙◌, inl, inr}
use Rattle.std.proofs.lemmas.Bool.{cases_eq, eq-eqb, and_parts, false≢true}
use Rattle.mls_label.specs.Cats.{has}
use Rattle.doi_table.specs.Pairs.{number_by, flipped, firsts, seconds, are_distinct, is_one_to_one}
use Rattle.doi_table.proofs.Lookups.{number_here, number_behind}

second_has : (pairs : List (ℕ × ℕ)) (n m : ℕ) → number_by pairs n ≡ Some m → has (seconds pairs) m ≡ true
second_has [] n m e = absurd (cc)
second_has (p ∷ pairs) n m e =
    elim (cases_eq n p.0) [
      | inl here ↦
          let same : p.1 ≡ m = let is : Some p.1 ≡ Some m = sym (number_here p pairs n here) ∙ e in cc in
          ap (λ b. b || has (seconds pairs) m) (eq-eqb m p.1 (sym same))
      | inr ne ↦ or_true (nat_eq m p.1) (has (seconds pairs) m) (second_has pairs n m (sym (number_behind p pairs n ne) ∙ e))
    ]
  where
    or_true : (a b : Bool) → b ≡ true → (a || b) ≡ true
    or_true true b h = refl
    or_true false b h = h

leads_back : (pairs : List (ℕ × ℕ)) (n m : ℕ) → are_distinct (seconds pairs) ≡ true → number_by pairs n ≡ Some m → number_by (flipped pairs) m ≡ Some n
leads_back [] n m distinct e = absurd (cc)
leads_back (p ∷ pairs) n m distinct e =
    let parts = and_parts (not (has (seconds pairs) p.1)) (are_distinct (seconds pairs)) distinct in
    let q : ℕ × ℕ = (p.1, p.0) in
    elim (cases_eq n p.0) [
      | inl here ↦
          let same : p.1 ≡ m = let is : Some p.1 ≡ Some m = sym (number_here p pairs n here) ∙ e in cc in
          number_here q (flipped pairs) m (sym same) ∙ ap Some (sym here)
      | inr ne ↦
          let rest : number_by pairs n ≡ Some m = sym (number_behind p pairs n ne) ∙ e in
          let other : m ≡ p.1 → ⊥ = λ is. false≢true (sym (ap not (subst (λ k. has (seconds pairs) k ≡ true) is (second_has pairs n m rest))) ∙ parts.0) in
          number_behind q (flipped pairs) m other ∙ leads_back pairs n m parts.1 rest
    ]

pub one_to_one_back : (pairs : List (ℕ × ℕ)) (n m : ℕ) → IsTrue (is_one_to_one pairs) → number_by pairs n ≡ Some m → number_by (flipped pairs) m ≡ Some n
one_to_one_back pairs n m one e =
    leads_back pairs n m (and_parts (are_distinct (firsts pairs)) (are_distinct (seconds pairs)) one).1 e

flipped-flipped : (pairs : List (ℕ × ℕ)) → flipped (flipped pairs) ≡ pairs
flipped-flipped [] = refl
flipped-flipped (p ∷ pairs) = ap (λ ps. p ∷ ps) (flipped-flipped pairs)

seconds-flipped : (pairs : List (ℕ × ℕ)) → seconds (flipped pairs) ≡ firsts pairs
seconds-flipped [] = refl
seconds-flipped (p ∷ pairs) = ap (λ ns. p.0 ∷ ns) (seconds-flipped pairs)

pub one_to_one_forth : (pairs : List (ℕ × ℕ)) (n m : ℕ) → IsTrue (is_one_to_one pairs) → number_by (flipped pairs) n ≡ Some m → number_by pairs m ≡ Some n
one_to_one_forth pairs n m one e =
    let distinct = (and_parts (are_distinct (firsts pairs)) (are_distinct (seconds pairs)) one).0 in
    sym (ap (λ ps. number_by ps m) (flipped-flipped pairs)) ∙ leads_back (flipped pairs) n m (ap are_distinct (seconds-flipped pairs) ∙ distinct) e
