-- The tests of dominance: of two labels, and of what two texts say.
use Rattle.std.proofs.Common.{◌≡◌, ℕ, ◌+◌, ◌-◌, ◌<◌, ◌↔◌, Bool, true, List, [], ◌∷◌, IsTrue, refl, sym, subst, ◌∙◌, arith, inl, inr}
use Rattle.std.specs.Prelude.{nat_eq, nat_le}
use Rattle.std.specs.List.{All, list_all, range_with_len}
use Rattle.std.proofs.lemmas.Bool.{eq-eqb, eqb-true, leb-true, le-leb, and_parts, and_from, or_cases, or_left, or_right, false≢true}
use Rattle.std.proofs.lemmas.List.Elements.{All-head, All-tail}
use Rattle.mls_label.specs.declared.label.Label.{Label}
use Rattle.mls_label.specs.Cats.{has, is_within}
use Rattle.mls_label.specs.Label.{Dominates}
use Rattle.mls_label.proofs.Law.{tests_give_sets, sets_have_categories, sets_of_a_test_have_what_passes}
use Rattle.mls_range.specs.LabelText.{IsTerm, term_has, cats_of_terms}
use Rattle.mls_range.specs.Computed.{LabelTerms, label_of_terms, dominates, dominates_by_terms}
use Rattle.mls_range.proofs.Counts.{all_in_range, in_range}

-- ---- labels

passes_each : (p : ℕ → Bool) (cats : List ℕ) (c : ℕ) → list_all p cats ≡ true → has cats c ≡ true → p c ≡ true
passes_each p [] c all member = absurd (false≢true member)
passes_each p (x ∷ cats) c all member =
    let both = and_parts (p x) (list_all p cats) all in
    elim (or_cases (nat_eq c x) (has cats c) member) [
      | inl e ↦ subst (λ k. p k ≡ true) (sym (eqb-true c x e)) both.0
      | inr m ↦ passes_each p cats c both.1 m
    ]

each_passes : (p : ℕ → Bool) (cats : List ℕ) → ((c : ℕ) → has cats c ≡ true → p c ≡ true) → list_all p cats ≡ true
each_passes p [] each = refl
each_passes p (x ∷ cats) each =
    and_from (p x) (list_all p cats) (each x (or_left (nat_eq x x) (has cats x) (eq-eqb x x refl))) (each_passes p cats (λ c m. each c (or_right (nat_eq c x) (has cats c) m)))

pub dominance : (a b : Label) → IsTrue (dominates a b) ↔ Dominates a b
dominance a b = (
  λ h.
      let both = and_parts (nat_le b.level a.level) (list_all (has a.cats) b.cats) h in
      record { level = leb-true b.level a.level both.0; cats = λ c m. passes_each (has a.cats) b.cats c both.1 m },
  λ d.
      and_from (nat_le b.level a.level) (list_all (has a.cats) b.cats) (le-leb b.level a.level d.level) (each_passes (has a.cats) b.cats d.cats),
)

-- ---- terms

abbrev covers_terms : (ℕ → Bool) → List (ℕ × ℕ) → Bool
covers_terms p terms = list_all (λ t. list_all p (range_with_len t.0 (t.1 + 1 - t.0))) terms

covered : (p : ℕ → Bool) (terms : List (ℕ × ℕ)) (c : ℕ) → covers_terms p terms ≡ true → term_has terms c ≡ true → p c ≡ true
covered p [] c all member = absurd (false≢true member)
covered p (t ∷ terms) c all member =
    let both = and_parts (list_all p (range_with_len t.0 (t.1 + 1 - t.0))) (covers_terms p terms) all in
    elim (or_cases (is_within t.0 t.1 c) (term_has terms c) member) [
      | inl within ↦
          let bounds = and_parts (nat_le t.0 c) (nat_le c t.1) within in
          let low = leb-true t.0 c bounds.0 in
          let high = leb-true c t.1 bounds.1 in
          in_range p t.0 (t.1 + 1 - t.0) c both.0 low (omega arith)
      | inr m ↦ covered p terms c both.1 m
    ]

covers : (p : ℕ → Bool) (terms : List (ℕ × ℕ)) → ((c : ℕ) → term_has terms c ≡ true → p c ≡ true) → covers_terms p terms ≡ true
covers p [] each = refl
covers p (t ∷ terms) each =
    and_from (list_all p (range_with_len t.0 (t.1 + 1 - t.0))) (covers_terms p terms)
    (all_in_range p t.0 (t.1 + 1 - t.0) (λ k low high. each k (or_left (is_within t.0 t.1 k) (term_has terms k) (and_from (nat_le t.0 k) (nat_le k t.1) (le-leb t.0 k low) (le-leb k t.1 (omega arith))))))
    (covers p terms (λ c m. each c (or_right (is_within t.0 t.1 c) (term_has terms c) m)))

small_category : (terms : List (ℕ × ℕ)) (c : ℕ) → All IsTerm terms → term_has terms c ≡ true → c < 65535
small_category [] c are member = absurd (false≢true member)
small_category (t ∷ terms) c are member =
    elim (or_cases (is_within t.0 t.1 c) (term_has terms c) member) [
      | inl within ↦
          let bounds = and_parts (nat_le t.0 c) (nat_le c t.1) within in
          omega (arith, leb-true c t.1 bounds.1, All-head IsTerm t terms are)
      | inr m ↦ small_category terms c (All-tail IsTerm t terms are) m
    ]

pub dominates_if_terms : (a b : LabelTerms) → dominates_by_terms a b ≡ true → Dominates (label_of_terms a) (label_of_terms b)
dominates_if_terms a b h =
    let both = and_parts (nat_le b.level a.level) (covers_terms (term_has a.terms) b.terms) h in
    record {
      level = leb-true b.level a.level both.0;
      cats = λ c m.
          let small = sets_have_categories (cats_of_terms b.terms) c (tests_give_sets (term_has b.terms)) m in
          sets_of_a_test_have_what_passes (term_has a.terms) c small ∙ covered (term_has a.terms) b.terms c both.1 (sym (sets_of_a_test_have_what_passes (term_has b.terms) c small) ∙ m);
    }

pub terms_if_dominates : (a b : LabelTerms) → All IsTerm b.terms → Dominates (label_of_terms a) (label_of_terms b) → dominates_by_terms a b ≡ true
terms_if_dominates a b are d =
    and_from (nat_le b.level a.level) (covers_terms (term_has a.terms) b.terms) (le-leb b.level a.level d.level) (covers (term_has a.terms) b.terms (λ c m.
    let small = small_category b.terms c are m in
    sym (sets_of_a_test_have_what_passes (term_has a.terms) c small) ∙ d.cats c (sets_of_a_test_have_what_passes (term_has b.terms) c small ∙ m)))
