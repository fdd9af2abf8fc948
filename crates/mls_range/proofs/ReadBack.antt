-- The written form of a label has its categories.
use Rattle.std.proofs.Common.{◌≡◌, ℕ, ◌+◌, ◌<◌, ◌≤◌, Bool, true, false, ◌||◌, cond, List, [], ◌∷◌, refl, sym, ap, subst, ◌∙◌, arith, inl, inr}
use Rattle.std.specs.List.{All, flat_map, list_any}
use Rattle.std.proofs.lemmas.Bool.{cases_eq, eq-eqb, ne_eqb, or_left, or_right}
use Rattle.std.proofs.lemmas.Bool.Decides.{nat_tests}
use Rattle.std.proofs.Math.Bool.{or-false}
use Rattle.std.proofs.lemmas.List.Folds.{list_any-append}
use Rattle.std.proofs.lemmas.List.Elements.{All-nil, All-cons, All-head, All-tail, All-append}
use Rattle.mls_label.specs.declared.label.Label.{Label}
use Rattle.mls_label.specs.Cats.{has, IsCats, is_within}
use Rattle.mls_label.specs.Runs.{runs_of, AreSpaced}
use Rattle.mls_label.proofs.Law.{sets_are_what_they_have, sets_have_categories, sets_have_their_runs, runs_have_what_each_has}
use Rattle.mls_range.specs.LabelText.{IsTerm, IsLabelText, label_text, term_has, terms_of_run, cats_of_terms}

-- the terms of a run have its categories
run_has : (r : ℕ × ℕ) (c : ℕ) → r.0 ≤ r.1 → term_has (terms_of_run r) c ≡ is_within r.0 r.1 c
run_has r c order =
    elim (cases_eq (r.0 + 1) r.1) [
      | inl e ↦
          let two : List (ℕ × ℕ) = (r.0, r.0) ∷ (r.1, r.1) ∷ [] in
          let is : terms_of_run r ≡ two = ap (λ b. cond b two (r ∷ [])) (eq-eqb (r.0 + 1) r.1 e) in
          ap (λ ts. term_has ts c) is ∙ (let sum : (is_within r.0 r.0 c || (is_within r.1 r.1 c || false)) ≡ is_within r.0 r.1 c = grind (arith, nat_tests) in sum)
      | inr ne ↦
          let is : terms_of_run r ≡ r ∷ [] = ap (λ b. cond b ((r.0, r.0) ∷ (r.1, r.1) ∷ []) (r ∷ [])) (ne_eqb (r.0 + 1) r.1 ne) in
          ap (λ ts. term_has ts c) is ∙ or-false (is_within r.0 r.1 c)
    ]

-- some run has the category
abbrev in_runs : List (ℕ × ℕ) → ℕ → Bool
in_runs runs c = list_any (λ (r : ℕ × ℕ). is_within r.0 r.1 c) runs

runs_have : (low : ℕ) (runs : List (ℕ × ℕ)) (c : ℕ) → AreSpaced low runs → in_runs runs c ≡ term_has (flat_map terms_of_run runs) c
runs_have low [] c s = refl
runs_have low (r ∷ runs) c s =
    (λ i. sym (run_has r c s.1) i || runs_have (r.1 + 2) runs c s.2 i) ∙ sym (list_any-append (λ t. is_within t.0 t.1 c) (terms_of_run r) (flat_map terms_of_run runs))

run_terms : (r : ℕ × ℕ) → r.0 ≤ r.1 → r.1 < 65535 → All IsTerm (terms_of_run r)
run_terms r order small =
    let two : List (ℕ × ℕ) = (r.0, r.0) ∷ (r.1, r.1) ∷ [] in
    elim (cases_eq (r.0 + 1) r.1) [
      | inl e ↦
          let is : terms_of_run r ≡ two = ap (λ b. cond b two (r ∷ [])) (eq-eqb (r.0 + 1) r.1 e) in
          subst (All IsTerm) (sym is) (All-cons IsTerm (r.0, r.0) ((r.1, r.1) ∷ []) (omega arith, omega arith) (All-cons IsTerm (r.1, r.1) [] (omega arith, small) (All-nil IsTerm)))
      | inr ne ↦
          let is : terms_of_run r ≡ r ∷ [] = ap (λ b. cond b two (r ∷ [])) (ne_eqb (r.0 + 1) r.1 ne) in
          subst (All IsTerm) (sym is) (All-cons IsTerm r [] (order, small) (All-nil IsTerm))
    ]

spaced_terms : (low : ℕ) (runs : List (ℕ × ℕ)) → AreSpaced low runs → ((c : ℕ) → in_runs runs c ≡ true → c < 65535) → All IsTerm runs
spaced_terms low [] s below = All-nil IsTerm
spaced_terms low (r ∷ runs) s below =
    let order : r.0 ≤ r.1 = s.1 in
    let inside : is_within r.0 r.1 r.1 ≡ true = grind (arith, nat_tests) in
    let last = below r.1 (or_left (is_within r.0 r.1 r.1) (in_runs runs r.1) inside) in
    let rest : (c : ℕ) → in_runs runs c ≡ true → c < 65535 = λ c h. below c (or_right (is_within r.0 r.1 c) (in_runs runs c) h) in
    All-cons IsTerm r runs (order, last) (spaced_terms (r.1 + 2) runs s.2 rest)

has_runs : (cats : List ℕ) (c : ℕ) → IsCats cats → has cats c ≡ in_runs (runs_of cats) c
has_runs cats c is = ap (λ x. has x c) (sym (sets_have_their_runs cats is).numbers) ∙ runs_have_what_each_has (runs_of cats) c

-- the runs of a set are terms
pub set_runs : (cats : List ℕ) → IsCats cats → All IsTerm (runs_of cats)
set_runs cats is = spaced_terms 0 (runs_of cats) (sets_have_their_runs cats is).spaced (λ c h. sets_have_categories cats c is (has_runs cats c is ∙ h))

runs_terms : (runs : List (ℕ × ℕ)) → All IsTerm runs → All IsTerm (flat_map terms_of_run runs)
runs_terms [] are = All-nil IsTerm
runs_terms (r ∷ runs) are =
    let run = All-head IsTerm r runs are in
    All-append IsTerm (terms_of_run r) (flat_map terms_of_run runs) (run_terms r run.0 run.1) (runs_terms runs (All-tail IsTerm r runs are))

-- the written terms of a set
pub written_terms : (cats : List ℕ) → IsCats cats → All IsTerm (flat_map terms_of_run (runs_of cats))
written_terms cats is = runs_terms (runs_of cats) (set_runs cats is)

pub written_cats : (cats : List ℕ) → IsCats cats → cats ≡ cats_of_terms (flat_map terms_of_run (runs_of cats))
written_cats cats is =
    sets_are_what_they_have cats (term_has (flat_map terms_of_run (runs_of cats))) is (λ c lt. has_runs cats c is ∙ runs_have 0 (runs_of cats) c (sets_have_their_runs cats is).spaced)

pub reads_back : (label : Label) → label.level < 256 → IsCats label.cats → IsLabelText (label_text label) label
reads_back label level cats =
    record {
      terms = flat_map terms_of_run (runs_of label.cats);
      are = written_terms label.cats cats;
      is = refl;
      level = level;
      cats = written_cats label.cats cats;
    }
