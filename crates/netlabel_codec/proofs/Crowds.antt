-- How many maximal runs sets have: a part in front has no more than the whole, and what an option can express has few.
use Rattle.std.proofs.Common.{◌≡◌, ℕ, ◌+◌, ◌<◌, ◌≤◌, true, ◌||◌, nat_le, if◌then◌else◌, ◌==◌, List, [], ◌∷◌, ◌++◌, length, take, drop, get_or, refl, sym, ap, subst, ◌∙◌, arith, inl, inr}
use Rattle.std.specs.List.{list_all}
use Rattle.std.proofs.lemmas.Bool.{cases_eq, eq-eqb, ne_eqb}
use Rattle.std.proofs.lemmas.Bool.Decides.{nat_tests}
use Rattle.std.proofs.lemmas.List.{take-append-drop}
use Rattle.mls_label.specs.declared.label.Label.{Label}
use Rattle.mls_label.specs.declared.label.Tag.{Tag}
use Rattle.mls_label.specs.declared.label.Tag.TheVariants.{One, Two, Five}
use Rattle.mls_label.specs.Cats.{has, is_within, cats_where, Ascends, IsCats}
use Rattle.mls_label.specs.Runs.{join_front, runs_of}
use Rattle.mls_label.proofs.Law.{runs_are_no_more_than_numbers}
use Rattle.cipso_tags.specs.Text.{Fits}
use Rattle.calipso_option.specs.Text.{IsExpressible}
use Rattle.netlabel_codec.specs.declared.told.NetlabelRun.{NetlabelRun}
use Rattle.netlabel_codec.specs.Written.{AreRunsFrom}
use Rattle.netlabel_codec.proofs.Sets.{cats_given, given-append, next_set}

-- ---- a part in front

-- how many runs more one number in front is
abbrev more : ℕ → ℕ → ℕ
more x y = if y == x + 1 then 0 else 1

joined_to : (x y last : ℕ) (runs : List (ℕ × ℕ)) → length (join_front x ((y, last) ∷ runs)) ≡ more x y + length ((y, last) ∷ runs)
joined_to x y last runs =
    elim (cases_eq y (x + 1)) [
      | inl e ↦ rw (eq-eqb y (x + 1) e) (omega arith)
      | inr ne ↦ rw (ne_eqb y (x + 1) ne) (omega arith)
    ]

joined : (x y : ℕ) (runs : List (ℕ × ℕ)) → length (join_front x (join_front y runs)) ≡ more x y + length (join_front y runs)
joined x y [] = joined_to x y y []
joined x y (run ∷ runs) =
    elim (cases_eq run.0 (y + 1)) [
      | inl there ↦ rw (eq-eqb run.0 (y + 1) there) (joined_to x y run.1 runs)
      | inr apart ↦ rw (ne_eqb run.0 (y + 1) apart) (joined_to x y y (run ∷ runs))
    ]

join_some : (x : ℕ) (runs : List (ℕ × ℕ)) → 1 ≤ length (join_front x runs)
join_some x [] = omega arith
join_some x (run ∷ runs) =
    elim (cases_eq run.0 (x + 1)) [
      | inl e ↦ rw (eq-eqb run.0 (x + 1) e) (omega arith)
      | inr ne ↦ rw (ne_eqb run.0 (x + 1) ne) (omega arith)
    ]

front_has_no_more : (a b : List ℕ) → length (runs_of a) ≤ length (runs_of (a ++ b))
front_has_no_more [] b = omega arith
front_has_no_more (x ∷ []) b = join_some x (runs_of b)
front_has_no_more (x ∷ y ∷ a) b =
    omega (arith, joined x y (runs_of a), joined x y (runs_of (a ++ b)), front_has_no_more (y ∷ a) b)

-- so many runs in front are so many in all
pub crowded : (runs : List NetlabelRun) (n most : ℕ) → most < length (runs_of (cats_given (take n runs))) → most < length (runs_of (cats_given runs))
crowded runs n most many =
    let all : cats_given runs ≡ cats_given (take n runs) ++ cats_given (drop n runs) =
    ap cats_given (sym (take-append-drop n runs)) ∙ given-append (take n runs) (drop n runs) in
    let no_more : length (runs_of (cats_given (take n runs))) ≤ length (runs_of (cats_given runs)) =
    rw all (front_has_no_more (cats_given (take n runs)) (cats_given (drop n runs))) in
    omega arith

-- the same where the next run doesn't fit into the set
pub crowded_by : (runs : List NetlabelRun) (i : ℕ) (d : NetlabelRun) (cats : List ℕ) (most : ℕ) → i < length runs → AreRunsFrom 0 runs → cats ≡ cats_given (take i runs) → most < length (runs_of (cats_where (λ c. has cats c || is_within (get_or runs i d).first (get_or runs i d).last c))) → most < length (runs_of (cats_given runs))
crowded_by runs i d cats most within are is many =
    crowded runs (i + 1) most (subst (λ xs. most < length (runs_of xs)) (next_set runs i d cats within are is) many)

-- ---- what options can express

few_below : (low bound : ℕ) (cats : List ℕ) → Ascends low 65535 cats → ((c : ℕ) → has cats c ≡ true → c ≤ bound) → low ≤ bound + 1 → low + length cats ≤ bound + 1
few_below low bound [] a below le = omega arith
few_below low bound (x ∷ cats) a below le =
    let first : x ≤ bound = below x (ap (λ b. b || has cats x) (eq-eqb x x refl)) in
    let rest : (c : ℕ) → has cats c ≡ true → c ≤ bound = λ c h. below c (grind (arith, nat_tests)) in
    omega (arith, a.0, few_below (x + 1) bound cats a.2 rest (omega arith))

all_below : (bound : ℕ) (cats : List ℕ) → list_all (λ c. nat_le c bound) cats ≡ true → (c : ℕ) → has cats c ≡ true → c ≤ bound
all_below bound [] all c h = cc
all_below bound (x ∷ cats) all c h =
    let parts : (x ≤ bound) × (list_all (λ k. nat_le k bound) cats ≡ true) = grind (arith, nat_tests) in
    elim (cases_eq c x) [
      | inl e ↦ omega (arith, parts.0)
      | inr ne ↦ all_below bound cats parts.1 c (sym (ap (λ b. b || has cats c) (ne_eqb c x ne)) ∙ h)
    ]

few_in_bounds : (cats : List ℕ) (bound : ℕ) → IsCats cats → ((c : ℕ) → has cats c ≡ true → c ≤ bound) → length (runs_of cats) ≤ bound + 1
few_in_bounds cats bound is below =
    omega (arith, runs_are_no_more_than_numbers cats, few_below 0 bound cats is below (omega arith))

-- a tag has no room for so many runs
pub crowds_tag : (tag : Tag) (label : Label) → IsCats label.cats → 1952 < length (runs_of label.cats) → Fits tag label → ⊥
crowds_tag One label is many fits =
    omega (arith, few_in_bounds label.cats 239 is (all_below 239 label.cats fits))
crowds_tag Two label is many fits =
    let few : length label.cats ≤ 15 = grind (arith, nat_tests) in
    omega (arith, runs_are_no_more_than_numbers label.cats)
crowds_tag Five label is many fits =
    let few : length (runs_of label.cats) ≤ 7 = grind (arith, nat_tests) in
    omega arith

-- nor has a CALIPSO option
pub crowds_calipso : (label : Label) → IsCats label.cats → 1952 < length (runs_of label.cats) → IsExpressible label → ⊥
crowds_calipso label is many fits = omega (arith, few_in_bounds label.cats 1951 is fits)
