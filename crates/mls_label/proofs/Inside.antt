-- Runs within runs, and what runs hold.
use Rattle.std.proofs.Common.{◌≡◌, ℕ, zero, suc, ◌+◌, ◌-◌, ◌<◌, ◌≤◌, ◌↔◌, Bool, true, false, ◌||◌, nat_le, List, [], ◌∷◌, length, get_or, take, drop, map, IsTrue, Some, slice_get, refl, sym, ap, subst, ◌∙◌, arith, inl, inr}
use Rattle.std.specs.List.{list_any, range_with_len, All, AllWithin}
use Rattle.std.proofs.lemmas.Bool.{cases_lt, true≢false, false≢true, le-leb, lt-leb, or_right, or_left}
use Rattle.std.proofs.lemmas.Bool.Decides.{nat_tests}
use Rattle.std.proofs.lemmas.List.Folds.{list_any_at, list_any_none}
use Rattle.std.proofs.lemmas.List.{get_or_default, take_rest, drop_more, length-append}
use Rattle.std.proofs.lemmas.List.FromFn.{length-range_with_len}
use Rattle.mls_label.specs.declared.cat_set.Run.{Run}
use Rattle.mls_label.specs.Cats.{has, Ascends, IsSubset}
use Rattle.mls_label.specs.inside.Kept.{cats_of, AreApart}
use Rattle.mls_label.proofs.Cats.{has_below}
use Rattle.mls_label.proofs.Runs.{is_in, ends_of, apart_less, has-cats_of, ascends-cats_of}
use Rattle.mls_label.proofs.Splice.{apart_at, firsts_rise, lasts_rise}

abbrev pub in_some : ℕ → List Run → Bool
in_some c runs = list_any (is_in c) runs

abbrev pub IsInside : List Run → List Run → Type 0
IsInside inner outer = (c : ℕ) → in_some c inner ≡ true → in_some c outer ≡ true

pub subset_iff : (inner outer : List Run) → IsInside inner outer ↔ IsSubset (cats_of inner) (cats_of outer)
subset_iff inner outer = (
  λ h c e. has-cats_of outer c ∙ h c (sym (has-cats_of inner c) ∙ e),
  λ h c e. sym (has-cats_of outer c) ∙ h c (has-cats_of inner c ∙ e),
)

below_none : (low : ℕ) (runs : List Run) (c : ℕ) → AreApart low runs → c < low → in_some c runs ≡ false
below_none low runs c a lt = sym (has-cats_of runs c) ∙ has_below low 65535 (cats_of runs) c (ascends-cats_of low runs a) lt

in_first : (r : Run) (runs : List Run) (c : ℕ) → r.first ≤ c → c ≤ r.last → in_some c (r ∷ runs) ≡ true
in_first r runs c le ge = or_left (is_in c r) (in_some c runs) (grind (arith, nat_tests))

in_rest : (r : Run) (runs : List Run) (c : ℕ) → (r.first ≤ c → c ≤ r.last → ⊥) → in_some c (r ∷ runs) ≡ in_some c runs
in_rest r runs c not =
    let out : is_in c r ≡ false =
    elim (cases_lt c r.first) [
      | inl lt ↦ grind (arith, nat_tests)
      | inr le ↦ elim (cases_lt r.last c) [
        | inl lt ↦ grind (arith, nat_tests)
        | inr ge ↦ absurd (not le ge)
      ]
    ] in
    ap (λ b. b || in_some c runs) out

-- what ascending runs hold is no less than their first
in_at_least : (r : Run) (runs : List Run) (c : ℕ) → AreApart 0 (r ∷ runs) → in_some c (r ∷ runs) ≡ true → r.first ≤ c
in_at_least r runs c a e =
    elim (cases_lt c r.first) [
      | inl lt ↦
          let here : AreApart r.first (r ∷ runs) = (omega arith, a.1, a.2, a.3) in
          absurd (true≢false (sym e ∙ below_none r.first (r ∷ runs) c here lt))
      | inr le ↦ le
    ]

-- a run below all of the inner ones covers nothing of them
pub inside_skip : (run cover : Run) (rest covers : List Run) → AreApart 0 (run ∷ rest) → cover.last < run.first → IsInside (run ∷ rest) covers ↔ IsInside (run ∷ rest) (cover ∷ covers)
inside_skip run cover rest covers a lt = (
  λ h c e. or_right (is_in c cover) (in_some c covers) (h c e),
  λ h c e.
      let least = in_at_least run rest c a e in
      sym (in_rest cover covers c (λ le ge. omega arith)) ∙ h c e,
)

pub inside_take : (run cover : Run) (rest covers : List Run) → cover.first ≤ run.first → run.last ≤ cover.last → IsInside rest (cover ∷ covers) ↔ IsInside (run ∷ rest) (cover ∷ covers)
inside_take run cover rest covers le ge = (
  λ h c e. elim (cases_lt c run.first) [
    | inl lt ↦ h c (sym (in_rest run rest c (λ p q. omega arith)) ∙ e)
    | inr p ↦ elim (cases_lt run.last c) [
      | inl lt ↦ h c (sym (in_rest run rest c (λ p q. omega arith)) ∙ e)
      | inr q ↦ in_first cover covers c (omega arith) (omega arith)
    ]
  ],
  λ h c e. h c (or_right (is_in c run) (in_some c rest) e),
)

pub inside_none : (run : Run) (rest : List Run) → run.first ≤ run.last → IsInside (run ∷ rest) [] → ⊥
inside_none run rest o h = true≢false (sym (h run.first (in_first run rest run.first (omega arith) o)))

-- neither below the run nor round it: a number of the run is missing
pub inside_fails : (run cover : Run) (rest covers : List Run) → AreApart 0 (run ∷ rest) → AreApart 0 (cover ∷ covers) → run.first ≤ cover.last → (cover.first ≤ run.first → run.last ≤ cover.last → ⊥) → IsInside (run ∷ rest) (cover ∷ covers) → ⊥
inside_fails run cover rest covers a b meets not h =
    elim (cases_lt run.first cover.first) [
      | inl lt ↦
          let least = in_at_least cover covers run.first b (h run.first (in_first run rest run.first (omega arith) a.1)) in
          absurd (omega arith)
      | inr le ↦ elim (cases_lt cover.last run.last) [
        | inl lt ↦
            let c = cover.last + 1 in
            let out : in_some c (cover ∷ covers) ≡ false = in_rest cover covers c (λ p q. omega arith) ∙ below_none (cover.last + 2) covers c b.3 (omega arith) in
            true≢false (sym (h c (in_first run rest c (omega arith) (omega arith))) ∙ out)
        | inr ge ↦ not le ge
      ]
    ]

-- ---- one number

-- the run at the place is the only one that may hold it
pub held_at : (runs : List Run) (c place : ℕ) (d : Run) → AreApart 0 runs → AllWithin (λ (r : Run). r.last < c) runs 0 place → AllWithin (λ (r : Run). c ≤ r.last) runs place (length runs) → place < length runs → nat_le (get_or runs place d).first c ≡ has (cats_of runs) c
held_at runs c place d a below others lt =
    elim (cases_lt c (get_or runs place d).first) [
      | inl under ↦
          let none : All (λ r. is_in c r ≡ false) runs =
          λ k e within. elim (cases_lt k place) [
            | inl less ↦ let last = below k e (omega arith) less in grind (arith, nat_tests)
            | inr ge ↦
                let rise = firsts_rise 0 runs a place k e ge within in
                let here = get_or_default runs place d e lt in
                let first : c < (get_or runs k e).first = omega (arith, rise, under, ap (λ (r : Run). r.first) here) in
                grind (arith, nat_tests)
          ] in
          lt-leb (get_or runs place d).first c under ∙ sym (has-cats_of runs c ∙ list_any_none (is_in c) runs none)
      | inr over ↦
          let last = others place d (omega arith) lt in
          let inside : is_in c (get_or runs place d) ≡ true = grind (arith, nat_tests) in
          le-leb (get_or runs place d).first c over ∙ sym (has-cats_of runs c ∙ list_any_at (is_in c) runs place d lt inside)
    ]

pub held_past : (runs : List Run) (c place : ℕ) → AllWithin (λ (r : Run). r.last < c) runs 0 place → length runs ≤ place → has (cats_of runs) c ≡ false
held_past runs c place below le =
    let none : All (λ r. is_in c r ≡ false) runs = λ k e within. let last = below k e (omega arith) (omega arith) in grind (arith, nat_tests) in
    has-cats_of runs c ∙ list_any_none (is_in c) runs none

-- ---- the highest number, and how many there are

pub highest_has : (runs : List Run) (r : Run) → AreApart 0 runs → 0 < length runs → r ≡ get_or runs (length runs - 1) r → has (cats_of runs) r.last ≡ true
highest_has runs r a some at =
    let facts = apart_at 0 runs (length runs - 1) r a (omega arith) in
    let o : r.first ≤ r.last = subst (λ (x : Run). x.first ≤ x.last) (sym at) facts.1 in
    let inside : is_in r.last (get_or runs (length runs - 1) r) ≡ true = subst (λ (x : Run). is_in r.last x ≡ true) at (grind (arith, nat_tests)) in
    has-cats_of runs r.last ∙ list_any_at (is_in r.last) runs (length runs - 1) r (omega arith) inside

pub highest_bounds : (runs : List Run) (r : Run) (c : ℕ) → AreApart 0 runs → 0 < length runs → r ≡ get_or runs (length runs - 1) r → has (cats_of runs) c ≡ true → c ≤ r.last
highest_bounds runs r c a some at e =
    elim (cases_lt r.last c) [
      | inl lt ↦
          let none : All (λ x. is_in c x ≡ false) runs =
          λ k d within.
          let rise = lasts_rise 0 runs a k (length runs - 1) d (omega arith) (omega arith) in
          let here = at ∙ get_or_default runs (length runs - 1) r d (omega arith) in
          let last : (get_or runs k d).last < c = omega (arith, rise, lt, ap (λ (x : Run). x.last) here) in
          grind (arith, nat_tests) in
          absurd (true≢false (sym e ∙ (has-cats_of runs c ∙ list_any_none (is_in c) runs none)))
      | inr le ↦ le
    ]

-- a run round the first and the last is round all
pub inside_first : (inner outer : List Run) (d : Run) → AreApart 0 inner → 0 < length inner → 0 < length outer → (get_or outer 0 d).first ≤ (get_or inner 0 d).first → (get_or inner (length inner - 1) d).last ≤ (get_or outer 0 d).last
    → IsSubset (cats_of inner) (cats_of outer)
inside_first [] outer d a some others first_le last_le = absurd (omega arith)
inside_first (run ∷ rest) [] d a some others first_le last_le = absurd (omega arith)
inside_first (run ∷ rest) (cover ∷ covers) d a some others first_le last_le =
    let runs : List Run = run ∷ rest in
    let last : Run = get_or runs (length runs - 1) d in
    let at : last ≡ get_or runs (length runs - 1) last = get_or_default runs (length runs - 1) d last (omega arith) in
    (subset_iff runs (cover ∷ covers)).0 (λ c e.
    in_first cover covers c (omega (arith, first_le, in_at_least run rest c a e)) (omega (arith, last_le, highest_bounds runs last c a some at (has-cats_of runs c ∙ e))))

pub ascends_length : (low high : ℕ) (xs : List ℕ) → low ≤ high → Ascends low high xs → length xs + low ≤ high
ascends_length low high [] le a = omega arith
ascends_length low high (x ∷ xs) le a = omega (arith, a.0, ascends_length (x + 1) high xs (omega (arith, a.1)) a.2)

pub count_bound : (runs : List Run) → AreApart 0 runs → length (cats_of runs) ≤ 65535
count_bound runs a = omega (arith, ascends_length 0 65535 (cats_of runs) (omega arith) (ascends-cats_of 0 runs a))

pub count_run : (r : Run) (runs : List Run) → length (cats_of (r ∷ runs)) ≡ (r.last + 1 - r.first) + length (cats_of runs)
count_run r runs =
    omega (arith, length-append (range_with_len r.first (r.last + 1 - r.first)) (cats_of runs), length-range_with_len r.first (r.last + 1 - r.first))

-- one run more is counted
pub count_more : (runs : List Run) (i : ℕ) (r : Run) → i < length runs → r ≡ get_or runs i r → length (cats_of (drop i runs)) ≡ (r.last + 1 - r.first) + length (cats_of (drop (i + 1) runs))
count_more runs i r lt at =
    ap (λ xs. length (cats_of xs)) (drop_more runs i r lt ∙ ap (λ x. x ∷ drop (i + 1) runs) (sym at)) ∙ count_run r (drop (i + 1) runs)

-- ---- the runs as they are shown

pub shown_at : (runs : List Run) (i : ℕ) (r : Run) → i < length runs → r ≡ get_or runs i r → slice_get (map ends_of runs) i ≡ Some (ends_of r)
shown_at [] i r lt at = absurd (omega arith)
shown_at (x ∷ runs) zero r lt at = ap (λ (x : Run). Some (ends_of x)) (sym at)
shown_at (x ∷ runs) (suc i) r lt at = shown_at runs i r (omega arith) at

-- what a look-up gives is there
pub got_at : (runs : List Run) (i : ℕ) (r : Run) → Some r ≡ slice_get runs i → (i < length runs) × (r ≡ get_or runs i r)
got_at [] i r e = cc
got_at (x ∷ runs) zero r e = (omega arith, cc)
got_at (x ∷ runs) (suc i) r e = let rest = got_at runs i r e in (omega (arith, rest.0), rest.1)

-- ---- the steps of the walk, where a slice's rest is its list's

abbrev pub rest_of : List Run → List Run
rest_of runs = take (length runs - 1) (drop 1 runs)

pub skip_apart : (runs : List Run) → AreApart 0 runs → AreApart 0 (rest_of runs)
skip_apart [] a = tt
skip_apart (r ∷ runs) a = subst (AreApart 0) (sym (take_rest (r ∷ runs) 1)) (apart_less 0 (r.last + 2) runs (omega arith) a.3)

pub skip_step : (inner outer : List Run) (d e : Run) → 1 ≤ length inner → 1 ≤ length outer → AreApart 0 inner → (get_or outer 0 e).last < (get_or inner 0 d).first → IsInside inner (rest_of outer) ↔ IsInside inner outer
skip_step [] outer d e le le2 a lt = absurd (omega arith)
skip_step (run ∷ rest) [] d e le le2 a lt = absurd (omega arith)
skip_step (run ∷ rest) (cover ∷ covers) d e le le2 a lt =
    subst (λ xs. IsInside (run ∷ rest) xs ↔ IsInside (run ∷ rest) (cover ∷ covers)) (sym (take_rest (cover ∷ covers) 1)) (inside_skip run cover rest covers a lt)

pub take_step : (inner outer : List Run) (d e : Run) → 1 ≤ length inner → 1 ≤ length outer → (get_or outer 0 e).first ≤ (get_or inner 0 d).first → (get_or inner 0 d).last ≤ (get_or outer 0 e).last → IsInside (rest_of inner) outer ↔ IsInside inner outer
take_step [] outer d e le le2 below above = absurd (omega arith)
take_step (run ∷ rest) [] d e le le2 below above = absurd (omega arith)
take_step (run ∷ rest) (cover ∷ covers) d e le le2 below above =
    subst (λ xs. IsInside xs (cover ∷ covers) ↔ IsInside (run ∷ rest) (cover ∷ covers)) (sym (take_rest (run ∷ rest) 1)) (inside_take run cover rest covers below above)

pub fail_step : (inner outer : List Run) (d e : Run) → 1 ≤ length inner → 1 ≤ length outer → AreApart 0 inner → AreApart 0 outer → (get_or inner 0 d).first ≤ (get_or outer 0 e).last → ((get_or outer 0 e).first ≤ (get_or inner 0 d).first → (get_or inner 0 d).last ≤ (get_or outer 0 e).last → ⊥) → IsInside inner outer → ⊥
fail_step [] outer d e le le2 a b meets not h = absurd (omega arith)
fail_step (run ∷ rest) [] d e le le2 a b meets not h = absurd (omega arith)
fail_step (run ∷ rest) (cover ∷ covers) d e le le2 a b meets not h = inside_fails run cover rest covers a b meets not h

pub end_step : (inner outer : List Run) → 1 ≤ length inner → length outer < 1 → AreApart 0 inner → IsInside inner outer → ⊥
end_step [] outer le lt a h = absurd (omega arith)
end_step (run ∷ rest) [] le lt a h = inside_none run rest a.1 h
end_step (run ∷ rest) (cover ∷ covers) le lt a h = absurd (omega arith)

pub all_inside : (inner outer : List Run) → length inner < 1 → IsInside inner outer
all_inside [] outer lt c e = absurd (false≢true e)
all_inside (run ∷ rest) outer lt c e = absurd (omega arith)

-- the answer, from what the walk has left
pub answer_no : (inner outer xs ys : List Run) → (IsInside xs ys ↔ IsInside inner outer) → (IsInside xs ys → ⊥) → (IsTrue false ↔ IsSubset (cats_of inner) (cats_of outer))
answer_no inner outer xs ys same not =
    (λ e. absurd (false≢true e), λ h. absurd (not (same.1 ((subset_iff inner outer).1 h))))

pub answer_yes : (inner outer xs ys : List Run) → (IsInside xs ys ↔ IsInside inner outer) → IsInside xs ys → (IsTrue true ↔ IsSubset (cats_of inner) (cats_of outer))
answer_yes inner outer xs ys same h = (λ e. (subset_iff inner outer).0 (same.0 h), λ s. refl)
