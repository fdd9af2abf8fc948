-- The runs that are kept and the set that they stand for.
use Rattle.std.proofs.Common.{◌≡◌, ℕ, zero, suc, ◌+◌, ◌-◌, ◌<◌, ◌≤◌, Bool, ◌||◌, List, [], ◌∷◌, ◌++◌, length, map, refl, sym, ap, subst, ◌∙◌, arith, inl, inr}
use Rattle.std.specs.List.{list_any, range_with_len}
use Rattle.std.proofs.lemmas.Bool.{cases_eq, eq-eqb, ne_eqb}
use Rattle.std.proofs.lemmas.Bool.Decides.{nat_tests}
use Rattle.std.proofs.lemmas.List.{length-map}
use Rattle.mls_label.specs.declared.cat_set.Run.{Run}
use Rattle.mls_label.specs.Cats.{has, IsCats, Ascends, is_within}
use Rattle.mls_label.specs.Runs.{join_front, runs_of, numbers_of, AreSpaced, AreRunsOf}
use Rattle.mls_label.specs.inside.Kept.{cats_of, AreApart}
use Rattle.mls_label.proofs.Cats.{has-append, has-range_with_len, ascends_range, ascends-append, ascends_less}

-- ---- plain lists

abbrev pub AreInOrder : List (ℕ × ℕ) → Type 0
AreInOrder [] = Unit {0}
AreInOrder (r ∷ runs) = (r.0 ≤ r.1) × AreInOrder runs

numbers_join : (c : ℕ) (runs : List (ℕ × ℕ)) → AreInOrder runs → (numbers_of (join_front c runs) ≡ c ∷ numbers_of runs) × AreInOrder (join_front c runs)
numbers_join c [] o =
    let e : c + 1 - c ≡ 1 = omega arith in
    (ap (λ n. range_with_len c n ++ []) e, (omega arith, tt))
numbers_join c (r ∷ runs) o =
    elim (cases_eq r.0 (c + 1)) [
      | inl e ↦ rw (eq-eqb r.0 (c + 1) e) (
        (let n : r.1 + 1 - c ≡ suc (r.1 + 1 - r.0) = omega (arith, o.0) in
            ap (λ n. range_with_len c n ++ numbers_of runs) n ∙ ap (λ a. c ∷ (range_with_len a (r.1 + 1 - r.0) ++ numbers_of runs)) (sym e)),
        (omega (arith, o.0), o.1),
      )
      | inr ne ↦ rw (ne_eqb r.0 (c + 1) ne) (
        (let n : c + 1 - c ≡ 1 = omega arith in
            ap (λ n. range_with_len c n ++ numbers_of (r ∷ runs)) n),
        (omega arith, o),
      )
    ]

runs_numbers : (cats : List ℕ) → (numbers_of (runs_of cats) ≡ cats) × AreInOrder (runs_of cats)
runs_numbers [] = (refl, tt)
runs_numbers (c ∷ cats) =
    let rest = runs_numbers cats in
    let front = numbers_join c (runs_of cats) rest.1 in
    (front.0 ∙ ap (λ xs. c ∷ xs) rest.0, front.1)

-- the runs of a set have its numbers
pub cats_of_runs : (cats : List ℕ) → numbers_of (runs_of cats) ≡ cats
cats_of_runs cats = (runs_numbers cats).0

spaced_join : (c : ℕ) (runs : List (ℕ × ℕ)) → AreSpaced (c + 1) runs → AreSpaced c (join_front c runs)
spaced_join c [] s = (omega arith, omega arith, tt)
spaced_join c (r ∷ runs) s =
    elim (cases_eq r.0 (c + 1)) [
      | inl e ↦ rw (eq-eqb r.0 (c + 1) e) (omega arith, omega (arith, s.1), s.2)
      | inr ne ↦ rw (ne_eqb r.0 (c + 1) ne) (omega arith, omega arith, (omega (arith, s.0), s.1, s.2))
    ]

spaced_less : (lower low : ℕ) (runs : List (ℕ × ℕ)) → lower ≤ low → AreSpaced low runs → AreSpaced lower runs
spaced_less lower low [] le s = tt
spaced_less lower low (r ∷ runs) le s = (omega (arith, s.0), s.1, s.2)

spaced_runs : (low high : ℕ) (cats : List ℕ) → Ascends low high cats → AreSpaced low (runs_of cats)
spaced_runs low high [] a = tt
spaced_runs low high (c ∷ cats) a =
    spaced_less low c (join_front c (runs_of cats)) a.0 (spaced_join c (runs_of cats) (spaced_runs (c + 1) high cats a.2))

pub runs_are : (cats : List ℕ) → IsCats cats → AreRunsOf (runs_of cats) cats
runs_are cats is = record { numbers = cats_of_runs cats; spaced = spaced_runs 0 65535 cats is }

-- ---- the runs that are kept

abbrev pub ends_of : Run → ℕ × ℕ
ends_of r = (r.first, r.last)

-- c is in the run
abbrev pub is_in : ℕ → Run → Bool
is_in c r = is_within r.first r.last c

pub apart_less : (lower low : ℕ) (runs : List Run) → lower ≤ low → AreApart low runs → AreApart lower runs
apart_less lower low [] le a = tt
apart_less lower low (r ∷ runs) le a = (omega (arith, a.0), a.1, a.2, a.3)

has_run : (r : Run) (c : ℕ) → has (range_with_len r.first (r.last + 1 - r.first)) c ≡ is_in c r
has_run r c = has-range_with_len r.first (r.last + 1 - r.first) c ∙ grind (arith, nat_tests)

pub has-cats_of : (runs : List Run) (c : ℕ) → has (cats_of runs) c ≡ list_any (is_in c) runs
has-cats_of [] c = refl
has-cats_of (r ∷ runs) c =
    has-append (range_with_len r.first (r.last + 1 - r.first)) (cats_of runs) c ∙ (λ i. has_run r c i || has-cats_of runs c i)

pub ascends-cats_of : (low : ℕ) (runs : List Run) → AreApart low runs → Ascends low 65535 (cats_of runs)
ascends-cats_of low [] a = tt
ascends-cats_of low (r ∷ runs) a =
    let rest : Ascends (r.last + 1) 65535 (cats_of runs) = ascends_less (r.last + 1) (r.last + 2) 65535 (cats_of runs) (omega arith) (ascends-cats_of (r.last + 2) runs a.3) in
    ascends-append low (r.last + 1) 65535 (range_with_len r.first (r.last + 1 - r.first)) (cats_of runs) (omega (arith, a.0, a.1)) (omega (arith, a.2)) (ascends_range low (r.last + 1) r.first (r.last + 1 - r.first) a.0 (omega (arith, a.1))) rest

-- the first run begins past n
abbrev BeginPast : ℕ → List (ℕ × ℕ) → Type 0
BeginPast n [] = Unit {0}
BeginPast n (r ∷ runs) = n < r.0

begin_past : (n low : ℕ) (runs : List Run) → n < low → AreApart low runs → BeginPast n (map ends_of runs)
begin_past n low [] lt a = tt
begin_past n low (r ∷ runs) lt a = omega (arith, a.0)

join_alone : (c : ℕ) (runs : List (ℕ × ℕ)) → BeginPast (c + 1) runs → join_front c runs ≡ (c, c) ∷ runs
join_alone c [] p = refl
join_alone c (r ∷ runs) p = rw (ne_eqb r.0 (c + 1) (λ e. omega (arith, p))) refl

runs_of_run : (a n : ℕ) (cats : List ℕ) → BeginPast (a + n + 1) (runs_of cats) → runs_of (range_with_len a (suc n) ++ cats) ≡ (a, a + n) ∷ runs_of cats
runs_of_run a zero cats p =
    let q : BeginPast (a + 1) (runs_of cats) = subst (λ k. BeginPast k (runs_of cats)) (omega arith) p in
    let e : a ≡ a + 0 = omega arith in
    join_alone a (runs_of cats) q ∙ ap (λ k. (a, k) ∷ runs_of cats) e
runs_of_run a (suc n) cats p =
    let q : BeginPast (a + 1 + n + 1) (runs_of cats) = subst (λ k. BeginPast k (runs_of cats)) (omega arith) p in
    let rest : runs_of (range_with_len (a + 1) (suc n) ++ cats) ≡ (a + 1, a + 1 + n) ∷ runs_of cats = runs_of_run (a + 1) n cats q in
    let e : a + 1 + n ≡ a + suc n = omega arith in
    ap (join_front a) rest ∙ (rw (eq-eqb (a + 1) (a + 1) refl) (ap (λ k. (a, k) ∷ runs_of cats) e))

-- the maximal runs of the set are the runs that are kept
pub runs_of-cats_of : (low : ℕ) (runs : List Run) → AreApart low runs → runs_of (cats_of runs) ≡ map ends_of runs
runs_of-cats_of low [] a = refl
runs_of-cats_of low (r ∷ runs) a =
    let rest = runs_of-cats_of (r.last + 2) runs a.3 in
    let n = r.last - r.first in
    let k : r.last + 1 - r.first ≡ suc n = omega (arith, a.1) in
    let l : r.first + n ≡ r.last = omega (arith, a.1) in
    let past : BeginPast (r.first + n + 1) (runs_of (cats_of runs)) = subst (BeginPast (r.first + n + 1)) (sym rest) (begin_past (r.first + n + 1) (r.last + 2) runs (omega (arith, a.1)) a.3) in
    ap (λ k. runs_of (range_with_len r.first k ++ cats_of runs)) k ∙ runs_of_run r.first n (cats_of runs) past ∙ (λ i. (r.first, l i) ∷ rest i)

pub length-runs_of : (low : ℕ) (runs : List Run) → AreApart low runs → length (runs_of (cats_of runs)) ≡ length runs
length-runs_of low runs a = ap length (runs_of-cats_of low runs a) ∙ length-map runs ends_of

ends_same : (a b : List Run) → map ends_of a ≡ map ends_of b → a ≡ b
ends_same [] [] e = refl
ends_same [] (y ∷ ys) e = cc
ends_same (x ∷ xs) [] e = cc
ends_same (x ∷ xs) (y ∷ ys) e =
    let heads : ends_of x ≡ ends_of y = cc in
    let first : x.first ≡ y.first = ap (λ (p : ℕ × ℕ). p.0) heads in
    let last : x.last ≡ y.last = ap (λ (p : ℕ × ℕ). p.1) heads in
    let rest : map ends_of xs ≡ map ends_of ys = cc in
    λ i. record { first = first i; last = last i } ∷ ends_same xs ys rest i

-- a set is kept in one way
pub kept_same : (a b : List Run) → AreApart 0 a → AreApart 0 b → cats_of a ≡ cats_of b → a ≡ b
kept_same a b s t e = ends_same a b (sym (runs_of-cats_of 0 a s) ∙ ap runs_of e ∙ runs_of-cats_of 0 b t)
