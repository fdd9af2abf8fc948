-- Terms have no more runs than they are, and the written terms of a set none too many at any place.
use Rattle.std.proofs.Common.{◌≡◌, ℕ, zero, suc, ◌+◌, ◌<◌, ◌≤◌, Bool, true, false, cond, not, ◌&&◌, ◌||◌, List, [], ◌∷◌, ◌++◌, length, take, refl, sym, ap, subst, ◌∙◌, arith, inl, inr, ◌⊎◌}
use Rattle.std.specs.Prelude.{◌==◌, nat_le, filter}
use Rattle.std.specs.List.{All, flat_map, list_all, range_with_len}
use Rattle.std.proofs.lemmas.Bool.{cases_eq, eq-eqb, ne_eqb, eqb-true, leb-true, leb-false, lt-leb, and_parts, and_cases, and_from, and_right, or_cases, or_parts, or_right, not-true, not_from_false, both_ways, false≢true}
use Rattle.std.proofs.lemmas.Bool.Decides.{nat_tests}
use Rattle.std.proofs.Math.Bool.{or-false}
use Rattle.std.proofs.lemmas.List.Folds.{list_any_none}
use Rattle.std.proofs.lemmas.List.Elements.{All-nil, All-cons, All-head, All-tail, All-weaker}
use Rattle.mls_label.specs.Cats.{IsCats, cats_where, is_within}
use Rattle.mls_label.specs.Runs.{join_front, runs_of}
use Rattle.mls_label.proofs.Law.{equal_tests_give_equal_sets}
use Rattle.mls_range.specs.LabelText.{IsTerm, term_has, cats_of_terms, terms_of_run}
use Rattle.mls_range.specs.Crowd.{run_count}
use Rattle.mls_range.proofs.Crowds.{take_none}
use Rattle.mls_range.proofs.ReadBack.{set_runs}

-- ---- numbers that follow one another

pub all_in_range : (p : ℕ → Bool) (low n : ℕ) → ((k : ℕ) → low ≤ k → k < low + n → p k ≡ true) → list_all p (range_with_len low n) ≡ true
all_in_range p low zero each = refl
all_in_range p low (suc n) each =
    and_from (p low) (list_all p (range_with_len (low + 1) n)) (each low (omega arith) (omega arith)) (all_in_range p (low + 1) n (λ k a b. each k (omega arith) (omega arith)))

pub in_range : (p : ℕ → Bool) (low n k : ℕ) → list_all p (range_with_len low n) ≡ true → low ≤ k → k < low + n → p k ≡ true
in_range p low zero k all a b = absurd (omega arith)
in_range p low (suc n) k all a b =
    let both = and_parts (p low) (list_all p (range_with_len (low + 1) n)) all in
    elim (cases_eq low k) [
      | inl e ↦ subst (λ x. p x ≡ true) e both.0
      | inr ne ↦ in_range p (low + 1) n k both.1 (omega arith) (omega arith)
    ]

abbrev counted : Bool → ℕ
counted true = 1
counted false = 0

-- how many of n numbers from low on pass
abbrev tally : (ℕ → Bool) → ℕ → ℕ → ℕ
tally p low zero = 0
tally p low (suc n) = counted (p low) + tally p (low + 1) n

one_of_two : (a b c : Bool) → (a ≡ true → (b ≡ true) ⊎ (c ≡ true)) → counted a ≤ counted b + counted c
one_of_two false b c either = omega arith
one_of_two true true c either = omega arith
one_of_two true false true either = omega arith
one_of_two true false false either = absurd (elim (either refl) [ inl e ↦ false≢true e | inr e ↦ false≢true e ])

tally_two : (p q s : ℕ → Bool) → ((c : ℕ) → p c ≡ true → (q c ≡ true) ⊎ (s c ≡ true)) → (low n : ℕ) → tally p low n ≤ tally q low n + tally s low n
tally_two p q s either low zero = omega arith
tally_two p q s either low (suc n) =
    omega (arith, one_of_two (p low) (q low) (s low) (either low), tally_two p q s either (low + 1) n)

tally_past : (last low n : ℕ) → last < low → tally (λ c. c == last) low n ≡ 0
tally_past last low zero lt = refl
tally_past last low (suc n) lt =
    let none : counted (low == last) ≡ 0 = ap counted (ne_eqb low last (λ e. omega arith)) in
    omega (arith, none, tally_past last (low + 1) n (omega arith))

tally_one : (last low n : ℕ) → tally (λ c. c == last) low n ≤ 1
tally_one last low zero = omega arith
tally_one last low (suc n) =
    elim (cases_eq low last) [
      | inl e ↦
          let one : counted (low == last) ≡ 1 = ap counted (eq-eqb low last e) in
          omega (arith, one, tally_past last (low + 1) n (omega arith))
      | inr ne ↦
          let none : counted (low == last) ≡ 0 = ap counted (ne_eqb low last ne) in
          omega (arith, none, tally_one last (low + 1) n)
    ]

-- ---- a run ends where the next number is missing

abbrev ends : (ℕ → Bool) → ℕ → Bool
ends p c = p c && not (p (c + 1))

-- the first run begins with c
record Starts (c : ℕ) (runs : List (ℕ × ℕ)) : Type 0 where
  first : ℕ × ℕ
  others : List (ℕ × ℕ)
  is : runs ≡ first ∷ others
  at : first.0 ≡ c

join_short : (c : ℕ) (runs : List (ℕ × ℕ)) → length (join_front c runs) ≤ length runs + 1
join_short c [] = omega arith
join_short c (r ∷ runs) =
    elim (cases_eq r.0 (c + 1)) [
      | inl e ↦ rw (eq-eqb r.0 (c + 1) e) (omega arith)
      | inr ne ↦ rw (ne_eqb r.0 (c + 1) ne) (omega arith)
    ]

join_same : (c : ℕ) (runs : List (ℕ × ℕ)) → Starts (c + 1) runs → length (join_front c runs) ≡ length runs
join_same c runs s =
    let joined : List (ℕ × ℕ) = (c, s.first.1) ∷ s.others in
    let one : join_front c (s.first ∷ s.others) ≡ joined = ap (λ b. cond b joined ((c, c) ∷ s.first ∷ s.others)) (eq-eqb s.first.0 (c + 1) s.at) in
    ap (λ rs. length (join_front c rs)) s.is ∙ ap length one ∙ sym (ap length s.is)

joined_starts : (b : Bool) (c : ℕ) (r : ℕ × ℕ) (runs : List (ℕ × ℕ)) → Starts c (cond b ((c, r.1) ∷ runs) ((c, c) ∷ r ∷ runs))
joined_starts true c r runs = record { first = (c, r.1); others = runs; is = refl; at = refl }
joined_starts false c r runs = record { first = (c, c); others = r ∷ runs; is = refl; at = refl }

join_starts : (c : ℕ) (runs : List (ℕ × ℕ)) → Starts c (join_front c runs)
join_starts c [] = record { first = (c, c); others = []; is = refl; at = refl }
join_starts c (r ∷ runs) = joined_starts (r.0 == c + 1) c r runs

runs_start : (p : ℕ → Bool) (low n : ℕ) → p low ≡ true → 0 < n → Starts low (runs_of (filter p (range_with_len low n)))
runs_start p low zero passes some = absurd (omega arith)
runs_start p low (suc n) passes some =
    let rest : List ℕ = filter p (range_with_len (low + 1) n) in
    subst (λ b. Starts low (runs_of (cond b (low ∷ rest) rest))) (sym passes) (join_starts low (runs_of rest))

one_more : (a b : Bool) (c count : ℕ) (rest : List ℕ) → length (runs_of rest) ≤ count → (b ≡ true → Starts (c + 1) (runs_of rest)) → length (runs_of (cond a (c ∷ rest) rest)) ≤ counted (a && not b) + count
one_more false b c count rest few starts = omega arith
one_more true false c count rest few starts = omega (arith, join_short c (runs_of rest))
one_more true true c count rest few starts = omega (arith, join_same c (runs_of rest) (starts refl))

some_left : (p : ℕ → Bool) (low n : ℕ) → p (low + suc n) ≡ false → p (low + 1) ≡ true → 0 < n
some_left p low zero past passes = absurd (both_ways (p (low + 1)) past passes)
some_left p low (suc n) past passes = omega arith

runs_tally : (p : ℕ → Bool) (low n : ℕ) → p (low + n) ≡ false → length (runs_of (filter p (range_with_len low n))) ≤ tally (ends p) low n
runs_tally p low zero past = omega arith
runs_tally p low (suc n) past =
    let next : low + suc n ≡ low + 1 + n = omega arith in
    let rest = runs_tally p (low + 1) n (subst (λ k. p k ≡ false) next past) in
    one_more (p low) (p (low + 1)) low (tally (ends p) (low + 1) n) (filter p (range_with_len (low + 1) n)) rest (λ passes. runs_start p (low + 1) n passes (some_left p low n past passes))

-- ---- the runs of terms

last_within : (first last c : ℕ) → is_within first last c ≡ true → is_within first last (c + 1) ≡ false → c ≡ last
last_within first last c passes stops =
    let here = and_parts (nat_le first c) (nat_le c last) passes in
    let low = leb-true first c here.0 in
    let high = leb-true c last here.1 in
    elim (and_cases (nat_le first (c + 1)) (nat_le (c + 1) last) stops) [
      | inl a ↦ absurd (omega (arith, leb-false first (c + 1) a))
      | inr b ↦ omega (arith, leb-false (c + 1) last b)
    ]

-- a run of terms ends with that of the others, or with the last of the term
ends_of_term : (first last : ℕ) (others : ℕ → Bool) (c : ℕ) → ends (λ k. is_within first last k || others k) c ≡ true → (ends others c ≡ true) ⊎ ((c == last) ≡ true)
ends_of_term first last others c end =
    let parts = and_parts (is_within first last c || others c) (not (is_within first last (c + 1) || others (c + 1))) end in
    let none = or_parts (is_within first last (c + 1)) (others (c + 1)) (not-true (is_within first last (c + 1) || others (c + 1)) parts.1) in
    elim (or_cases (is_within first last c) (others c) parts.0) [
      | inl passes ↦ inr (eq-eqb c last (last_within first last c passes none.0))
      | inr passes ↦ inl (and_from (others c) (not (others (c + 1))) passes (not_from_false (others (c + 1)) none.1))
    ]

none_end : (low n : ℕ) → tally (ends (term_has [])) low n ≡ 0
none_end low zero = refl
none_end low (suc n) = omega (arith, none_end (low + 1) n)

few_ends : (terms : List (ℕ × ℕ)) (low n : ℕ) → tally (ends (term_has terms)) low n ≤ length terms
few_ends [] low n = omega (arith, none_end low n)
few_ends (t ∷ terms) low n =
    let two = tally_two (ends (term_has (t ∷ terms))) (ends (term_has terms)) (λ c. c == t.1) (λ c end. ends_of_term t.0 t.1 (term_has terms) c end) low n in
    omega (arith, two, few_ends terms low n, tally_one t.1 low n)

few_up_to : (n : ℕ) (terms : List (ℕ × ℕ)) → term_has terms (0 + n) ≡ false → length (runs_of (filter (term_has terms) (range_with_len 0 n))) ≤ length terms
few_up_to n terms past = omega (arith, runs_tally (term_has terms) 0 n past, few_ends terms 0 n)

past_terms : (terms : List (ℕ × ℕ)) → All IsTerm terms → term_has terms 65535 ≡ false
past_terms terms are =
    list_any_none (λ t. is_within t.0 t.1 65535) terms (All-weaker IsTerm (λ t. is_within t.0 t.1 65535 ≡ false) (λ t is. and_right (nat_le t.0 65535) (nat_le 65535 t.1) (lt-leb 65535 t.1 is.1)) terms are)

pub few_runs : (terms : List (ℕ × ℕ)) → All IsTerm terms → run_count terms ≤ length terms
unfolding cats_where
few_runs terms are = few_up_to 65535 terms (past_terms terms are)

-- ---- the written terms

-- the terms have the categories of some terms, which are no more than the runs
record Within (runs terms : List (ℕ × ℕ)) : Type 0 where
  others : List (ℕ × ℕ)
  are : All IsTerm others
  few : length others ≤ length runs
  has : (c : ℕ) → term_has terms c ≡ term_has others c

within_none : (runs : List (ℕ × ℕ)) → Within runs []
within_none runs = record { others = []; are = All-nil IsTerm; few = omega arith; has = λ c. refl }

within_more : (r : ℕ × ℕ) (runs terms whole : List (ℕ × ℕ)) → IsTerm r → Within runs terms → ((c : ℕ) → term_has whole c ≡ (is_within r.0 r.1 c || term_has terms c)) → Within (r ∷ runs) whole
within_more r runs terms whole is w has =
    record {
      others = r ∷ w.others;
      are = All-cons IsTerm r w.others is w.are;
      few = omega (arith, w.few);
      has = λ c. has c ∙ ap (λ b. is_within r.0 r.1 c || b) (w.has c);
    }

two_have : (first last c : ℕ) (b : Bool) → first + 1 ≡ last → (is_within first first c || (is_within last last c || b)) ≡ (is_within first last c || b)
two_have first last c true next =
    or_right (is_within first first c) (is_within last last c || true) (or_right (is_within last last c) true refl) ∙ sym (or_right (is_within first last c) true refl)
two_have first last c false next =
    let both : (is_within first first c || (is_within last last c || false)) ≡ is_within first last c = grind (arith, nat_tests) in
    both ∙ sym (or-false (is_within first last c))

front_of : (b : Bool) (r : ℕ × ℕ) (runs rest : List (ℕ × ℕ)) (n : ℕ) → (b ≡ true → r.0 + 1 ≡ r.1) → IsTerm r → ((m : ℕ) → Within runs (take m rest)) → Within (r ∷ runs) (take n (cond b ((r.0, r.0) ∷ (r.1, r.1) ∷ []) (r ∷ []) ++ rest))
front_of b r runs rest zero two is later = within_none (r ∷ runs)
front_of false r runs rest (suc m) two is later = within_more r runs (take m rest) (r ∷ take m rest) is (later m) (λ c. refl)
front_of true r runs rest (suc zero) two is later =
    record { others = (r.0, r.0) ∷ []; are = All-cons IsTerm (r.0, r.0) [] (omega arith, omega (arith, is)) (All-nil IsTerm); few = omega arith; has = λ c. refl }
front_of true r runs rest (suc (suc m)) two is later =
    within_more r runs (take m rest) ((r.0, r.0) ∷ (r.1, r.1) ∷ take m rest) is (later m) (λ c. two_have r.0 r.1 c (term_has (take m rest) c) (two refl))

front_within : (runs : List (ℕ × ℕ)) (n : ℕ) → All IsTerm runs → Within runs (take n (flat_map terms_of_run runs))
front_within [] n are = subst (Within []) (sym (take_none n)) (within_none [])
front_within (r ∷ runs) n are =
    front_of (r.0 + 1 == r.1) r runs (flat_map terms_of_run runs) n (λ passes. eqb-true (r.0 + 1) r.1 passes) (All-head IsTerm r runs are) (λ m. front_within runs m (All-tail IsTerm r runs are))

-- a set that isn't too much is written with no front that is
pub few_written : (cats : List ℕ) (n : ℕ) → IsCats cats → run_count (take n (flat_map terms_of_run (runs_of cats))) ≤ length (runs_of cats)
few_written cats n is =
    let w = front_within (runs_of cats) n (set_runs cats is) in
    let same : cats_of_terms (take n (flat_map terms_of_run (runs_of cats))) ≡ cats_of_terms w.others = equal_tests_give_equal_sets _ _ (λ c lt. w.has c) in
    omega (arith, ap (λ s. length (runs_of s)) same, few_runs w.others w.are, w.few)
