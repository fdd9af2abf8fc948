-- What a run leaves that is put in the place of those that it touches.
use Rattle.std.proofs.Common.{◌≡◌, ℕ, zero, suc, ◌+◌, ◌-◌, ◌<◌, ◌≤◌, Bool, true, false, ◌||◌, max, List, [], ◌∷◌, ◌++◌, length, get_or, take, drop, fold, IsTrue, refl, sym, ap, subst, ◌∙◌, arith, inl, inr}
use Rattle.std.specs.List.{list_any, AllWithin, splice, slice_range}
use Rattle.std.specs.List.Sorted.{IsNonDecreasingBy}
use Rattle.std.proofs.Math.Bool.{or-false}
use Rattle.std.proofs.lemmas.Bool.{cases_lt, or_left, or_right}
use Rattle.std.proofs.lemmas.List.Edits.{split_between}
use Rattle.std.proofs.lemmas.Bool.Decides.{nat_tests}
use Rattle.std.proofs.lemmas.List.{append-nil, take_all, drop_all, length-take-le, length-drop, length-append}
use Rattle.std.proofs.lemmas.List.Folds.{list_any-append}
use Rattle.mls_label.specs.declared.cat_set.Run.{Run}
use Rattle.mls_label.specs.Cats.{has, cats_where, is_within}
use Rattle.mls_label.specs.inside.Kept.{cats_of, AreApart, hull, IsPlace}
use Rattle.mls_label.proofs.Cats.{cats_where_is}
use Rattle.mls_label.proofs.Runs.{is_in, apart_less, has-cats_of, ascends-cats_of}

abbrev pub Each : (Run → Type 0) → List Run → Type 0
Each P [] = Unit {0}
Each P (r ∷ runs) = P r × Each P runs

pub each_take : (P : Run → Type 0) (runs : List Run) (n : ℕ) → n ≤ length runs → AllWithin P runs 0 n → Each P (take n runs)
each_take P runs zero le all = tt
each_take P [] (suc n) le all = tt
each_take P (r ∷ runs) (suc n) le all =
    (all 0 r (omega arith) (omega arith), each_take P runs n (omega arith) (λ k d lo hi. all (suc k) d (omega arith) (omega arith)))

pub each_drop : (P : Run → Type 0) (runs : List Run) (n : ℕ) → AllWithin P runs n (length runs) → Each P (drop n runs)
each_drop P [] zero all = tt
each_drop P [] (suc n) all = tt
each_drop P (r ∷ runs) zero all =
    (all 0 r (omega arith) (omega arith), each_drop P runs 0 (λ k d lo hi. all (suc k) d (omega arith) (omega arith)))
each_drop P (r ∷ runs) (suc n) all =
    each_drop P runs n (λ k d lo hi. all (suc k) d (omega arith) (omega arith))

-- ---- what is apart stays apart

-- each of ascending runs begins at low at least
pub apart_each : (low : ℕ) (runs : List Run) → AreApart low runs → Each (λ r. low ≤ r.first) runs
apart_each low [] a = tt
apart_each low (r ∷ runs) a = (a.0, apart_each low runs (apart_less low (r.last + 2) runs (omega (arith, a.0, a.1)) a.3))

pub apart_right : (low : ℕ) (xs ys : List Run) → AreApart low (xs ++ ys) → AreApart low ys
apart_right low [] ys a = a
apart_right low (r ∷ xs) ys a = apart_less low (r.last + 2) ys (omega (arith, a.0, a.1)) (apart_right (r.last + 2) xs ys a.3)

apart_after : (low n : ℕ) (runs : List Run) → AreApart low runs → Each (λ r. n ≤ r.first) runs → AreApart n runs
apart_after low n [] a e = tt
apart_after low n (r ∷ runs) a e = (e.0, a.1, a.2, a.3)

both_after : (m n : ℕ) (runs : List Run) → Each (λ r. m ≤ r.first) runs → Each (λ r. n ≤ r.first) runs → Each (λ r. max m n ≤ r.first) runs
both_after m n [] a b = tt
both_after m n (r ∷ runs) a b = (omega (arith, a.0, b.0), both_after m n runs a.1 b.1)

each_at : (m n : ℕ) (runs : List Run) → m ≡ n → Each (λ r. m ≤ r.first) runs → Each (λ r. n ≤ r.first) runs
each_at m n runs e each = subst (λ k. Each (λ r. k ≤ r.first) runs) e each

apart_hull : (low : ℕ) (run : Run) (middle back : List Run) → AreApart low (middle ++ back) → low ≤ run.first → run.first ≤ run.last → run.last < 65535 → Each (λ r. run.last + 2 ≤ r.first) back → AreApart low (fold hull run middle ∷ back)
apart_hull low run [] back a le o lt after = (le, o, lt, apart_after low (run.last + 2) back a after)
apart_hull low run (m ∷ middle) back a le o lt after =
    let rest : AreApart low (middle ++ back) = apart_less low (m.last + 2) (middle ++ back) (omega (arith, a.0, a.1)) a.3 in
    let past : Each (λ r. m.last + 2 ≤ r.first) back = apart_each (m.last + 2) back (apart_right (m.last + 2) middle back a.3) in
    let both : Each (λ r. max (run.last + 2) (m.last + 2) ≤ r.first) back = both_after (run.last + 2) (m.last + 2) back after past in
    let after' : Each (λ r. max run.last m.last + 2 ≤ r.first) back = each_at (max (run.last + 2) (m.last + 2)) (max run.last m.last + 2) back (omega arith) both in
    apart_hull low (hull run m) middle back rest (omega (arith, a.0)) (omega (arith, a.1)) (omega (arith, a.2)) after'

apart_splice : (low : ℕ) (run : Run) (front middle back : List Run) → AreApart low (front ++ (middle ++ back)) → low ≤ run.first → run.first ≤ run.last → run.last < 65535 → Each (λ r. r.last + 2 ≤ run.first) front → Each (λ r. run.last + 2 ≤ r.first) back → AreApart low (front ++ (fold hull run middle ∷ back))
apart_splice low run [] middle back a le o lt before after = apart_hull low run middle back a le o lt after
apart_splice low run (r ∷ front) middle back a le o lt before after =
    (a.0, a.1, a.2, apart_splice (r.last + 2) run front middle back a.3 before.0 o lt before.1 after)

-- ---- the numbers that it has

regroup : (a m b w : Bool) → (a || ((m || w) || b)) ≡ ((a || (m || b)) || w)
regroup true m b w = refl
regroup false true b w = refl
regroup false false true true = refl
regroup false false true false = refl
regroup false false false true = refl
regroup false false false false = refl

swap_or : (a b c : Bool) → (a || (b || c)) ≡ ((b || a) || c)
swap_or true true c = refl
swap_or true false c = refl
swap_or false true c = refl
swap_or false false c = refl

-- the runs that the run meets, or that stand next to it
abbrev pub Touches : Run → Run → Type 0
Touches run r = (r.first ≤ run.last + 1) × (run.first ≤ r.last + 1) × (r.first ≤ r.last)

in_hull : (run r : Run) (c : ℕ) → run.first ≤ run.last → Touches run r → is_in c (hull run r) ≡ (is_in c r || is_in c run)
in_hull run r c o t = grind (arith, nat_tests, t.0, t.1, t.2)

touches_more : (run m : Run) (runs : List Run) → Each (Touches run) runs → Each (Touches (hull run m)) runs
touches_more run m [] e = tt
touches_more run m (r ∷ runs) e =
    ((omega (arith, e.0.0), omega (arith, e.0.1), e.0.2), touches_more run m runs e.1)

has_hull : (run : Run) (middle : List Run) (c : ℕ) → run.first ≤ run.last → Each (Touches run) middle → is_in c (fold hull run middle) ≡ (list_any (is_in c) middle || is_in c run)
has_hull run [] c o e = refl
has_hull run (m ∷ middle) c o e =
    let rest = has_hull (hull run m) middle c (omega (arith, e.0.2)) (touches_more run m middle e.1) in
    rest ∙ (ap (λ b. list_any (is_in c) middle || b) (in_hull run m c o e.0) ∙ swap_or (list_any (is_in c) middle) (is_in c m) (is_in c run))

has_splice : (run : Run) (front middle back : List Run) (c : ℕ) → run.first ≤ run.last → Each (Touches run) middle → list_any (is_in c) (front ++ (fold hull run middle ∷ back)) ≡ (list_any (is_in c) (front ++ (middle ++ back)) || is_in c run)
has_splice run front middle back c o e =
    let p = is_in c in
    let new : list_any p (front ++ (fold hull run middle ∷ back)) ≡ (list_any p front || ((list_any p middle || p run) || list_any p back)) =
    list_any-append p front (fold hull run middle ∷ back) ∙ ap (λ b. list_any p front || (b || list_any p back)) (has_hull run middle c o e) in
    let old : list_any p (front ++ (middle ++ back)) ≡ (list_any p front || (list_any p middle || list_any p back)) =
    list_any-append p front (middle ++ back) ∙ ap (λ b. list_any p front || b) (list_any-append p middle back) in
    new ∙ (regroup (list_any p front) (list_any p middle) (list_any p back) (p run) ∙ ap (λ b. b || p run) (sym old))

-- ---- at the places that the code finds

pub apart_at : (low : ℕ) (runs : List Run) (k : ℕ) (d : Run) → AreApart low runs → k < length runs → (low ≤ (get_or runs k d).first) × ((get_or runs k d).first ≤ (get_or runs k d).last) × ((get_or runs k d).last < 65535)
apart_at low [] k d a lt = absurd (omega arith)
apart_at low (r ∷ runs) zero d a lt = (a.0, a.1, a.2)
apart_at low (r ∷ runs) (suc k) d a lt =
    let rest = apart_at (r.last + 2) runs k d a.3 (omega arith) in
    (omega (arith, rest.0, a.0, a.1), rest.1, rest.2)

pub firsts_rise : (low : ℕ) (runs : List Run) → AreApart low runs → IsNonDecreasingBy (λ (r : Run). r.first) runs
firsts_rise low [] a i j d le lt = absurd (omega arith)
firsts_rise low (r ∷ runs) a zero zero d le lt = omega arith
firsts_rise low (r ∷ runs) a zero (suc j) d le lt =
    let at = apart_at (r.last + 2) runs j d a.3 (omega arith) in
    omega (arith, at.0, a.1)
firsts_rise low (r ∷ runs) a (suc i) zero d le lt = absurd (omega arith)
firsts_rise low (r ∷ runs) a (suc i) (suc j) d le lt = firsts_rise (r.last + 2) runs a.3 i j d (omega arith) (omega arith)

pub lasts_rise : (low : ℕ) (runs : List Run) → AreApart low runs → IsNonDecreasingBy (λ (r : Run). r.last) runs
lasts_rise low [] a i j d le lt = absurd (omega arith)
lasts_rise low (r ∷ runs) a zero zero d le lt = omega arith
lasts_rise low (r ∷ runs) a zero (suc j) d le lt =
    let at = apart_at (r.last + 2) runs j d a.3 (omega arith) in
    omega (arith, at.0, at.1)
lasts_rise low (r ∷ runs) a (suc i) zero d le lt = absurd (omega arith)
lasts_rise low (r ∷ runs) a (suc i) (suc j) d le lt = lasts_rise (r.last + 2) runs a.3 i j d (omega arith) (omega arith)

-- each run before the place is one that is reached
pub place_order : (runs : List Run) (run : Run) (start end : ℕ) → AreApart 0 runs → run.first ≤ run.last → start ≤ length runs → AllWithin (λ (r : Run). r.last + 1 < run.first) runs 0 start → AllWithin (λ (r : Run). run.last + 1 < r.first) runs end (length runs) → start ≤ end
place_order runs run start end a o le before after =
    elim (cases_lt end start) [
      | inl lt ↦
          let at = apart_at 0 runs end run a (omega arith) in
          absurd (omega (arith, at.1, before end run (omega arith) lt, after end run (omega arith) (omega arith)))
      | inr ge ↦ ge
    ]

each_between : (P : Run → Type 0) (runs : List Run) (s e : ℕ) → e ≤ length runs → AllWithin P runs s e → Each P (slice_range runs s e)
each_between P [] s e le all =
    let none : drop s [] ≡ [] = drop_all {X = Run} s [] (omega arith) in
    subst (Each P) (sym (ap (take (e - s)) none ∙ take_all (e - s) [] (omega arith))) tt
each_between P (r ∷ runs) zero e le all =
    let n : e - 0 ≡ e = omega arith in
    subst (λ k. Each P (take k (r ∷ runs))) (sym n) (each_take P (r ∷ runs) e le all)
each_between P (r ∷ runs) (suc s) zero le all =
    let n : 0 - suc s ≡ 0 = omega arith in
    subst (λ k. Each P (take k (drop s runs))) (sym n) tt
each_between P (r ∷ runs) (suc s) (suc e) le all =
    let n : suc e - suc s ≡ e - s = omega arith in
    subst (λ k. Each P (take k (drop s runs))) (sym n) (each_between P runs s e (omega arith) (λ k d lo hi. all (suc k) d (omega arith) (omega arith)))

each_weaker : (P Q : Run → Type 0) (runs : List Run) → ((r : Run) → P r → Q r) → Each P runs → Each Q runs
each_weaker P Q [] f e = tt
each_weaker P Q (r ∷ runs) f e = (f r e.0, each_weaker P Q runs f e.1)

-- what replaces the runs from start to end
abbrev pub joined : List Run → Run → ℕ → ℕ → List Run
joined runs run start end = splice runs start end (fold hull run (slice_range runs start end) ∷ [])

parts : (runs : List Run) (start end : ℕ) → start ≤ end → runs ≡ take start runs ++ (slice_range runs start end ++ drop end runs)
parts runs start end le = split_between runs start end le

place_before : (runs : List Run) (run : Run) (start end : ℕ) → IsPlace runs run start end → Each (λ r. r.last + 2 ≤ run.first) (take start runs)
place_before runs run start end place =
    each_weaker (λ (r : Run). r.last + 1 < run.first) (λ (r : Run). r.last + 2 ≤ run.first) (take start runs) (λ r h. omega (arith, h)) (each_take (λ (r : Run). r.last + 1 < run.first) runs start (omega (arith, place.order, place.within)) place.before)

place_after : (runs : List Run) (run : Run) (start end : ℕ) → IsPlace runs run start end → Each (λ r. run.last + 2 ≤ r.first) (drop end runs)
place_after runs run start end place =
    each_weaker (λ (r : Run). run.last + 1 < r.first) (λ (r : Run). run.last + 2 ≤ r.first) (drop end runs) (λ r h. omega (arith, h)) (each_drop (λ (r : Run). run.last + 1 < r.first) runs end place.after)

place_touches : (runs : List Run) (run : Run) (start end : ℕ) → AreApart 0 runs → IsPlace runs run start end → Each (Touches run) (slice_range runs start end)
place_touches runs run start end a place =
    each_between (Touches run) runs start end place.within (λ k d lo hi.
    let at = apart_at 0 runs k d a (omega (arith, place.within)) in
    (place.reached k d (omega arith) hi, place.met k d lo (omega (arith, place.within)), at.1))

pub joined_apart : (runs : List Run) (run : Run) (start end : ℕ) → AreApart 0 runs → run.first ≤ run.last → run.last < 65535 → IsPlace runs run start end → AreApart 0 (joined runs run start end)
joined_apart runs run start end a o lt place =
    apart_splice 0 run (take start runs) (slice_range runs start end) (drop end runs) (subst (AreApart 0) (parts runs start end place.order) a) (omega arith) o lt (place_before runs run start end place) (place_after runs run start end place)

pub joined_cats : (runs : List Run) (run : Run) (start end : ℕ) → AreApart 0 runs → run.first ≤ run.last → run.last < 65535 → IsPlace runs run start end → cats_of (joined runs run start end) ≡ cats_where (λ c. has (cats_of runs) c || is_within run.first run.last c)
joined_cats runs run start end a o lt place =
    let new = joined runs run start end in
    let apart : AreApart 0 new = joined_apart runs run start end a o lt place in
    let members : (c : ℕ) → has (cats_of new) c ≡ (has (cats_of runs) c || is_within run.first run.last c) =
    λ c. has-cats_of new c ∙ (has_splice run (take start runs) (slice_range runs start end) (drop end runs) c o (place_touches runs run start end a place) ∙ ap (λ b. b || is_in c run) (ap (list_any (is_in c)) (sym (parts runs start end place.order)) ∙ sym (has-cats_of runs c))) in
    cats_where_is (cats_of new) (λ c. has (cats_of runs) c || is_within run.first run.last c) (ascends-cats_of 0 new apart) (λ c l. members c)

-- where no run is touched, there is one more
pub joined_more : (runs : List Run) (run : Run) (start : ℕ) → start ≤ length runs → length (joined runs run start start) ≡ length runs + 1
joined_more runs run start le =
    omega (arith, length-append (take start runs) (fold hull run (slice_range runs start start) ∷ drop start runs), length-take-le start runs le, length-drop start runs)

-- ---- a run behind all others

-- none has a number that reaches the run
numbers_before : (low n : ℕ) (runs : List Run) → AreApart low runs → ((c : ℕ) → list_any (is_in c) runs ≡ true → c + 1 < n) → Each (λ r. r.last + 2 ≤ n) runs
numbers_before low n [] a behind = tt
numbers_before low n (r ∷ runs) a behind =
    let last : is_in r.last r ≡ true = grind (arith, nat_tests, a.1) in (
      omega (arith, behind r.last (or_left (is_in r.last r) (list_any (is_in r.last) runs) last)),
      numbers_before (r.last + 2) n runs a.3 (λ c e. behind c (or_right (is_in c r) (list_any (is_in c) runs) e)),
    )

pub before_by_numbers : (runs : List Run) (run : Run) → AreApart 0 runs → ((c : ℕ) → IsTrue (has (cats_of runs) c) → c + 1 < run.first) → Each (λ r. r.last + 2 ≤ run.first) runs
before_by_numbers runs run a behind = numbers_before 0 run.first runs a (λ c e. behind c (has-cats_of runs c ∙ e))

pub before_by_places : (runs : List Run) (run : Run) → AllWithin (λ (r : Run). r.last + 1 < run.first) runs 0 (length runs) → Each (λ r. r.last + 2 ≤ run.first) runs
before_by_places runs run all =
    each_weaker (λ r. r.last + 1 < run.first) (λ r. r.last + 2 ≤ run.first) runs (λ r lt. omega (arith, lt)) (each_drop (λ r. r.last + 1 < run.first) runs 0 all)

module _ (runs : List Run) (run : Run) (a : AreApart 0 runs) (o : run.first ≤ run.last) (lt : run.last < 65535) (before : Each (λ r. r.last + 2 ≤ run.first) runs) where
  pub appended_apart : AreApart 0 (runs ++ run ∷ [])
  appended_apart =
      apart_splice 0 run runs [] [] (subst (AreApart 0) (sym (append-nil runs)) a) (omega arith) o lt before tt

  pub appended_cats : cats_of (runs ++ run ∷ []) ≡ cats_where (λ c. has (cats_of runs) c || is_within run.first run.last c)
  appended_cats =
      let new = runs ++ run ∷ [] in
      cats_where_is (cats_of new) (λ c. has (cats_of runs) c || is_within run.first run.last c) (ascends-cats_of 0 new appended_apart) (λ c l.
      has-cats_of new c
      ∙ list_any-append (is_in c) runs (run ∷ [])
      ∙ ap (λ b. list_any (is_in c) runs || b) (or-false (is_in c run))
      ∙ ap (λ b. b || is_in c run) (sym (has-cats_of runs c)))
