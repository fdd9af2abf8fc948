-- The set of the caller's runs, run by run.
use Rattle.std.proofs.Common.{◌≡◌, ℕ, zero, suc, ◌+◌, ◌-◌, ◌<◌, ◌≤◌, ◌||◌, nat_eq, List, [], ◌∷◌, ◌++◌, length, take, map, get_or, refl, sym, ap, subst, ◌∙◌, append_assoc, arith}
use Rattle.std.specs.List.{range_with_len}
use Rattle.std.proofs.Math.Bool.{or-false}
use Rattle.std.proofs.lemmas.List.{take_more}
use Rattle.std.proofs.lemmas.List.Folds.{list_any-append}
use Rattle.mls_label.specs.Cats.{has, is_within, cats_where, Ascends}
use Rattle.mls_label.specs.Runs.{numbers_of}
use Rattle.mls_label.proofs.Law.{ranges_ascend, sets_are_what_they_have, runs_have_what_each_has}
use Rattle.netlabel_codec.specs.declared.told.NetlabelRun.{NetlabelRun}
use Rattle.netlabel_codec.specs.Written.{AreRunsFrom, run_ends}

-- the categories of the runs
abbrev pub cats_given : List NetlabelRun → List ℕ
cats_given runs = numbers_of (map run_ends runs)

-- the run at a place
pub run_at : (low : ℕ) (runs : List NetlabelRun) (i : ℕ) (d : NetlabelRun) → i < length runs → AreRunsFrom low runs → ((get_or runs i d).first ≤ (get_or runs i d).last) × ((get_or runs i d).last < 65535)
run_at low [] i d within are = absurd (omega (arith, within))
run_at low (run ∷ runs) zero d within are = (are.1, are.2)
run_at low (run ∷ runs) (suc i) d within are =
    run_at (run.last + 1) runs i d (omega (arith, within)) are.3

pub front_from : (low n : ℕ) (runs : List NetlabelRun) → AreRunsFrom low runs → AreRunsFrom low (take n runs)
front_from low zero runs are = tt
front_from low (suc n) [] are = tt
front_from low (suc n) (run ∷ runs) are = (are.0, are.1, are.2, front_from (run.last + 1) n runs are.3)

ascends_from : (lower low high : ℕ) (xs : List ℕ) → lower ≤ low → Ascends low high xs → Ascends lower high xs
ascends_from lower low high [] le a = tt
ascends_from lower low high (x ∷ xs) le a = (omega (arith, a.0), a.1, a.2)

ascends_both : (low middle high : ℕ) (xs ys : List ℕ) → low ≤ middle → middle ≤ high → Ascends low middle xs → Ascends middle high ys → Ascends low high (xs ++ ys)
ascends_both low middle high [] ys le fit a b = ascends_from low middle high ys le b
ascends_both low middle high (x ∷ xs) ys le fit a b =
    (a.0, omega (arith, a.1), ascends_both (x + 1) middle high xs ys (omega (arith, a.1)) fit a.2 b)

-- they are a set
pub given_ascend : (low : ℕ) (runs : List NetlabelRun) → AreRunsFrom low runs → Ascends low 65535 (cats_given runs)
given_ascend low [] are = tt
given_ascend low (run ∷ runs) are =
    let numbers = range_with_len run.first (run.last + 1 - run.first) in
    let here : Ascends low (run.last + 1) numbers = ranges_ascend low (run.last + 1) run.first (run.last + 1 - run.first) are.0 (omega (arith, are.1)) in
    ascends_both low (run.last + 1) 65535 numbers (cats_given runs) (omega (arith, are.0, are.1)) (omega (arith, are.2)) here (given_ascend (run.last + 1) runs are.3)

pub given-append : (a b : List NetlabelRun) → cats_given (a ++ b) ≡ cats_given a ++ cats_given b
given-append [] b = refl
given-append (run ∷ a) b =
    let numbers = range_with_len run.first (run.last + 1 - run.first) in
    ap (λ xs. numbers ++ xs) (given-append a b) ∙ sym (append_assoc numbers (cats_given a) (cats_given b))

has_one : (run : NetlabelRun) (c : ℕ) → has (cats_given (run ∷ [])) c ≡ is_within run.first run.last c
has_one run c = runs_have_what_each_has (run_ends run ∷ []) c ∙ or-false (is_within run.first run.last c)

has_both : (a b : List NetlabelRun) (c : ℕ) → has (cats_given (a ++ b)) c ≡ (has (cats_given a) c || has (cats_given b) c)
has_both a b c = ap (λ xs. has xs c) (given-append a b) ∙ list_any-append (nat_eq c) (cats_given a) (cats_given b)

-- with one run more
pub with_run : (front : List NetlabelRun) (run : NetlabelRun) → AreRunsFrom 0 (front ++ run ∷ []) → cats_given (front ++ run ∷ []) ≡ cats_where (λ c. has (cats_given front) c || is_within run.first run.last c)
with_run front run are =
    sets_are_what_they_have (cats_given (front ++ run ∷ [])) (λ c. has (cats_given front) c || is_within run.first run.last c) (given_ascend 0 (front ++ run ∷ []) are) (λ c lt. has_both front (run ∷ []) c ∙ ap (λ b. has (cats_given front) c || b) (has_one run c))

-- the same at a place of the runs
pub next_set : (runs : List NetlabelRun) (i : ℕ) (d : NetlabelRun) (cats : List ℕ) → i < length runs → AreRunsFrom 0 runs → cats ≡ cats_given (take i runs) → cats_where (λ c. has cats c || is_within (get_or runs i d).first (get_or runs i d).last c) ≡ cats_given (take (i + 1) runs)
next_set runs i d cats within are is =
    let run = get_or runs i d in
    let more : take (i + 1) runs ≡ take i runs ++ run ∷ [] = take_more runs i d within in
    let are_more : AreRunsFrom 0 (take i runs ++ run ∷ []) = subst (AreRunsFrom 0) more (front_from 0 (i + 1) runs are) in
    let joined : cats_given (take i runs ++ run ∷ []) ≡ cats_where (λ c. has (cats_given (take i runs)) c || is_within run.first run.last c) = with_run (take i runs) run are_more in
    ap (λ xs. cats_where (λ c. has xs c || is_within run.first run.last c)) is ∙ sym joined ∙ ap cats_given (sym more)
