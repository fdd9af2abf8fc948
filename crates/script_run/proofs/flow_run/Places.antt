-- The packets of a batch that were read, where one more is read into the place behind them.
use Rattle.std.proofs.Common.{◌≡◌, ℕ, zero, suc, ◌+◌, ◌<◌, ◌≤◌, Bool, true, false, cond, List, [], ◌∷◌, ◌++◌, length, take, refl, ap, ◌∙◌, arith, add-one, length-append}
use Rattle.std.proofs.Math.ListN.{set}
use Rattle.std.proofs.lemmas.List.{take-append-le}

-- what is put behind a list leaves its front
pub same_front : {X : Type 0} (b : Bool) (n : ℕ) (xs ys all : List X) → n ≤ length xs → all ≡ cond b (xs ++ ys) xs → take n all ≡ take n xs
same_front true n xs ys all within is = ap (take n) is ∙ take-append-le n xs ys within
same_front false n xs ys all within is = ap (take n) is

-- so does what is written behind the front
pub front_stays : {X : Type 0} (xs : List X) (n : ℕ) (x : X) → take n (set xs n x) ≡ take n xs
front_stays [] n x = refl
front_stays (y ∷ ys) zero x = refl
front_stays (y ∷ ys) (suc n) x = ap (λ rest. y ∷ rest) (front_stays ys n x)

front_more : {X : Type 0} (xs : List X) (n : ℕ) (x : X) → n < length xs → take (suc n) (set xs n x) ≡ take n xs ++ x ∷ []
front_more [] n x within = absurd (omega arith)
front_more (y ∷ ys) zero x within = refl
front_more (y ∷ ys) (suc n) x within = ap (λ rest. y ∷ rest) (front_more ys n x (omega arith))

-- the front takes it up where it is one longer
pub front_takes : {X : Type 0} (xs : List X) (n : ℕ) (x : X) → n < length xs → take (n + 1) (set xs n x) ≡ take n xs ++ x ∷ []
front_takes xs n x within = ap (λ m. take m (set xs n x)) (add-one n) ∙ front_more xs n x within

module _ {H X : Type 0} (before now : List H) (old batch : List X) (heads : now ≡ before) (front : take (length before) batch ≡ take (length before) old) where
  -- where there is a place, what was read stays
  pub kept : take (length now) batch ≡ take (length before) old
  kept = ap (λ (hs : List H). take (length hs) batch) heads ∙ front

  module _ (n : ℕ) (x : X) (place : n ≡ length now) where
    -- also where something was read into it that isn't counted
    pub kept_before : take (length now) (set batch n x) ≡ take (length before) old
    kept_before = ap (λ m. take (length now) (set batch m x)) place ∙ front_stays batch (length now) x ∙ kept

    -- and what is counted stands behind it
    pub kept_and_one : (head : H) (all : List H) → all ≡ now ++ head ∷ [] → length now < length batch → take (length all) (set batch n x) ≡ take (length before) old ++ x ∷ []
    kept_and_one head all more within =
        ap (λ (hs : List H). take (length hs) (set batch n x)) more
        ∙ ap (λ m. take m (set batch n x)) (length-append now (head ∷ []))
        ∙ ap (λ m. take (length now + 1) (set batch m x)) place
        ∙ front_takes batch (length now) x within
        ∙ ap (λ (xs : List X). xs ++ x ∷ []) kept

-- where nothing was read
pub none_read : {H X : Type 0} (heads : List H) (batch : List X) → heads ≡ [] → take (length heads) batch ≡ []
none_read {H} heads batch none = ap (λ (hs : List H). take (length hs) batch) none ∙ front_of_none batch
  where
    front_of_none : {X : Type 0} (xs : List X) → take 0 xs ≡ []
    front_of_none [] = refl
    front_of_none (x ∷ xs) = refl
