-- Buffers that are filled from the front.
use Rattle.std.proofs.Common.{◌≡◌, ℕ, zero, suc, ◌+◌, ◌<◌, List, [], ◌∷◌, ◌++◌, length, take, drop, slice_get, slice_set, Some, ap, arith}

fill_suc : {A : Type 0} (items old : List A) (item : A) (place : ℕ) → slice_get items place ≡ Some item → place < length old → slice_set (take place items ++ drop place old) place item ≡ take (suc place) items ++ drop (suc place) old
fill_suc [] old item place is within = cc
fill_suc (x ∷ xs) [] item place is within = absurd (omega (arith, within))
fill_suc (x ∷ xs) (y ∷ ys) item zero is within =
    let same : item ≡ x = cc in
    ap (λ z. z ∷ ys) same
fill_suc (x ∷ xs) (y ∷ ys) item (suc place) is within =
    ap (λ zs. x ∷ zs) (fill_suc xs ys item place is (omega (arith, within)))

-- with the next item in its place one more stands at the front
pub fill_next : {A : Type 0} (items old : List A) (item : A) (place : ℕ) → slice_get items place ≡ Some item → place < length old → slice_set (take place items ++ drop place old) place item ≡ take (place + 1) items ++ drop (place + 1) old
fill_next items old item place is within =
    let one : place + 1 ≡ suc place = omega arith in
    rw one (fill_suc items old item place is within)
