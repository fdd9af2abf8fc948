-- The first places of an array, where one is written or some are copied within it.
use Rattle.std.proofs.Common.{◌≡◌, ℕ, zero, suc, ◌+◌, ◌-◌, ◌<◌, ◌≤◌, List, [], ◌∷◌, ◌++◌, length, take, drop, set, refl, sym, ap, ◌∙◌, arith}
use Rattle.std.specs.List.{copy_within}
use Rattle.std.proofs.lemmas.List.{append_assoc, set_split, set-append_left, take-take, take_more_set, drop-take, length-drop, length-take-le, length_push, take_at, drop_at, drop-drop}
use Rattle.std.proofs.lemmas.List.Edits.{take-paste}

module _ {X : Type 0} where
  take_set : (n i : ℕ) (xs : List X) (y : X) → take n (set xs i y) ≡ set (take n xs) i y
  take_set zero i xs y = refl
  take_set (suc n) i [] y = refl
  take_set (suc n) zero (x ∷ xs) y = refl
  take_set (suc n) (suc i) (x ∷ xs) y = ap (λ zs. x ∷ zs) (take_set n i xs y)

  -- those from i on, of the first n
  back_of : (n i : ℕ) (xs : List X) → i ≤ n → drop i (take n xs) ≡ take (n - i) (drop i xs)
  back_of n i xs le =
      let e : n ≡ i + (n - i) = omega arith in
      ap (λ k. drop i (take k xs)) e ∙ drop-take i (n - i) xs

  pub set_in_front : (n i : ℕ) (xs : List X) (y : X) → n ≤ length xs → i < n → take n (set xs i y) ≡ take i (take n xs) ++ y ∷ drop (i + 1) (take n xs)
  set_in_front n i xs y le lt =
      let within : i < length (take n xs) = omega (arith, length-take-le n xs le) in
      let next : suc i ≡ i + 1 = omega arith in
      take_set n i xs y ∙ set_split (take n xs) i y within ∙ ap (λ k. take i (take n xs) ++ y ∷ drop k (take n xs)) next

  pub removed_in_front : (n start end : ℕ) (xs : List X) → n ≤ length xs → start ≤ end → end ≤ n → take (n - (end - start)) (copy_within xs end n start) ≡ take start (take n xs) ++ drop end (take n xs)
  removed_in_front n start end xs le order within =
      let left : n - (end - start) ≡ start + (n - end) = omega arith in
      let front : take start (take n xs) ≡ take start xs = take-take start n xs (omega arith) in
      ap (λ k. take k (copy_within xs end n start)) left
      ∙ take-paste xs start (drop end xs) (n - end) (omega arith) (omega (arith, length-drop end xs))
      ∙ (λ i. sym front i ++ sym (back_of n end xs within) i)

  pub inserted_in_front : (n i : ℕ) (xs : List X) (y : X) → n < length xs → i ≤ n → take (n + 1) (set (copy_within xs i n (i + 1)) i y) ≡ take i (take n xs) ++ y ∷ drop i (take n xs)
  inserted_in_front n i xs y lt le =
      let moved = copy_within xs i n (i + 1) in
      let back = take (n - i) (drop i xs) in
      let more : n + 1 ≡ (i + 1) + (n - i) = omega arith in
      let front : take i (take n xs) ≡ take i xs = take-take i n xs le in
      let room : length (take (i + 1) xs) ≡ i + 1 = length-take-le (i + 1) xs (omega arith) in
      let seen : take (n + 1) moved ≡ take (i + 1) xs ++ back =
      ap (λ k. take k moved) more ∙ take-paste xs (i + 1) (drop i xs) (n - i) (omega arith) (omega (arith, length-drop i xs)) in
      let here : set (take (i + 1) xs) i y ≡ take i xs ++ y ∷ [] = sym (take_set (i + 1) i xs y) ∙ take_more_set xs i y (omega arith) in
      take_set (n + 1) i moved y ∙ ap (λ zs. set zs i y) seen
      ∙ set-append_left (take (i + 1) xs) back i y (omega arith)
      ∙ ap (λ zs. zs ++ back) here ∙ append_assoc (take i xs) (y ∷ []) back
      ∙ (λ k. sym front k ++ y ∷ sym (back_of n i xs le) k)

  -- one is written, and those behind it are removed up to end
  pub replaced : (start end : ℕ) (xs : List X) (y : X) → start < end → end ≤ length xs → take (start + 1) (take start xs ++ y ∷ drop (start + 1) xs) ++ drop end (take start xs ++ y ∷ drop (start + 1) xs) ≡ take start xs ++ y ∷ drop end xs
  replaced start end xs y lt le =
      let front = take start xs ++ y ∷ [] in
      let back = drop (start + 1) xs in
      let size : length front ≡ start + 1 = omega (arith, length_push (take start xs) y, length-take-le start xs (omega arith)) in
      let more : end ≡ start + 1 + (end - (start + 1)) = omega arith in
      let rest : drop end (front ++ back) ≡ drop end xs =
      ap (λ k. drop k (front ++ back)) more ∙ sym (drop-drop (end - (start + 1)) (start + 1) (front ++ back))
      ∙ ap (drop (end - (start + 1))) (drop_at front back (start + 1) size) ∙ drop-drop (end - (start + 1)) (start + 1) xs ∙ ap (λ k. drop k xs) (sym more) in
      ap (λ zs. take (start + 1) zs ++ drop end zs) (sym (append_assoc (take start xs) (y ∷ []) back))
      ∙ (λ i. take_at front back (start + 1) size i ++ rest i) ∙ append_assoc (take start xs) (y ∷ []) (drop end xs)
