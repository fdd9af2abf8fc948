-- Handing over in the order of the packets.
use Rattle.std.proofs.Common.{◌≡◌, ◌≢◌, ⊎_elim, ℕ, ◌+◌, ◌%◌, ◌<◌, ◌≤◌, true, false, List, [], ◌∷◌, ◌++◌, length, take, drop, set, get_or, zero, suc, length-set, slice_get, Some, nat_eq, cond, refl, sym, ◌∙◌, ap, le_refl, arith, append-nil, replicate, get_or-set_same, get_or-set_other}
use Rattle.std.proofs.lemmas.Bool.{cases_eq}
use Rattle.std.proofs.lemmas.List.{take_more, length-take, length-append, take-append-drop}
use Rattle.std.proofs.lemmas.Option.{get_or_from_slice_get, slice_get-get_or, slice_get_within}
use Rattle.std.proofs.Math.Seq.{drop-cons}
use Rattle.label_flow.specs.Pair.{PairState}
use Rattle.captures.specs.declared.packet_in.PacketIn.{PacketIn}
use Rattle.label_flow.specs.Round.{pick}
use Rattle.label_flow.specs.inside.Work.{AreFirst}
use Rattle.label_flow.proofs.Works.{pick-append, pick_mine, pick_other}

-- what is picked of one more at number n + at
snoc_mine : {X : Type 0} (k w n : ℕ) (xs : List X) (x : X) (at : ℕ) → length xs ≡ at → (n + at) % w ≡ k → pick k w n (xs ++ x ∷ []) ≡ pick k w n xs ++ x ∷ []
snoc_mine k w n xs x at len mine =
    pick-append k w n xs (x ∷ []) ∙ ap (λ q. pick k w n xs ++ pick k w (n + q) (x ∷ [])) len ∙ ap (λ zs. pick k w n xs ++ zs) (pick_mine k w (n + at) x [] mine)

snoc_other : {X : Type 0} (k w n : ℕ) (xs : List X) (x : X) (at : ℕ) → length xs ≡ at → (n + at) % w ≢ k → pick k w n (xs ++ x ∷ []) ≡ pick k w n xs
snoc_other k w n xs x at len other =
    pick-append k w n xs (x ∷ []) ∙ ap (λ q. pick k w n xs ++ pick k w (n + q) (x ∷ [])) len ∙ ap (λ zs. pick k w n xs ++ zs) (pick_other k w (n + at) x [] other) ∙ append-nil (pick k w n xs)

-- so many were taken of each worker's
pub record Placed (w n : ℕ) (batch : List PacketIn) (places : List ℕ) (at : ℕ) : Type 0 where
  pub long : w ≤ length places
  pub inside : at ≤ length batch
  pub each : (k : ℕ) → k < w → get_or places k 0 ≡ length (pick k w n (take at batch))

pub record Handing (w n : ℕ) (ds : List (List PairState)) (places : List ℕ) (at : ℕ) (rs : List PairState) : Type 0 where
  pub each : (k : ℕ) → k < w → take (get_or places k 0) (get_or ds k []) ≡ pick k w n rs
  pub count : length rs ≡ at

pub pick_room : (k w n : ℕ) (batch : List PacketIn) (at : ℕ) (d : PacketIn) → at < length batch → (n + at) % w ≡ k → length (pick k w n (take at batch)) < length (pick k w n batch)
pick_room k w n batch at d left mine =
    let len : length (take at batch) ≡ at = omega (arith, length-take at batch) in
    let split : batch ≡ take at batch ++ (get_or batch at d ∷ drop (suc at) batch) = sym (take-append-drop at batch) ∙ ap (λ zs. take at batch ++ zs) (drop-cons batch at d left) in
    let e : pick k w n batch ≡ pick k w n (take at batch) ++ (get_or batch at d ∷ pick k w (n + at + 1) (drop (suc at) batch)) =
    ap (pick k w n) split ∙ pick-append k w n (take at batch) (get_or batch at d ∷ drop (suc at) batch)
    ∙ ap (λ q. pick k w n (take at batch) ++ pick k w (n + q) (get_or batch at d ∷ drop (suc at) batch)) len
    ∙ ap (λ zs. pick k w n (take at batch) ++ zs) (pick_mine k w (n + at) (get_or batch at d) (drop (suc at) batch) mine) in
    omega (arith, ap length e, length-append (pick k w n (take at batch)) (get_or batch at d ∷ pick k w (n + at + 1) (drop (suc at) batch)))

pub placed_more : (w n : ℕ) (batch : List PacketIn) (places : List ℕ) (at : ℕ) (d : PacketIn) (m c : ℕ) → Placed w n batch places at → at < length batch → (n + at) % w ≡ m → m < w → c ≡ get_or places m 0 + 1
    → Placed w n batch (set places m c) (at + 1)
placed_more w n batch places at d m c h left mine below is =
    let len : length (take at batch) ≡ at = omega (arith, length-take at batch) in
    let more = take_more batch at d left in
    let inside : m < length places = omega (arith, h.long) in record {
      long = omega (arith, length-set places m c, h.long);
      inside = omega arith;
      each = λ k lt. ⊎_elim
          (λ (e : m ≡ k).
          let at_k : get_or (set places m c) k 0 ≡ c = ap (λ j. get_or (set places m c) j 0) (sym e) ∙ get_or-set_same places m c 0 inside in
          let grows : length (pick k w n (take (at + 1) batch)) ≡ length (pick k w n (take at batch)) + 1 =
          ap (λ zs. length (pick k w n zs)) more ∙ ap length (snoc_mine k w n (take at batch) (get_or batch at d) at len (mine ∙ e)) ∙ length-append (pick k w n (take at batch)) (get_or batch at d ∷ []) in
          at_k ∙ is ∙ ap (λ j. get_or places j 0 + 1) e ∙ ap (λ q. q + 1) (h.each k lt) ∙ sym grows)
          (λ (e : m ≢ k).
          let same : length (pick k w n (take (at + 1) batch)) ≡ length (pick k w n (take at batch)) =
          ap (λ zs. length (pick k w n zs)) more ∙ ap length (snoc_other k w n (take at batch) (get_or batch at d) at len (λ (t : (n + at) % w ≡ k). e (sym mine ∙ t))) in
          get_or-set_other places m k c 0 (λ (t : k ≡ m). e (sym t)) ∙ h.each k lt ∙ sym same)
          (cases_eq m k);
    }

pub handing_more : (w n : ℕ) (ds : List (List PairState)) (places : List ℕ) (at : ℕ) (rs : List PairState) (m c : ℕ) (r : PairState) → Handing w n ds places at rs → w ≤ length places → (n + at) % w ≡ m → m < w → c ≡ get_or places m 0 + 1
    → slice_get (get_or ds m []) (get_or places m 0) ≡ Some r → Handing w n ds (set places m c) (at + 1) (rs ++ r ∷ [])
handing_more w n ds places at rs m c r h long mine below is found =
    let left = slice_get_within (get_or ds m []) (get_or places m 0) r found in
    let at_r = get_or_from_slice_get (get_or ds m []) (get_or places m 0) r r found in
    let inside : m < length places = omega (arith, long) in record {
      count = length-append rs (r ∷ []) ∙ ap (λ q. q + 1) h.count;
      each = λ k lt. ⊎_elim
          (λ (e : m ≡ k).
          let at_k : get_or (set places m c) k 0 ≡ get_or places m 0 + 1 = ap (λ j. get_or (set places m c) j 0) (sym e) ∙ get_or-set_same places m c 0 inside ∙ is in
          let d = get_or ds m [] in
          let more : take (get_or places m 0 + 1) d ≡ take (get_or places m 0) d ++ r ∷ [] = take_more d (get_or places m 0) r left ∙ ap (λ (x : PairState). take (get_or places m 0) d ++ x ∷ []) at_r in
          ap (λ q. take q (get_or ds k [])) at_k ∙ ap (λ j. take (get_or places m 0 + 1) (get_or ds j [])) (sym e) ∙ more ∙ ap (λ zs. zs ++ r ∷ []) (h.each m below) ∙ ap (λ j. pick j w n rs ++ r ∷ []) e
          ∙ sym (snoc_mine k w n rs r at h.count (mine ∙ e)))
          (λ (e : m ≢ k).
          ap (λ q. take q (get_or ds k [])) (get_or-set_other places m k c 0 (λ (t : k ≡ m). e (sym t))) ∙ h.each k lt ∙ sym (snoc_other k w n rs r at h.count (λ (t : (n + at) % w ≡ k). e (sym mine ∙ t))))
          (cases_eq m k);
    }

pub are_first : (w n : ℕ) (ds : List (List PairState)) (places : List ℕ) (at : ℕ) (rs : List PairState) → Handing w n ds places at rs → AreFirst w n ds rs
are_first w n ds places at rs h = record { each = λ k lt. (get_or places k 0, h.each k lt) }

pub read_any : {X : Type 0} (xs : List X) (i : ℕ) (d e : X) → i < length xs → get_or xs i d ≡ get_or xs i e
read_any xs i d e lt = get_or_from_slice_get xs i (get_or xs i e) d (slice_get-get_or xs i e lt)

-- worker m's next pair
pub next_found : (ds : List (List PairState)) (places : List ℕ) (m : ℕ) (d : List PairState) (r : PairState) → m < length ds → d ≡ get_or ds m d → slice_get d (get_or places m 0) ≡ Some r
    → slice_get (get_or ds m []) (get_or places m 0) ≡ Some r
next_found ds places m d r below is found = ap (λ zs. slice_get zs (get_or places m 0)) (sym (is ∙ read_any ds m d [] below)) ∙ found

pub pick_le : {X : Type 0} (k w n : ℕ) (xs : List X) → length (pick k w n xs) ≤ length xs
pick_le k w n [] = le_refl 0
pick_le {X} k w n (x ∷ xs) =
    let h = pick_le k w (n + 1) xs in
    elim (nat_eq (n % w) k) as (λ b. length (cond b (x ∷ pick k w (n + 1) xs) (pick k w (n + 1) xs)) ≤ length (x ∷ xs)) [ true ↦ omega (arith, h) | false ↦ omega (arith, h) ]

abbrev zeros : ℕ → List ℕ
zeros n = replicate n 0

pub zero_at : (n k : ℕ) → get_or (zeros n) k 0 ≡ 0
zero_at zero k = refl
zero_at (suc n) zero = refl
zero_at (suc n) (suc k) = zero_at n k
