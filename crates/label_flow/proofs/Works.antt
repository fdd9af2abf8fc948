-- Works that follow one another, and the packets of a worker.
use Rattle.std.proofs.Common.{◌≡◌, ◌≢◌, ℕ, ◌+◌, ◌%◌, ◌<◌, ◌≤◌, true, false, List, [], ◌∷◌, ◌++◌, length, take, get_or, nat_eq, cond, sym, ◌∙◌, ap, subst, le_refl, le_trans, arith, add-zero, append-nil}
use Rattle.std.proofs.lemmas.Bool.Decides.{nat_tests}
use Rattle.std.proofs.lemmas.List.{take_more, length-take}
use Rattle.shared_tables.specs.Plan.{PlanState}
use Rattle.label_commands.specs.declared.flow_lines.hop.Hop.{Hop}
use Rattle.label_flow.specs.Pair.{PairState}
use Rattle.captures.specs.declared.packet_in.PacketIn.{PacketIn}
use Rattle.label_flow.specs.packet_walk.Walk.{IsWalked}
use Rattle.shared_tables.specs.Board.{ViewerState}
use Rattle.label_flow.specs.Round.{pick, IsWork, AreLater}
use Rattle.label_flow.proofs.Rising.{rises_lower}

walked_lower : (p : PlanState) (hops : List Hop) (low seen now : ℕ) (x : PacketIn) (r : PairState) → low ≤ seen → IsWalked p hops seen now x r.walked r.octets → IsWalked p hops low now x r.walked r.octets
walked_lower p hops low seen now x r down w = record { walk = w.walk; rises = rises_lower low seen now r.walked.versions down w.rises; within = w.within; short = w.short }

pub work_lower : (p : PlanState) (hops : List Hop) (low seen now : ℕ) (xs : List PacketIn) (rs : List PairState) → low ≤ seen → IsWork p hops seen xs rs now → IsWork p hops low xs rs now
work_lower p hops low seen now [] [] down h = le_trans down h
work_lower p hops low seen now [] (r ∷ rs) down h = absurd h
work_lower p hops low seen now (x ∷ xs) [] down h = absurd h
work_lower p hops low seen now (x ∷ xs) (r ∷ rs) down h = (h.0, walked_lower p hops low seen h.0 x r down h.1, h.2)

pub work-append : (p : PlanState) (hops : List Hop) (seen m now : ℕ) (xs ys : List PacketIn) (rs ss : List PairState)
    → IsWork p hops seen xs rs m → IsWork p hops m ys ss now → IsWork p hops seen (xs ++ ys) (rs ++ ss) now
work-append p hops seen m now [] ys [] ss h k = work_lower p hops seen m now ys ss h k
work-append p hops seen m now [] ys (r ∷ rs) ss h k = absurd h
work-append p hops seen m now (x ∷ xs) ys [] ss h k = absurd h
work-append p hops seen m now (x ∷ xs) ys (r ∷ rs) ss h k = (h.0, h.1, work-append p hops h.0 m now xs ys rs ss h.2 k)

pub pick-append : {X : Type 0} (k w n : ℕ) (xs ys : List X) → pick k w n (xs ++ ys) ≡ pick k w n xs ++ pick k w (n + length xs) ys
pick-append k w n [] ys = ap (λ m. pick k w m ys) (sym (add-zero n))
pick-append {X} k w n (x ∷ xs) ys =
    let e : pick k w (n + 1) (xs ++ ys) ≡ pick k w (n + 1) xs ++ pick k w (n + length (x ∷ xs)) ys =
    pick-append k w (n + 1) xs ys ∙ ap (λ m. pick k w (n + 1) xs ++ pick k w m ys) (omega arith) in
    elim (nat_eq (n % w) k) as (λ b. cond b (x ∷ pick k w (n + 1) (xs ++ ys)) (pick k w (n + 1) (xs ++ ys)) ≡ cond b (x ∷ pick k w (n + 1) xs) (pick k w (n + 1) xs) ++ pick k w (n + length (x ∷ xs)) ys) [
      | true ↦ ap (λ zs. x ∷ zs) e
      | false ↦ e
    ]

pub pick_mine : {X : Type 0} (k w n : ℕ) (x : X) (xs : List X) → n % w ≡ k → pick k w n (x ∷ xs) ≡ x ∷ pick k w (n + 1) xs
pick_mine {X} k w n x xs is =
    let b : nat_eq (n % w) k ≡ true = grind (arith, nat_tests) in
    ap (λ t. cond t (x ∷ pick k w (n + 1) xs) (pick k w (n + 1) xs)) b

pub pick_other : {X : Type 0} (k w n : ℕ) (x : X) (xs : List X) → n % w ≢ k → pick k w n (x ∷ xs) ≡ pick k w (n + 1) xs
pick_other {X} k w n x xs is =
    let b : nat_eq (n % w) k ≡ false = grind (arith, nat_tests) in
    ap (λ t. cond t (x ∷ pick k w (n + 1) xs) (pick k w (n + 1) xs)) b

-- the turn at the next number
pub turn_on : (n at w next : ℕ) → next ≡ (n + at + 1) % w → next ≡ (n + (at + 1)) % w
turn_on n at w next is = is ∙ ap (λ m. m % w) (omega arith)

module _ (p : PlanState) (hops : List Hop) (k w n seen : ℕ) (batch : List PacketIn) (at : ℕ) (d : PacketIn) (done : List PairState) (m now : ℕ) where
  pub work_more : IsWork p hops seen (pick k w n (take at batch)) done m → at < length batch → (n + at) % w ≡ k → (r : PairState) → IsWalked p hops m now (get_or batch at d) r.walked r.octets
      → IsWork p hops seen (pick k w n (take (at + 1) batch)) (done ++ r ∷ []) now
  work_more h left mine r walked =
      let x = get_or batch at d in
      let len : length (take at batch) ≡ at = omega (arith, length-take at batch) in
      let e : pick k w n (take (at + 1) batch) ≡ pick k w n (take at batch) ++ x ∷ [] =
      ap (pick k w n) (take_more batch at d left) ∙ pick-append k w n (take at batch) (x ∷ [])
      ∙ ap (λ q. pick k w n (take at batch) ++ pick k w (n + q) (x ∷ [])) len
      ∙ ap (λ zs. pick k w n (take at batch) ++ zs) (pick_mine k w (n + at) x [] mine) in
      subst (λ (zs : List PacketIn). IsWork p hops seen zs (done ++ r ∷ []) now) (sym e)
      (work-append p hops seen m now (pick k w n (take at batch)) (x ∷ []) done (r ∷ []) h (now, walked, le_refl now))

  pub work_same : IsWork p hops seen (pick k w n (take at batch)) done m → at < length batch → (n + at) % w ≢ k → IsWork p hops seen (pick k w n (take (at + 1) batch)) done m
  work_same h left other =
      let x = get_or batch at d in
      let len : length (take at batch) ≡ at = omega (arith, length-take at batch) in
      let e : pick k w n (take (at + 1) batch) ≡ pick k w n (take at batch) =
      ap (pick k w n) (take_more batch at d left) ∙ pick-append k w n (take at batch) (x ∷ [])
      ∙ ap (λ q. pick k w n (take at batch) ++ pick k w (n + q) (x ∷ [])) len
      ∙ ap (λ zs. pick k w n (take at batch) ++ zs) (pick_other k w (n + at) x [] other)
      ∙ append-nil (pick k w n (take at batch)) in
      subst (λ (zs : List PacketIn). IsWork p hops seen zs done m) (sym e) h

pub later-append : (vs us ws zs : List ViewerState) → AreLater vs us → AreLater ws zs → AreLater (vs ++ ws) (us ++ zs)
later-append [] [] ws zs h k = k
later-append [] (u ∷ us) ws zs h k = absurd h
later-append (v ∷ vs) [] ws zs h k = absurd h
later-append (v ∷ vs) (u ∷ us) ws zs h k = (h.0, later-append vs us ws zs h.1 k)
