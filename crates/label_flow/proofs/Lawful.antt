-- The versions of a round are lawful.
use Rattle.std.proofs.Common.{◌≡◌, ℕ, zero, suc, ◌+◌, ◌<◌, ◌≤◌, true, false, List, [], ◌∷◌, ◌++◌, length, map, All, nat_eq, cond, refl, sym, ◌∙◌, ap, subst, le_trans, arith, add-zero, ◌%◌}
use Rattle.std.proofs.lemmas.List.Elements.{All-append, All-nil}
use Rattle.std.proofs.lemmas.List.{length-map}
use Rattle.label_commands.specs.declared.flow_lines.hop.Hop.{Hop}
use Rattle.shared_tables.specs.Plan.{PlanState}
use Rattle.shared_tables.specs.Board.{ViewerState}
use Rattle.captures.specs.declared.packet_in.PacketIn.{PacketIn}
use Rattle.label_flow.specs.packet_walk.Walk.{Rises}
use Rattle.label_flow.specs.Pair.{PairState}
use Rattle.label_flow.specs.Round.{pick, IsWork, AreRounds, IsRound}
use Rattle.label_flow.specs.Schedule.{in_a_row, versions_in, AreLawful}
use Rattle.label_flow.proofs.Dealt.{AreSeen}

-- all viewers have this plan, and have seen this version
abbrev Stands : PlanState → ℕ → ViewerState → Type 0
Stands plan before v = (v.plan ≡ plan) × (v.seen ≡ before)

rises_append : (a m b : ℕ) (xs ys : List ℕ) → Rises a m xs → Rises m b ys → Rises a b (xs ++ ys)
rises_append a m b [] [] h k = le_trans h k
rises_append a m b [] (y ∷ ys) h k = (le_trans h k.0, k.1)
rises_append a m b (x ∷ xs) ys h k = (h.0, rises_append x m b xs ys h.1 k)

-- where none is above n, they rise to n
rises_to : (a b n : ℕ) (xs : List ℕ) → a ≤ n → Rises a b xs → All (λ x. x ≤ n) xs → Rises a n xs
rises_to a b n [] low h all = low
rises_to a b n (x ∷ xs) low h all = (h.0, rises_to x b n xs (all 0 0 (omega arith)) h.1 (λ k d less. all (suc k) d (omega (arith, less))))

row_rises : (plan : PlanState) (hops : List Hop) (seen now : ℕ) (xs : List PacketIn) (rs : List PairState) → IsWork plan hops seen xs rs now → Rises seen now (in_a_row (versions_in rs))
row_rises plan hops seen now [] [] h = h
row_rises plan hops seen now [] (r ∷ rs) h = absurd h
row_rises plan hops seen now (x ∷ xs) [] h = absurd h
row_rises plan hops seen now (x ∷ xs) (r ∷ rs) h = rises_append seen h.0 now r.walked.versions (in_a_row (versions_in rs)) h.1.rises (row_rises plan hops h.0 now xs rs h.2)

row_within : (plan : PlanState) (hops : List Hop) (seen now : ℕ) (xs : List PacketIn) (rs : List PairState) → IsWork plan hops seen xs rs now → All (λ v. v ≤ length plan.steps) (in_a_row (versions_in rs))
row_within plan hops seen now [] [] h = All-nil (λ (v : ℕ). v ≤ length plan.steps)
row_within plan hops seen now [] (r ∷ rs) h = absurd h
row_within plan hops seen now (x ∷ xs) [] h = absurd h
row_within plan hops seen now (x ∷ xs) (r ∷ rs) h = All-append (λ (v : ℕ). v ≤ length plan.steps) r.walked.versions (in_a_row (versions_in rs)) h.1.within (row_within plan hops h.0 now xs rs h.2)

row_seen : (plan : PlanState) (hops : List Hop) (seen now : ℕ) (xs : List PacketIn) (rs : List PairState) → IsWork plan hops seen xs rs now → AreSeen plan hops xs (versions_in rs)
row_seen plan hops seen now [] [] h = tt
row_seen plan hops seen now [] (r ∷ rs) h = absurd h
row_seen plan hops seen now (x ∷ xs) [] h = absurd h
row_seen plan hops seen now (x ∷ xs) (r ∷ rs) h = ((r.walked.end, r.octets, h.1.walk), row_seen plan hops h.0 now xs rs h.2)

pick-map : {X Y : Type 0} (f : X → Y) (k w n : ℕ) (xs : List X) → pick k w n (map f xs) ≡ map f (pick k w n xs)
pick-map f k w n [] = refl
pick-map f k w n (x ∷ xs) =
    let h = pick-map f k w (n + 1) xs in
    elim (nat_eq (n % w) k) as (λ b. cond b (f x ∷ pick k w (n + 1) (map f xs)) (pick k w (n + 1) (map f xs)) ≡ map f (cond b (x ∷ pick k w (n + 1) xs) (pick k w (n + 1) xs))) [ true ↦ ap (λ ys. f x ∷ ys) h | false ↦ h ]

-- the work of one of the workers
work_of : (plan : PlanState) (hops : List Hop) (w before : ℕ) (packets : List PacketIn) (pairs : List PairState) (k : ℕ) (vs us : List ViewerState) → All (Stands plan before) vs → AreRounds hops w 0 packets pairs k vs us
    → (j : ℕ) → j < length vs → (now : ℕ) × IsWork plan hops before (pick (k + j) w 0 packets) (pick (k + j) w 0 pairs) now
work_of plan hops w before packets pairs k [] us stands h j less = absurd (omega (arith, less))
work_of plan hops w before packets pairs k (v ∷ vs) [] stands h j less = absurd h
work_of plan hops w before packets pairs k (v ∷ vs) (u ∷ us) stands h zero less =
    let s = stands 0 v (omega arith) in
    let here = subst (λ (p : PlanState). IsWork p hops v.seen (pick k w 0 packets) (pick k w 0 pairs) u.seen) s.0 h.0 in
    let here = subst (λ (n : ℕ). IsWork plan hops n (pick k w 0 packets) (pick k w 0 pairs) u.seen) s.1 here in
    (u.seen, subst (λ (i : ℕ). IsWork plan hops before (pick i w 0 packets) (pick i w 0 pairs) u.seen) (sym (add-zero k)) here)
work_of plan hops w before packets pairs k (v ∷ vs) (u ∷ us) stands h (suc j) less =
    let same : k + 1 + j ≡ k + suc j = omega arith in
    let t = work_of plan hops w before packets pairs (k + 1) vs us (λ i d lt. stands (suc i) d (omega (arith, lt))) h.1 j (omega (arith, less)) in
    (t.0, subst (λ (i : ℕ). IsWork plan hops before (pick i w 0 packets) (pick i w 0 pairs) t.0) same t.1)

pub round_lawful : (plan : PlanState) (hops : List Hop) (before : ℕ) (packets : List PacketIn) (pairs : List PairState) (olds news : List ViewerState) → before ≤ length plan.steps → All (Stands plan before) olds
    → IsRound hops 0 packets pairs olds news → AreLawful plan hops (length olds) before (length plan.steps) packets (versions_in pairs)
round_lawful plan hops before packets pairs olds news low stands h =
    let w = length olds in
    let work : (k : ℕ) → k < w → (now : ℕ) × IsWork plan hops before (pick k w 0 packets) (pick k w 0 pairs) now = λ k less.
    let same : 0 + k ≡ k = omega arith in
    let t = work_of plan hops w before packets pairs 0 olds news stands h.each k less in
    (t.0, subst (λ (i : ℕ). IsWork plan hops before (pick i w 0 packets) (pick i w 0 pairs) t.0) same t.1) in
    let mapped : (k : ℕ) → pick k w 0 (versions_in pairs) ≡ versions_in (pick k w 0 pairs) = λ k. pick-map (λ (pair : PairState). pair.walked.versions) k w 0 pairs in
    record {
      count = length-map pairs (λ (pair : PairState). pair.walked.versions) ∙ h.count;
      walks = λ k less. let t = work k less in subst (AreSeen plan hops (pick k w 0 packets)) (sym (mapped k)) (row_seen plan hops before t.0 (pick k w 0 packets) (pick k w 0 pairs) t.1);
      rises = λ k less.
          let t = work k less in
          let row = in_a_row (versions_in (pick k w 0 pairs)) in
          let up = rises_to before t.0 (length plan.steps) row low (row_rises plan hops before t.0 (pick k w 0 packets) (pick k w 0 pairs) t.1) (row_within plan hops before t.0 (pick k w 0 packets) (pick k w 0 pairs) t.1) in
          subst (λ (vs : List (List ℕ)). Rises before (length plan.steps) (in_a_row vs)) (sym (mapped k)) up;
    }
