-- What the workers made of a batch, and what is handed over of it.
use Rattle.std.proofs.Common.{◌≡◌, ◌⊎◌, inl, inr, ℕ, zero, suc, ◌+◌, ◌%◌, ◌<◌, ◌≤◌, Bool, true, false, List, [], ◌∷◌, ◌++◌, length, take, drop, get_or, slice_get, Some, None, Option, MatchBool, nat_eq, cond, All, refl, sym, ◌∙◌, ap, subst, le_refl, le_trans, arith, add-zero, zero-le, append_assoc, append-nil, Result, Ok, Err, OnOk}
use Rattle.std.proofs.lemmas.List.Elements.{All-cons}
use Rattle.std.proofs.lemmas.List.{length-take, length-append, take-append-drop}
use Rattle.shared_tables.specs.Plan.{PlanState, network_after}
use Rattle.shared_tables.specs.Board.{ViewerState}
use Rattle.label_commands.specs.declared.flow_lines.hop.Hop.{Hop}
use Rattle.label_flow.specs.declared.packet_walk.walked.End.{End}
use Rattle.label_flow.specs.declared.packet_walk.walked.End.TheVariants as the_end
use Rattle.label_flow.specs.declared.packet_walk.walked.Walked.{Walked}
use Rattle.label_flow.specs.Pair.{PairState}
use Rattle.captures.specs.declared.packet_in.PacketIn.{PacketIn}
use Rattle.label_flow.specs.packet_walk.Walk.{Coming, from_outside, from_hop, octets_in, HopVerdict, denied, goes_on, arrives, hop_verdict, Ends, Follows, IsWalk, IsWalked}
use Rattle.packet_label.specs.declared.denial.Denial.TheVariants.{NotIp}
use Rattle.label_commands.specs.flow_lines.Hop.{node_of}
use Rattle.label_flow.specs.Feed.{MayAccept, IsDeniedBy, AreFetched, IsOver, AreBegun, AreWhole}
use Rattle.label_flow.specs.Round.{pick, IsWork, AreLater, AreRounds, IsRound}
use Rattle.label_flow.specs.inside.Work.{AreWorks, AreFirst, HasRoom, HasNodes, HasViewers}
use Rattle.label_flow.specs.inside.Crew.{IsShort}
use Rattle.label_flow.proofs.Rising.{rises_later}
use Rattle.label_flow.proofs.Works.{pick-append, work-append}

pub work_later : (p : PlanState) (hops : List Hop) (seen now : ℕ) (xs : List PacketIn) (rs : List PairState) → IsWork p hops seen xs rs now → seen ≤ now
work_later p hops seen now [] [] h = h
work_later p hops seen now [] (r ∷ rs) h = absurd h
work_later p hops seen now (x ∷ xs) [] h = absurd h
work_later p hops seen now (x ∷ xs) (r ∷ rs) h = le_trans (rises_later seen h.0 r.walked.versions h.1.rises) (work_later p hops h.0 now xs rs h.2)

work_length : (p : PlanState) (hops : List Hop) (seen now : ℕ) (xs : List PacketIn) (rs : List PairState) → IsWork p hops seen xs rs now → length rs ≡ length xs
work_length p hops seen now [] [] h = refl
work_length p hops seen now [] (r ∷ rs) h = absurd h
work_length p hops seen now (x ∷ xs) [] h = absurd h
work_length p hops seen now (x ∷ xs) (r ∷ rs) h = ap suc (work_length p hops h.0 now xs rs h.2)

work_prefix : (p : PlanState) (hops : List Hop) (seen now : ℕ) (xs ys : List PacketIn) (rs ss : List PairState) → length xs ≡ length rs → IsWork p hops seen (xs ++ ys) (rs ++ ss) now → IsWork p hops seen xs rs now
work_prefix p hops seen now [] ys [] ss len h = work_later p hops seen now ys ss h
work_prefix p hops seen now [] ys (r ∷ rs) ss len h = absurd (omega (arith, len))
work_prefix p hops seen now (x ∷ xs) ys [] ss len h = absurd (omega (arith, len))
work_prefix p hops seen now (x ∷ xs) ys (r ∷ rs) ss len h = (h.0, h.1, work_prefix p hops h.0 now xs ys rs ss (omega (arith, len)) h.2)

pub pick_length : {X Y : Type 0} (k w n : ℕ) (xs : List X) (ys : List Y) → length xs ≡ length ys → length (pick k w n xs) ≡ length (pick k w n ys)
pick_length k w n [] [] len = refl
pick_length k w n [] (y ∷ ys) len = absurd (omega (arith, len))
pick_length k w n (x ∷ xs) [] len = absurd (omega (arith, len))
pick_length k w n (x ∷ xs) (y ∷ ys) len =
    let h = pick_length k w (n + 1) xs ys (omega (arith, len)) in
    elim (nat_eq (n % w) k) as (λ b. length (cond b (x ∷ pick k w (n + 1) xs) (pick k w (n + 1) xs)) ≡ length (cond b (y ∷ pick k w (n + 1) ys) (pick k w (n + 1) ys))) [ true ↦ ap suc h | false ↦ h ]

-- the first m packets, of which these pairs were handed over
part_work : (p : PlanState) (hops : List Hop) (k w n seen now : ℕ) (batch : List PacketIn) (d rs : List PairState) (c : ℕ) → length rs ≤ length batch
    → IsWork p hops seen (pick k w n batch) d now → take c d ≡ pick k w n rs → IsWork p hops seen (pick k w n (take (length rs) batch)) (pick k w n rs) now
part_work p hops k w n seen now batch d rs c few h is =
    let m = length rs in
    let xs = pick k w n (take m batch) in
    let ys = pick k w (n + length (take m batch)) (drop m batch) in
    let len : length (take m batch) ≡ length rs = omega (arith, length-take m batch) in
    let cut : pick k w n batch ≡ xs ++ ys = ap (pick k w n) (sym (take-append-drop m batch)) ∙ pick-append k w n (take m batch) (drop m batch) in
    let cut' : d ≡ pick k w n rs ++ drop c d = sym (take-append-drop c d) ∙ ap (λ zs. zs ++ drop c d) is in
    let whole = subst (λ (zs : List PairState). IsWork p hops seen (xs ++ ys) zs now) cut' (subst (λ (zs : List PacketIn). IsWork p hops seen zs d now) cut h) in
    work_prefix p hops seen now xs ys (pick k w n rs) (drop c d) (pick_length k w n (take m batch) rs len) whole

pub first_rounds : (hops : List Hop) (w n : ℕ) (batch : List PacketIn) (rs : List PairState) (k : ℕ) (vs : List ViewerState) (ds : List (List PairState)) (us : List ViewerState) → length rs ≤ length batch
    → AreWorks hops w n batch k vs ds us → ((j : ℕ) → j < length vs → (c : ℕ) × (take c (get_or ds j []) ≡ pick (k + j) w n rs))
    → AreRounds hops w n (take (length rs) batch) rs k vs us
first_rounds hops w n batch rs k [] [] [] few h first = tt
first_rounds hops w n batch rs k [] [] (u ∷ us) few h first = absurd h
first_rounds hops w n batch rs k [] (d ∷ ds) us few h first = absurd h
first_rounds hops w n batch rs k (v ∷ vs) [] us few h first = absurd h
first_rounds hops w n batch rs k (v ∷ vs) (d ∷ ds) [] few h first = absurd h
first_rounds hops w n batch rs k (v ∷ vs) (d ∷ ds) (u ∷ us) few h first =
    let f = first 0 (omega arith) in
    let here : take f.0 d ≡ pick k w n rs = f.1 ∙ ap (λ j. pick j w n rs) (add-zero k) in (
      part_work v.plan hops k w n v.seen u.seen batch d rs f.0 few h.0 here,
      first_rounds hops w n batch rs (k + 1) vs ds us few h.1
          (λ j lt. let t = first (suc j) (omega (arith, lt)) in (t.0, t.1 ∙ ap (λ i. pick i w n rs) (omega arith))),
    )

pub works_room : (hops : List Hop) (w n : ℕ) (batch : List PacketIn) (k : ℕ) (vs : List ViewerState) (ds : List (List PairState)) (us : List ViewerState) → AreWorks hops w n batch k vs ds us
    → (j : ℕ) → j < length vs → length (get_or ds j []) ≡ length (pick (k + j) w n batch)
works_room hops w n batch k [] ds us h j lt = absurd (omega (arith, lt))
works_room hops w n batch k (v ∷ vs) [] us h j lt = absurd h
works_room hops w n batch k (v ∷ vs) (d ∷ ds) [] h j lt = absurd h
works_room hops w n batch k (v ∷ vs) (d ∷ ds) (u ∷ us) h zero lt = work_length v.plan hops v.seen u.seen (pick k w n batch) d h.0 ∙ ap (λ i. length (pick i w n batch)) (sym (add-zero k))
works_room hops w n batch k (v ∷ vs) (d ∷ ds) (u ∷ us) h (suc j) lt = works_room hops w n batch (k + 1) vs ds us h.1 j (omega (arith, lt)) ∙ ap (λ i. length (pick i w n batch)) (omega arith)

pub works_length : (hops : List Hop) (w n : ℕ) (batch : List PacketIn) (k : ℕ) (vs : List ViewerState) (ds : List (List PairState)) (us : List ViewerState) → AreWorks hops w n batch k vs ds us → length ds ≡ length vs
works_length hops w n batch k [] [] [] h = refl
works_length hops w n batch k [] [] (u ∷ us) h = absurd h
works_length hops w n batch k [] (d ∷ ds) us h = absurd h
works_length hops w n batch k (v ∷ vs) [] us h = absurd h
works_length hops w n batch k (v ∷ vs) (d ∷ ds) [] h = absurd h
works_length hops w n batch k (v ∷ vs) (d ∷ ds) (u ∷ us) h = ap suc (works_length hops w n batch (k + 1) vs ds us h.1)

follows_denied : (k m : ℕ) (octets versions : List ℕ) (end : End) (out : List ℕ) (walk : Coming → Type 0) → k ≤ m → ((next : Coming) → walk next → IsDeniedBy m end)
    → (verdict : HopVerdict) → Follows k octets walk versions end out verdict → IsDeniedBy m end
follows_denied k m octets versions end out walk low rec (denied why) h = subst (IsDeniedBy m) (sym h.1) low
follows_denied k m octets versions end out walk low rec (goes_on carrier packet) h = rec (from_hop carrier packet) h
follows_denied k m octets versions end out walk low rec (arrives delivered) h = subst (IsDeniedBy m) (sym h.1) tt

walk_denied : (plan : PlanState) (k m : ℕ) (hops : List Hop) (coming : Coming) (versions : List ℕ) (end : End) (out : List ℕ) → m + 1 ≡ k + length hops → IsWalk plan k hops coming versions end out → IsDeniedBy m end
walk_denied plan k m [] coming versions end out is h = subst (IsDeniedBy m) (sym h.1) tt
walk_denied plan k m (hop ∷ hops) coming [] end out is h = absurd h
walk_denied plan k m (hop ∷ hops) coming (v ∷ versions) end out is h =
    follows_denied k m (octets_in coming) versions end out (λ next. IsWalk plan (k + 1) hops next versions end out) (omega (arith, is))
    (λ next t. walk_denied plan (k + 1) m hops next versions end out (omega (arith, is)) t) (hop_verdict (network_after plan v) hop (octets_in coming) h.0) h.2

left_short : (octets out : List ℕ) → length octets ≤ 262144 → (length out ≤ 65575) ⊎ (out ≡ octets) → length out ≤ 262144
left_short octets out few (inl short) = omega (arith, short)
left_short octets out few (inr same) = omega (arith, few, ap length same)

walked_fits : (plan : PlanState) (hops : List Hop) (seen now : ℕ) (x : PacketIn) (w : Walked) (out : List ℕ) → length x.bytes ≤ 262144 → IsWalked plan hops seen now x w out → MayAccept (length hops) w.end out
walked_fits plan hops seen now x w out few h =
    let P : Bool → Type 0 = λ b. MatchBool b (IsWalk plan 1 hops (from_outside x.bytes) w.versions w.end out) (Ends w.versions w.end out (the_end.Denied 0 NotIp) []) → IsDeniedBy (length hops) w.end in
    let cases : (b : Bool) → P b = λ b. elim b as P [
      | true ↦ (λ t. walk_denied plan 1 (length hops) hops (from_outside x.bytes) w.versions w.end out (omega arith) t)
      | false ↦ (λ t. subst (IsDeniedBy (length hops)) (sym t.1) zero-le)
    ] in
    record { short = left_short x.bytes out few h.short; hop = cases x.is_ip h.walk }

all_tail : (x : PacketIn) (xs : List PacketIn) → All IsShort (x ∷ xs) → All IsShort xs
all_tail x xs h k d lt = h (suc k) d (omega (arith, lt))

pub pick_all : (k w n : ℕ) (xs : List PacketIn) → All IsShort xs → All IsShort (pick k w n xs)
pick_all k w n [] h = h
pick_all k w n (x ∷ xs) h =
    let t = pick_all k w (n + 1) xs (all_tail x xs h) in
    elim (nat_eq (n % w) k) as (λ b. All IsShort (cond b (x ∷ pick k w (n + 1) xs) (pick k w (n + 1) xs))) [ true ↦ All-cons IsShort x (pick k w (n + 1) xs) (h 0 x (omega arith)) t | false ↦ t ]

pub work_fits : (p : PlanState) (hops : List Hop) (seen now : ℕ) (xs : List PacketIn) (rs : List PairState) → All IsShort xs → IsWork p hops seen xs rs now
    → (j : ℕ) (r : PairState) → slice_get rs j ≡ Some r → MayAccept (length hops) r.walked.end r.octets
work_fits p hops seen now [] [] short h j r at = absurd (cc)
work_fits p hops seen now [] (q ∷ rs) short h j r at = absurd h
work_fits p hops seen now (x ∷ xs) [] short h j r at = absurd h
work_fits p hops seen now (x ∷ xs) (q ∷ rs) short h zero r at =
    let same : q ≡ r = cc in
    subst (λ (t : PairState). MayAccept (length hops) t.walked.end t.octets) same (walked_fits p hops seen h.0 x q.walked q.octets (short 0 x (omega arith)) h.1)
work_fits p hops seen now (x ∷ xs) (q ∷ rs) short h (suc j) r at = work_fits p hops h.0 now xs rs (all_tail x xs short) h.2 j r at

pub has_room : (hops : List Hop) (n : ℕ) (batch : List PacketIn) (vs : List ViewerState) (ds : List (List PairState)) (us : List ViewerState) → AreWorks hops (length vs) n batch 0 vs ds us → HasRoom (length ds) n batch ds
has_room hops n batch vs ds us h =
    let len = works_length hops (length vs) n batch 0 vs ds us h in
    rw len (record { each = λ k lt. works_room hops (length vs) n batch 0 vs ds us h k lt ∙ ap (λ i. length (pick i (length vs) n batch)) (omega arith) })

-- of as many packets each worker has as many
pub room_same : (w n : ℕ) (ps batch : List PacketIn) (ds : List (List PairState)) → length ps ≡ length batch → HasRoom w n ps ds → HasRoom w n batch ds
room_same w n ps batch ds len h = record { each = λ k lt. h.each k lt ∙ pick_length k w n ps batch len }

-- what was handed over is a round of the first packets
pub handed_round : (hops : List Hop) (n : ℕ) (batch : List PacketIn) (vs : List ViewerState) (ds : List (List PairState)) (us : List ViewerState) (rs : List PairState) → AreWorks hops (length vs) n batch 0 vs ds us
    → AreFirst (length ds) n ds rs → length rs ≤ length batch → IsRound hops n (take (length rs) batch) rs vs us
handed_round hops n batch vs ds us rs h first few =
    let len = works_length hops (length vs) n batch 0 vs ds us h in
    let f : AreFirst (length vs) n ds rs = rw (← len) first in
    record {
      each = first_rounds hops (length vs) n batch rs 0 vs ds us few h (λ j lt. let t = f.each j lt in (t.0, t.1 ∙ ap (λ i. pick i (length vs) n rs) (omega arith)));
      count = omega (arith, length-take (length rs) batch);
    }

pub rounds_none : (hops : List Hop) (w n k : ℕ) (vs us : List ViewerState) → AreLater vs us → AreRounds hops w n [] [] k vs us
rounds_none hops w n k [] [] h = tt
rounds_none hops w n k [] (u ∷ us) h = absurd h
rounds_none hops w n k (v ∷ vs) [] h = absurd h
rounds_none hops w n k (v ∷ vs) (u ∷ us) h = (h.0.seen, rounds_none hops w n (k + 1) vs us h.1)

pub none_round : (hops : List Hop) (n : ℕ) (vs us : List ViewerState) → AreLater vs us → IsRound hops n [] [] vs us
none_round hops n vs us h = record { each = rounds_none hops (length vs) n 0 vs us h; count = refl }

pub later_same : (vs : List ViewerState) → AreLater vs vs
later_same [] = tt
later_same (v ∷ vs) = (record { board = refl; plan = refl; seen = le_refl v.seen }, later_same vs)

pub later_length : (vs us : List ViewerState) → AreLater vs us → length us ≡ length vs
later_length [] [] h = refl
later_length [] (u ∷ us) h = absurd h
later_length (v ∷ vs) [] h = absurd h
later_length (v ∷ vs) (u ∷ us) h = ap suc (later_length vs us h.1)

pub later_later : (vs us ws : List ViewerState) → AreLater vs us → AreLater us ws → AreLater vs ws
later_later [] [] [] h k = tt
later_later [] [] (w ∷ ws) h k = absurd k
later_later [] (u ∷ us) ws h k = absurd h
later_later (v ∷ vs) [] ws h k = absurd h
later_later (v ∷ vs) (u ∷ us) [] h k = absurd k
later_later (v ∷ vs) (u ∷ us) (w ∷ ws) h k = (record { board = k.0.board ∙ h.0.board; plan = k.0.plan ∙ h.0.plan; seen = le_trans h.0.seen k.0.seen }, later_later vs us ws h.1 k.1)

holds_later : (hops : List Hop) (vs us : List ViewerState) → AreLater vs us → All (HasNodes hops) vs → All (HasNodes hops) us
holds_later hops [] [] h all = all
holds_later hops [] (u ∷ us) h all = absurd h
holds_later hops (v ∷ vs) [] h all = absurd h
holds_later hops (v ∷ vs) (u ∷ us) h all =
    let P : PlanState → Type 0 = λ p. All (λ (hop : Hop). node_of hop < p.nodes) hops in
    All-cons (HasNodes hops) u us (subst P (sym h.0.plan) (all 0 v (omega arith))) (holds_later hops vs us h.1 (λ k d lt. all (suc k) d (omega (arith, lt))))

pub viewers_later : (hops : List Hop) (vs us : List ViewerState) → AreLater vs us → HasViewers hops vs → HasViewers hops us
viewers_later hops vs us h v =
    let len = later_length vs us h in
    record { some = omega (arith, len, v.some); few = omega (arith, len, v.few); nodes = holds_later hops vs us h v.nodes }

rounds_append : (hops : List Hop) (w n l : ℕ) (ps qs : List PacketIn) (rs ss : List PairState) (k : ℕ) (vs us ws : List ViewerState) → l ≡ n + length ps → length rs ≡ length ps
    → AreLater vs us → AreRounds hops w n ps rs k vs us → AreRounds hops w l qs ss k us ws → AreRounds hops w n (ps ++ qs) (rs ++ ss) k vs ws
rounds_append hops w n l ps qs rs ss k [] [] [] is len later h t = tt
rounds_append hops w n l ps qs rs ss k [] [] (x ∷ ws) is len later h t = absurd t
rounds_append hops w n l ps qs rs ss k [] (u ∷ us) ws is len later h t = absurd h
rounds_append hops w n l ps qs rs ss k (v ∷ vs) [] ws is len later h t = absurd h
rounds_append hops w n l ps qs rs ss k (v ∷ vs) (u ∷ us) [] is len later h t = absurd t
rounds_append hops w n l ps qs rs ss k (v ∷ vs) (u ∷ us) (x ∷ ws) is len later h t =
    let next : IsWork v.plan hops u.seen (pick k w l qs) (pick k w l ss) x.seen = subst (λ (p : PlanState). IsWork p hops u.seen (pick k w l qs) (pick k w l ss) x.seen) later.0.plan t.0 in
    let both = work-append v.plan hops v.seen u.seen x.seen (pick k w n ps) (pick k w l qs) (pick k w n rs) (pick k w l ss) h.0 next in
    let first : pick k w n ps ++ pick k w l qs ≡ pick k w n (ps ++ qs) = ap (λ i. pick k w n ps ++ pick k w i qs) is ∙ sym (pick-append k w n ps qs) in
    let second : pick k w n rs ++ pick k w l ss ≡ pick k w n (rs ++ ss) = ap (λ i. pick k w n rs ++ pick k w i ss) (is ∙ ap (λ i. n + i) (sym len)) ∙ sym (pick-append k w n rs ss) in (
      subst (λ (zs : List PacketIn). IsWork v.plan hops v.seen zs (pick k w n (rs ++ ss)) x.seen) first (subst (λ (zs : List PairState). IsWork v.plan hops v.seen (pick k w n ps ++ pick k w l qs) zs x.seen) second both),
      rounds_append hops w n l ps qs rs ss (k + 1) vs us ws is len later.1 h.1 t.1,
    )

pub round-append : (hops : List Hop) (n l : ℕ) (ps qs : List PacketIn) (rs ss : List PairState) (vs us ws : List ViewerState) → l ≡ n + length ps → AreLater vs us
    → IsRound hops n ps rs vs us → IsRound hops l qs ss us ws → IsRound hops n (ps ++ qs) (rs ++ ss) vs ws
round-append hops n l ps qs rs ss vs us ws is later h t =
    let each : AreRounds hops (length vs) l qs ss 0 us ws = rw (← later_length vs us later) t.each in
    record {
      each = rounds_append hops (length vs) n l ps qs rs ss 0 vs us ws is h.count later h.each each;
      count = omega (arith, length-append ps qs, length-append rs ss, h.count, t.count);
    }

pub front-append : (a b c : Option (List PacketIn)) (ps qs : List PacketIn) → AreFetched a ps b → AreFetched b qs c → AreFetched a (ps ++ qs) c
front-append None b c ps qs h k = k_none b c qs h k
  where
    k_none : (b c : Option (List PacketIn)) (qs : List PacketIn) → b ≡ None → AreFetched b qs c → c ≡ None
    k_none None c qs h k = k
    k_none (Some x) c qs h k = absurd (cc)
front-append (Some a) None c ps qs h k = absurd h
front-append (Some a) (Some b) None ps qs h k = absurd k
front-append (Some a) (Some b) (Some c) ps qs h k = h ∙ ap (λ zs. ps ++ zs) k ∙ sym (append_assoc ps qs c)

pub front_begun : (a b : Option (List PacketIn)) (ps : List PacketIn) → AreFetched a ps b → AreBegun a ps
front_begun None b ps h = tt
front_begun (Some a) None ps h = absurd h
front_begun (Some a) (Some b) ps h = (b, h)

pub begun_part : (a b : Option (List PacketIn)) (ps qs : List PacketIn) (m : ℕ) → AreFetched a ps b → AreBegun b qs → AreBegun a (ps ++ qs)
begun_part None b ps qs m h k = tt
begun_part (Some a) None ps qs m h k = absurd h
begun_part (Some a) (Some b) ps qs m h k = (k.0, h ∙ ap (λ zs. ps ++ zs) k.1 ∙ sym (append_assoc ps qs k.0))

pub begun_take : (ps : List PacketIn) (m : ℕ) → AreBegun (Some ps) (take m ps)
begun_take ps m = (drop m ps, sym (take-append-drop m ps))

pub front_part : (a b : Option (List PacketIn)) (ps qs : List PacketIn) → AreFetched a ps b → AreBegun (Some ps) qs → AreBegun a qs
front_part None b ps qs h k = tt
front_part (Some a) None ps qs h k = absurd h
front_part (Some a) (Some b) ps qs h k = (k.0 ++ b, h ∙ ap (λ zs. zs ++ b) k.1 ∙ append_assoc qs k.0 b)

pub front_whole : (a b : Option (List PacketIn)) (ps : List PacketIn) → AreFetched a ps b → IsOver b → AreWhole a ps
front_whole None b ps h over = tt
front_whole (Some a) None ps h over = absurd h
front_whole (Some a) (Some b) ps h over = h ∙ ap (λ zs. ps ++ zs) over ∙ append-nil ps

pub begun_none : (a : Option (List PacketIn)) → AreBegun a []
begun_none None = tt
begun_none (Some a) = (a, refl)

pub front_none : (a : Option (List PacketIn)) → AreFetched a [] a
front_none None = refl
front_none (Some a) = refl

pub on_ok : {A E : Type 0} (r : Result A E) {P Q : Type 0} → (P → Q) → OnOk r P → OnOk r Q
on_ok (Ok a) f p = f p
on_ok (Err e) f p = tt
