-- What a round makes of made packets: each is judged by the node, under the plan's last version.
use Rattle.std.proofs.Common.{◌≡◌, ℕ, suc, ◌+◌, ◌<◌, ◌%◌, Bool, true, false, cond, nat_eq, not, List, [], ◌∷◌, length, map, All, Result, Ok, Err, refl, sym, ap, subst, ◌∙◌, arith}
use Rattle.std.specs.Prelude.{codes, is_ok, is_err, count_by}
use Rattle.std.specs.List.{range_with_len, AllZip}
use Rattle.std.proofs.lemmas.List.Sums.{sum_by-cons}
use Rattle.packet_label.specs.declared.denial.Denial.{Denial}
use Rattle.packet_label.specs.declared.fault.CarryFault.{CarryFault}
use Rattle.packet_label.specs.declared.packet.Wire.{Wire}
use Rattle.ip_headers.specs.Packet.{ParsedPacket}
use Rattle.label_commands.specs.declared.flow_lines.hop.Hop.TheVariants.{Receive}
use Rattle.node_tables.specs.Tables.{TableState}
use Rattle.label_receive.specs.declared.receiving.Delivered.{Delivered}
use Rattle.label_receive.specs.Receive.{receive_of}
use Rattle.shared_tables.specs.Plan.{network_after}
use Rattle.shared_tables.specs.Board.{ViewerState}
use Rattle.captures.specs.declared.packet_in.PacketIn.{PacketIn}
use Rattle.label_flow.specs.declared.packet_walk.walked.End.{End}
use Rattle.label_flow.specs.declared.packet_walk.walked.End.TheVariants as the_end
use Rattle.label_flow.specs.packet_walk.Walk.{Coming, tables_of, arrives, verdict_of, hop_verdict, Follows, IsWalk, IsWalkOf, Rises}
use Rattle.label_flow.specs.Pair.{PairState}
use Rattle.label_flow.specs.Round.{pick, IsRound}
use Rattle.label_flow.specs.Schedule.{AreLawful, IsSeen, in_a_row, versions_in}
use Rattle.label_flow.specs.Walked.{AreWalked}
use Rattle.label_flow.proofs.Law.{rounds_are_lawful, rounds_walk_each_packet, versions_without_steps_are_forced, walked_packets_are_determined}
use Rattle.made_run.specs.made_capture.Number.{number_at}
use Rattle.made_run.specs.made_capture.Packet.{packet_made, packet_said}
use Rattle.made_run.proofs.made_capture.Law.{made_packets_say_their_label}
use Rattle.made_run.specs.Verdict.{made_verdict, delivered_made, denied_made}
use Rattle.made_run.specs.inside.Source.{packet_in, packets_made}
use Rattle.made_run.specs.inside.Node.{made_plan, made_hops}
use Rattle.made_run.specs.inside.Feed.{is_delivered, delivered_in, denied_in}
use Rattle.made_run.proofs.Commands.{made_tables}

-- ---- one packet

-- how its walk ends, and what octets it leaves, by the verdict on it
abbrev end_by : Result Delivered Denial → End
end_by (Ok d) = the_end.Delivered d.label d.receiver
end_by (Err why) = the_end.Denied 1 why

abbrev octets_by : List ℕ → Result Delivered Denial → List ℕ
octets_by octets (Ok d) = octets
octets_by octets (Err why) = []

abbrev pair_made : ℕ → ℕ → PairState
pair_made seed i = record {
  walked = record { end = end_by (made_verdict (number_at seed i)); versions = 3 ∷ [] };
  octets = octets_by (packet_made (number_at seed i)) (made_verdict (number_at seed i));
}

follows : (octets : List ℕ) (walk : Coming → Type 0) (verdict : Result Delivered Denial) → Follows 1 octets walk [] (end_by verdict) (octets_by octets verdict) (verdict_of arrives verdict)
follows octets walk (Ok d) = (refl, refl, refl)
follows octets walk (Err why) = (refl, refl, refl)

-- the hop's part of the walk, where the packet reads so
hop_made : (network : List TableState) (octets : List ℕ) (p : ParsedPacket Wire) (verdict : Result Delivered Denial) (walk : Coming → Type 0) → receive_of (tables_of network 0) (codes "eth0") p ≡ verdict
    → Follows 1 octets walk [] (end_by verdict) (octets_by octets verdict) (hop_verdict network (Receive 0 (codes "eth0")) octets (Ok p))
hop_made network octets p verdict walk is =
    subst (λ (v : Result Delivered Denial). Follows 1 octets walk [] (end_by verdict) (octets_by octets verdict) (verdict_of arrives v)) (sym is) (follows octets walk verdict)

walk_made : (seed i : ℕ) → IsWalkOf made_plan made_hops (packet_in seed i) (3 ∷ []) (pair_made seed i).walked.end (pair_made seed i).octets
walk_made seed i =
    let x = number_at seed i in
    let read : Result (ParsedPacket Wire) CarryFault = Ok (packet_said x) in (
      read,
      made_packets_say_their_label x,
      hop_made (network_after made_plan 3) (packet_made x) (packet_said x) (made_verdict x) (λ next. IsWalk made_plan 2 [] next [] (pair_made seed i).walked.end (pair_made seed i).octets) (ap (λ n. receive_of (tables_of n 0) (codes "eth0") (packet_said x)) made_tables),
    )

-- ---- all packets

abbrev packets_at : ℕ → List ℕ → List PacketIn
packets_at seed is = map (packet_in seed) is

abbrev pairs_at : ℕ → List ℕ → List PairState
pairs_at seed is = map (pair_made seed) is

all_walked : (seed : ℕ) (is : List ℕ) → AreWalked made_plan made_hops (packets_at seed is) (pairs_at seed is)
all_walked seed [] = tt
all_walked seed (i ∷ is) = (walk_made seed i, all_walked seed is)

abbrev Seen : PacketIn → List ℕ → Type 0
Seen = IsSeen made_plan made_hops

seen_picked : (b : Bool) (packet : PacketIn) (packets : List PacketIn) (versions : List ℕ) (seen : List (List ℕ)) → Seen packet versions → AllZip Seen packets seen
    → AllZip Seen (cond b (packet ∷ packets) packets) (cond b (versions ∷ seen) seen)
seen_picked true packet packets versions seen here behind = (here, behind)
seen_picked false packet packets versions seen here behind = behind

all_seen : (seed k n : ℕ) (is : List ℕ) → AllZip Seen (pick k 4 n (packets_at seed is)) (pick k 4 n (versions_in (pairs_at seed is)))
all_seen seed k n [] = tt
all_seen seed k n (i ∷ is) =
    let pair = pair_made seed i in
    seen_picked (nat_eq (n % 4) k) _ _ _ _ (pair.walked.end, pair.octets, walk_made seed i) (all_seen seed k (n + 1) is)

rises_picked : (b : Bool) (seen : List (List ℕ)) → Rises 3 3 (in_a_row seen) → Rises 3 3 (in_a_row (cond b ((3 ∷ []) ∷ seen) seen))
rises_picked true seen behind = (omega arith, behind)
rises_picked false seen behind = behind

all_rise : (seed k n : ℕ) (is : List ℕ) → Rises 3 3 (in_a_row (pick k 4 n (versions_in (pairs_at seed is))))
all_rise seed k n [] = omega arith
all_rise seed k n (i ∷ is) = rises_picked (nat_eq (n % 4) k) _ (all_rise seed k (n + 1) is)

as_many : (seed : ℕ) (is : List ℕ) → length (versions_in (pairs_at seed is)) ≡ length (packets_at seed is)
as_many seed [] = refl
as_many seed (i ∷ is) = ap suc (as_many seed is)

lawful : (seed : ℕ) (is : List ℕ) → AreLawful made_plan made_hops 4 3 3 (packets_at seed is) (versions_in (pairs_at seed is))
lawful seed is = record { count = as_many seed is; walks = λ k less. all_seen seed k 0 is; rises = λ k less. all_rise seed k 0 is }

-- ---- a round of them

abbrev pub SitsAt : ℕ → ViewerState → Type 0
SitsAt board v = v ≡ record { board = board; plan = made_plan; seen = 3 }

-- the pairs of a round of all of them
pub pairs_are : (seed board : ℕ) (is : List ℕ) (pairs : List PairState) (olds news : List ViewerState) → length olds ≡ 4 → All (SitsAt board) olds
    → IsRound made_hops 0 (packets_at seed is) pairs olds news → pairs ≡ pairs_at seed is
pairs_are seed board is pairs olds news four seats round =
    let some : 0 < length olds = omega (arith, four) in
    let mine = packets_at seed is in
    let plans : All (λ (v : ViewerState). v.plan ≡ made_plan) olds = λ k d less. ap (λ (v : ViewerState). v.plan) (seats k d less) in
    let begin : All (λ (v : ViewerState). (v.plan ≡ made_plan) × (v.seen ≡ 3)) olds = λ k d less. (plans k d less, ap (λ (v : ViewerState). v.seen) (seats k d less)) in
    let rules = rounds_are_lawful made_plan made_hops 3 mine pairs olds news (omega arith) begin round in
    let walked = (rounds_walk_each_packet made_plan made_hops mine pairs olds news some plans round).0 in
    let versions = versions_without_steps_are_forced made_plan made_hops (length olds) 4 3 mine (versions_in pairs) (versions_in (pairs_at seed is)) some (omega arith) rules (lawful seed is) in
    walked_packets_are_determined made_plan made_hops mine pairs (pairs_at seed is) walked (all_walked seed is) versions

-- ---- how many

ok_delivered : (verdict : Result Delivered Denial) → ◌≡◌ {A = ℕ} (cond (is_delivered (end_by verdict)) 1 0) (cond (is_ok verdict) 1 0)
ok_delivered (Ok d) = refl
ok_delivered (Err why) = refl

err_denied : (verdict : Result Delivered Denial) → ◌≡◌ {A = ℕ} (cond (not (is_delivered (end_by verdict))) 1 0) (cond (is_err verdict) 1 0)
err_denied (Ok d) = refl
err_denied (Err why) = refl

count_delivered : (seed : ℕ) (is : List ℕ) → delivered_in (pairs_at seed is) ≡ count_by (λ i. is_ok (made_verdict (number_at seed i))) is
count_delivered seed [] = refl
count_delivered seed (i ∷ is) =
    let one = sum_by-cons (λ (pair : PairState). cond (is_delivered pair.walked.end) 1 0) (pair_made seed i) (pairs_at seed is) in
    let other = sum_by-cons (λ i. cond (is_ok (made_verdict (number_at seed i))) 1 0) i is in
    omega (arith, one, other, ok_delivered (made_verdict (number_at seed i)), count_delivered seed is)

count_denied : (seed : ℕ) (is : List ℕ) → denied_in (pairs_at seed is) ≡ count_by (λ i. is_err (made_verdict (number_at seed i))) is
count_denied seed [] = refl
count_denied seed (i ∷ is) =
    let one = sum_by-cons (λ (pair : PairState). cond (not (is_delivered pair.walked.end)) 1 0) (pair_made seed i) (pairs_at seed is) in
    let other = sum_by-cons (λ i. cond (is_err (made_verdict (number_at seed i))) 1 0) i is in
    omega (arith, one, other, err_denied (made_verdict (number_at seed i)), count_denied seed is)

-- how many packets were delivered and denied in a round of the first of a seed
pub round_counts : (seed board count : ℕ) (pairs : List PairState) (olds news : List ViewerState) → length olds ≡ 4 → All (SitsAt board) olds
    → IsRound made_hops 0 (packets_made seed 0 count) pairs olds news → (delivered_in pairs ≡ delivered_made seed count) × (denied_in pairs ≡ denied_made seed count)
round_counts seed board count pairs olds news four seats round =
    let is = range_with_len 1 count in
    let same = pairs_are seed board is pairs olds news four seats round in
    (ap delivered_in same ∙ count_delivered seed is, ap denied_in same ∙ count_denied seed is)
