-- Each packet of a round has its walk; and what is so under a beginning of a plan is so under the plan.
use Rattle.std.proofs.Common.{◌≡◌, ℕ, zero, suc, ◌+◌, ◌<◌, ◌≤◌, ◌%◌, Bool, true, false, List, [], ◌∷◌, ◌++◌, length, take, All, nat_eq, cond, refl, sym, ◌∙◌, ap, subst, le_trans, arith, add-zero}
use Rattle.std.proofs.lemmas.List.Elements.{All-nil, All-cons}
use Rattle.std.proofs.lemmas.Bool.Decides.{nat_tests}
use Rattle.std.proofs.lemmas.Nat.{mod_below}
use Rattle.label_commands.specs.declared.flow_lines.hop.Hop.{Hop}
use Rattle.shared_tables.specs.Plan.{PlanState}
use Rattle.shared_tables.specs.Board.{ViewerState}
use Rattle.captures.specs.declared.packet_in.PacketIn.{PacketIn}
use Rattle.label_flow.specs.declared.packet_walk.walked.End.{End}
use Rattle.label_flow.specs.packet_walk.Walk.{IsWalkOf}
use Rattle.label_flow.proofs.packet_walk.Law.{walks_end_in_one_way, walks_agree_on_a_beginning}
use Rattle.label_flow.specs.Pair.{PairState}
use Rattle.label_flow.specs.Round.{pick, IsWork, AreRounds, IsRound}
use Rattle.label_flow.specs.Schedule.{in_a_row, versions_in, AreLawful}
use Rattle.label_flow.specs.Walked.{AreWalked}
use Rattle.label_flow.proofs.Dealt.{AreSeen}
use Rattle.label_flow.proofs.Rising.{rises_within}

-- none of the versions of a packet is above m
abbrev pub Within : ℕ → PairState → Type 0
Within m pair = All (λ v. v ≤ m) pair.walked.versions

rest_of : {X : Type 0} (P : X → Type 0) (x : X) (xs : List X) → All P (x ∷ xs) → All P xs
rest_of P x xs all = λ k d less. all (suc k) d (omega (arith, less))

first_of : {X : Type 0} (P : X → Type 0) (x : X) (xs : List X) → All P (x ∷ xs) → P x
first_of P x xs all = all 0 x (omega arith)

-- ---- each packet of a round

-- some worker walked these packets one after the other
abbrev IsWorked : PlanState → List Hop → List PacketIn → List PairState → Type 0
IsWorked plan hops packets pairs = (seen : ℕ) × (now : ℕ) × IsWork plan hops seen packets pairs now

work_behind : (plan : PlanState) (hops : List Hop) (b : Bool) (x : PacketIn) (xs : List PacketIn) (r : PairState) (rs : List PairState) → IsWorked plan hops (cond b (x ∷ xs) xs) (cond b (r ∷ rs) rs) → IsWorked plan hops xs rs
work_behind plan hops true x xs r rs h = (h.2.0, h.1, h.2.2)
work_behind plan hops false x xs r rs h = h

work_here : (plan : PlanState) (hops : List Hop) (b : Bool) (x : PacketIn) (xs : List PacketIn) (r : PairState) (rs : List PairState) → b ≡ true → IsWorked plan hops (cond b (x ∷ xs) xs) (cond b (r ∷ rs) rs)
    → IsWalkOf plan hops x r.walked.versions r.walked.end r.octets × Within (length plan.steps) r
work_here plan hops true x xs r rs is h = (h.2.1.walk, h.2.1.within)
work_here plan hops false x xs r rs is h = absurd cc

work_at : (plan : PlanState) (hops : List Hop) (w : ℕ) (packets : List PacketIn) (pairs : List PairState) (k : ℕ) (vs us : List ViewerState) → All (λ (v : ViewerState). v.plan ≡ plan) vs
    → AreRounds hops w 0 packets pairs k vs us → (j : ℕ) → j < length vs → IsWorked plan hops (pick (k + j) w 0 packets) (pick (k + j) w 0 pairs)
work_at plan hops w packets pairs k [] us same h j less = absurd (omega (arith, less))
work_at plan hops w packets pairs k (v ∷ vs) [] same h j less = absurd h
work_at plan hops w packets pairs k (v ∷ vs) (u ∷ us) same h zero less =
    let here = subst (λ (p : PlanState). IsWork p hops v.seen (pick k w 0 packets) (pick k w 0 pairs) u.seen) (first_of (λ (x : ViewerState). x.plan ≡ plan) v vs same) h.0 in
    subst (λ (i : ℕ). IsWorked plan hops (pick i w 0 packets) (pick i w 0 pairs)) (sym (add-zero k)) (v.seen, u.seen, here)
work_at plan hops w packets pairs k (v ∷ vs) (u ∷ us) same h (suc j) less =
    let moved : k + 1 + j ≡ k + suc j = omega arith in
    subst (λ (i : ℕ). IsWorked plan hops (pick i w 0 packets) (pick i w 0 pairs)) moved
    (work_at plan hops w packets pairs (k + 1) vs us (rest_of (λ (x : ViewerState). x.plan ≡ plan) v vs same) h.1 j (omega (arith, less)))

same : (n : ℕ) → nat_eq n n ≡ true
same n = grind (arith, nat_tests)

each_walked : (plan : PlanState) (hops : List Hop) (w n : ℕ) (packets : List PacketIn) (pairs : List PairState) → 0 < w → length pairs ≡ length packets
    → ((k : ℕ) → k < w → IsWorked plan hops (pick k w n packets) (pick k w n pairs)) → AreWalked plan hops packets pairs × All (Within (length plan.steps)) pairs
each_walked plan hops w n packets [] some count work = (tt, All-nil (Within (length plan.steps)))
each_walked plan hops w n [] (r ∷ rs) some count work = absurd (omega (arith, count))
each_walked plan hops w n (x ∷ xs) (r ∷ rs) some count work =
    let here = work_here plan hops (nat_eq (n % w) (n % w)) x (pick (n % w) w (n + 1) xs) r (pick (n % w) w (n + 1) rs) (same (n % w)) (work (n % w) (mod_below n w some)) in
    let behind = each_walked plan hops w (n + 1) xs rs some (omega (arith, count))
    (λ k less. work_behind plan hops (nat_eq (n % w) k) x (pick k w (n + 1) xs) r (pick k w (n + 1) rs) (work k less)) in
    ((here.0, behind.0), All-cons (Within (length plan.steps)) r rs here.1 behind.1)

pub round_walked : (plan : PlanState) (hops : List Hop) (packets : List PacketIn) (pairs : List PairState) (olds news : List ViewerState) → 0 < length olds → All (λ (v : ViewerState). v.plan ≡ plan) olds
    → IsRound hops 0 packets pairs olds news → AreWalked plan hops packets pairs × All (Within (length plan.steps)) pairs
round_walked plan hops packets pairs olds news some same h =
    let zero_on : (k : ℕ) → 0 + k ≡ k = λ k. omega arith in
    each_walked plan hops (length olds) 0 packets pairs some h.count
    (λ k less. subst (λ (i : ℕ). IsWorked plan hops (pick i (length olds) 0 packets) (pick i (length olds) 0 pairs)) (zero_on k)
    (work_at plan hops (length olds) packets pairs 0 olds news same h.each k less))

-- ---- a beginning of a plan

pub walked_over : (plan : PlanState) (hops : List Hop) (m : ℕ) (packets : List PacketIn) (pairs : List PairState) → All (Within m) pairs
    → AreWalked (record plan { steps = take m plan.steps }) hops packets pairs → AreWalked plan hops packets pairs
walked_over plan hops m packets [] low h = tt
walked_over plan hops m [] (r ∷ rs) low h = absurd h
walked_over plan hops m (x ∷ xs) (r ∷ rs) low h = (
  walks_agree_on_a_beginning plan hops x r.walked.versions r.walked.end r.octets m (first_of (Within m) r rs low) h.0,
  walked_over plan hops m xs rs (rest_of (Within m) r rs low) h.1,
)

first_part : (m : ℕ) (xs ys : List ℕ) → All (λ v. v ≤ m) (xs ++ ys) → All (λ v. v ≤ m) xs
first_part m [] ys all = All-nil (λ (v : ℕ). v ≤ m)
first_part m (x ∷ xs) ys all = All-cons (λ (v : ℕ). v ≤ m) x xs (first_of (λ (v : ℕ). v ≤ m) x (xs ++ ys) all) (first_part m xs ys (rest_of (λ (v : ℕ). v ≤ m) x (xs ++ ys) all))

last_part : (m : ℕ) (xs ys : List ℕ) → All (λ v. v ≤ m) (xs ++ ys) → All (λ v. v ≤ m) ys
last_part m [] ys all = all
last_part m (x ∷ xs) ys all = last_part m xs ys (rest_of (λ (v : ℕ). v ≤ m) x (xs ++ ys) all)

seen_over : (plan : PlanState) (hops : List Hop) (m : ℕ) (packets : List PacketIn) (seen : List (List ℕ)) → All (λ v. v ≤ m) (in_a_row seen)
    → AreSeen (record plan { steps = take m plan.steps }) hops packets seen → AreSeen plan hops packets seen
seen_over plan hops m [] [] low h = tt
seen_over plan hops m [] (vs ∷ seen) low h = absurd h
seen_over plan hops m (x ∷ xs) [] low h = absurd h
seen_over plan hops m (x ∷ xs) (vs ∷ seen) low h = (
  (h.0.0, h.0.1, walks_agree_on_a_beginning plan hops x vs h.0.0 h.0.1 m (first_part m vs (in_a_row seen) low) h.0.2),
  seen_over plan hops m xs seen (last_part m vs (in_a_row seen) low) h.1,
)

lower : (a m : ℕ) (xs : List ℕ) → a ≤ m → All (λ v. v ≤ a) xs → All (λ v. v ≤ m) xs
lower a m xs less all = λ k d within. le_trans (all k d within) less

pub lawful_over : (plan : PlanState) (hops : List Hop) (w before after m : ℕ) (packets : List PacketIn) (seen : List (List ℕ)) → after ≤ m
    → AreLawful (record plan { steps = take m plan.steps }) hops w before after packets seen → AreLawful plan hops w before after packets seen
lawful_over plan hops w before after m packets seen less h = record {
  count = h.count;
  walks = λ k within. seen_over plan hops m (pick k w 0 packets) (pick k w 0 seen)
      (lower after m (in_a_row (pick k w 0 seen)) less (rises_within before after (in_a_row (pick k w 0 seen)) (h.rises k within))) (h.walks k within);
  rises = h.rises;
}

-- ---- one way

first_same : {X : Type 0} {a b : X} {xs ys : List X} → a ∷ xs ≡ b ∷ ys → a ≡ b
first_same {X} {a} {b} {xs} {ys} is = cc

pub rest_same : {X : Type 0} {a b : X} {xs ys : List X} → a ∷ xs ≡ b ∷ ys → xs ≡ ys
rest_same {X} {a} {b} {xs} {ys} is = cc

pub cons_same : {X : Type 0} {a b : X} {xs ys : List X} → a ≡ b → xs ≡ ys → a ∷ xs ≡ b ∷ ys
cons_same {X} {a} {b} {xs} {ys} p q = cc

abbrev made : End → List ℕ → List ℕ → PairState
made end versions octets = record { walked = record { end = end; versions = versions }; octets = octets }

pair_same : (r s : PairState) → r.walked.end ≡ s.walked.end → r.walked.versions ≡ s.walked.versions → r.octets ≡ s.octets → r ≡ s
pair_same r s e v o =
    ap (λ end. made end r.walked.versions r.octets) e
    ∙ ap (λ versions. made s.walked.end versions r.octets) v
    ∙ ap (λ octets. made s.walked.end s.walked.versions octets) o

pub walked_once : (plan : PlanState) (hops : List Hop) (packets : List PacketIn) (pairs pairs' : List PairState) → AreWalked plan hops packets pairs → AreWalked plan hops packets pairs'
    → versions_in pairs ≡ versions_in pairs' → pairs ≡ pairs'
walked_once plan hops packets [] [] x y same = refl
walked_once plan hops packets [] (r ∷ rs) x y same = absurd cc
walked_once plan hops packets (r ∷ rs) [] x y same = absurd cc
walked_once plan hops [] (r ∷ rs) (s ∷ ss) x y same = absurd x
walked_once plan hops (p ∷ ps) (r ∷ rs) (s ∷ ss) x y same =
    let versions : r.walked.versions ≡ s.walked.versions = first_same same in
    let one = walks_end_in_one_way plan hops p s.walked.versions r.walked.end s.walked.end r.octets s.octets
    (subst (λ (vs : List ℕ). IsWalkOf plan hops p vs r.walked.end r.octets) versions x.0) y.0 in
    cons_same (pair_same r s one.0 versions one.1) (walked_once plan hops ps rs ss x.1 y.1 (rest_same same))
