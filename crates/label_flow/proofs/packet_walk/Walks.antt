-- A walk that goes on by one hop, and what was written is read back.
use Rattle.std.proofs.Common.{◌≡◌, ◌⊎◌, inl, inr, ℕ, suc, ◌+◌, ◌<◌, ◌≤◌, Bool, true, false, List, [], ◌∷◌, ◌++◌, length, drop, take, get_or, arith, Some, slice_get, unwrap_or, All, MatchBool, Result, Ok, refl, sym, ap, ◌∙◌, subst, le_refl, append-nil}
use Rattle.std.proofs.Math.Numerals.{suc-eq-add-one}
use Rattle.std.proofs.Math.Seq.{drop-cons}
use Rattle.std.proofs.lemmas.List.{length-append, length-drop, length-take-le, take_all}
use Rattle.std.proofs.lemmas.List.Elements.{All-cons, All-nil}
use Rattle.mls_label.specs.declared.label.Label.{Label}
use Rattle.domain_map.specs.declared.address_text.address.Address.{Address}
use Rattle.ip_headers.specs.Packet.{ParsedPacket}
use Rattle.ip_headers.specs.Written.{packet_octets, hides_payload}
use Rattle.packet_label.specs.declared.denial.Carrier.{Carrier}
use Rattle.packet_label.specs.declared.denial.Carrier.TheVariants.{Unlabelled}
use Rattle.packet_label.specs.declared.denial.Denial.{Denial}
use Rattle.packet_label.specs.declared.denial.Denial.TheVariants.{NotIp}
use Rattle.packet_label.specs.declared.fault.CarryFault.{CarryFault}
use Rattle.packet_label.specs.declared.packet.Wire.{Wire}
use Rattle.packet_label.specs.Written.{IsReadAs, written, settled_packet}
use Rattle.packet_label.proofs.Law.{octets_are_a_packet_or_have_one_fault, written_packet_reads_back}
use Rattle.label_commands.specs.declared.flow_lines.hop.Hop.{Hop}
use Rattle.label_commands.specs.flow_lines.Hop.{node_of}
use Rattle.node_tables.specs.Tables.{TableState, fresh}
use Rattle.label_send.specs.Laws.{IsInRoom}
use Rattle.shared_tables.specs.Plan.{PlanState, network_after}
use Rattle.label_flow.specs.declared.packet_walk.hop.Given.TheVariants.{Goes, Arrives, Denied}
use Rattle.captures.specs.declared.packet_in.PacketIn.{PacketIn}
use Rattle.label_flow.specs.declared.packet_walk.walked.End.{End}
use Rattle.label_flow.specs.declared.packet_walk.walked.End.TheVariants as the_end
use Rattle.label_flow.specs.packet_walk.Walk.{from_outside, from_hop, tables_of, hop_verdict, IsWalk, Ends, IsWalked}
use Rattle.label_flow.specs.packet_walk.inside.Hop.{ReadsBack, HasJudged}
use Rattle.label_flow.specs.packet_walk.inside.Way.{octets_behind, Comes, HasWalked}

next_by : (hides : Bool) (octets : List ℕ) (next read : Result (ParsedPacket Wire) CarryFault) → IsReadAs octets read
    → ((answer : Result (ParsedPacket Wire) CarryFault) → MatchBool hides (IsReadAs octets answer) (answer ≡ next) → IsReadAs octets answer) → MatchBool hides (IsReadAs octets read) (read ≡ next)
next_by true octets next read is law = is
next_by false octets next read is law = (octets_are_a_packet_or_have_one_fault octets).one read next is (law next refl)

-- what has room is read as the packet that it then is
pub reads_back : (p : ParsedPacket Wire) → IsInRoom p → ReadsBack p
reads_back p h read is =
    next_by (hides_payload p.version (written p)) (packet_octets (written p)) (Ok (settled_packet p)) read is (λ answer next. written_packet_reads_back p answer h.writable h.room h.long next)

pub some_read : (octets : List ℕ) → (read : Result (ParsedPacket Wire) CarryFault) × IsReadAs octets read
some_read octets = (octets_are_a_packet_or_have_one_fault octets).some

-- behind the last hop
walked_none : (plan : PlanState) (k : ℕ) (hops : List Hop) (carrier : Carrier) (octets : List ℕ) (seen : ℕ) (before : List ℕ) → length hops < 1
    → HasWalked plan k hops carrier octets seen seen before before (the_end.Sent carrier) octets
walked_none plan k [] carrier octets seen before few = record {
  more = [];
  versions = sym (append-nil before);
  rises = le_refl seen;
  within = All-nil (λ (v : ℕ). v ≤ length plan.steps);
  short = inr refl;
  walk = λ coming comes. (refl, ap the_end.Sent comes.carrier_is, comes.octets_are);
}
walked_none plan k (hop ∷ hops) carrier octets seen before few = absurd (omega (arith, few))

written_short : (octets out left : List ℕ) → length out ≤ 65575 → (length left ≤ 65575) ⊎ (left ≡ out) → (length left ≤ 65575) ⊎ (left ≡ octets)
written_short octets out left few (inl short) = inl short
written_short octets out left few (inr same) = inl (omega (arith, few, ap length same))

snoc_append : (xs : List ℕ) (v : ℕ) (ys : List ℕ) → (xs ++ v ∷ []) ++ ys ≡ xs ++ v ∷ ys
snoc_append [] v ys = refl
snoc_append (x ∷ xs) v ys = ap (λ zs. x ∷ zs) (snoc_append xs v ys)

module _ (plan : PlanState) (k : ℕ) (hop : Hop) (hops : List Hop) (carrier : Carrier) (octets : List ℕ) (seen mid : ℕ) (before : List ℕ) (label : Label) (out : List ℕ) where
  -- a hop wrote a packet, and those behind it judged it
  walked_on : (next : Carrier) (now : ℕ) (after : List ℕ) (end : End) (left : List ℕ) → HasJudged plan seen mid hop octets (Goes next) label out
      → HasWalked plan (k + 1) hops next out mid now (before ++ mid ∷ []) after end left → HasWalked plan k (hop ∷ hops) carrier octets seen now before after end left
  walked_on next now after end left judged rest =
      let given = judged.gave.answered in record {
        more = mid ∷ rest.more;
        versions = rest.versions ∙ snoc_append before mid rest.more;
        rises = (judged.later, rest.rises);
        within = All-cons (λ (v : ℕ). v ≤ length plan.steps) mid rest.more judged.within rest.within;
        short = written_short octets out left given.4 rest.short;
        walk = λ coming comes.
            let verdict = ap (λ os. hop_verdict (network_after plan mid) hop os judged.gave.read) (sym comes.octets_are) ∙ given.1 in (
              judged.gave.read,
              comes.reads judged.gave.read judged.gave.reads,
              rw verdict (rest.walk (from_hop next given.0) (record { carrier_is = refl; octets_are = given.2; reads = λ read is. given.3 read (subst (λ (os : List ℕ). IsReadAs os read) given.2 is) })),
            );
      }

  walked_here : (receiver : Address) (left : List ℕ) → HasJudged plan seen mid hop octets (Arrives receiver) label out → left ≡ octets
      → HasWalked plan k (hop ∷ hops) carrier octets seen mid before (before ++ mid ∷ []) (the_end.Delivered label receiver) left
  walked_here receiver left judged same = record {
    more = mid ∷ [];
    versions = refl;
    rises = (judged.later, le_refl mid);
    within = All-cons (λ (v : ℕ). v ≤ length plan.steps) mid [] judged.within (All-nil (λ (v : ℕ). v ≤ length plan.steps));
    short = inr same;
    walk = λ coming comes.
        let verdict = ap (λ os. hop_verdict (network_after plan mid) hop os judged.gave.read) (sym comes.octets_are) ∙ judged.gave.answered in
        (judged.gave.read, comes.reads judged.gave.read judged.gave.reads, rw verdict (refl, refl, same ∙ comes.octets_are));
  }

  walked_denied : (why : Denial) → HasJudged plan seen mid hop octets (Denied why) label out
      → HasWalked plan k (hop ∷ hops) carrier octets seen mid before (before ++ mid ∷ []) (the_end.Denied k why) []
  walked_denied why judged = record {
    more = mid ∷ [];
    versions = refl;
    rises = (judged.later, le_refl mid);
    within = All-cons (λ (v : ℕ). v ≤ length plan.steps) mid [] judged.within (All-nil (λ (v : ℕ). v ≤ length plan.steps));
    short = inl (omega arith);
    walk = λ coming comes.
        let verdict = ap (λ os. hop_verdict (network_after plan mid) hop os judged.gave.read) (sym comes.octets_are) ∙ judged.gave.answered in
        (judged.gave.read, comes.reads judged.gave.read judged.gave.reads, rw verdict (refl, refl, refl));
  }

-- a version that is put at a place is the last one
pub put_length : (vs : List ℕ) (at v : ℕ) → at ≤ length vs → length (take at vs ++ v ∷ []) ≡ at + 1
put_length vs at v within = length-append (take at vs) (v ∷ []) ∙ ap (λ n. n + 1) (length-take-le at vs within)

pub put_all : (vs : List ℕ) (at v : ℕ) → at ≤ length vs → take (at + 1) (take at vs ++ v ∷ []) ≡ take at vs ++ v ∷ []
put_all vs at v within = take_all (at + 1) (take at vs ++ v ∷ []) (omega (arith, put_length vs at v within))

-- the packet as it comes behind one hop more is what that hop wrote
pub behind_more : (hops : ℕ) (packet out : List ℕ) → octets_behind (hops + 1) packet out ≡ out
behind_more hops packet out = ap (λ n. octets_behind n packet out) (sym (suc-eq-add-one hops))

-- Behind the hops in front of place `at` a packet comes so: whatever then becomes of it on the others becomes of it on all.
pub record GoesOn (plan : PlanState) (hops : List Hop) (packet : List ℕ) (began at : ℕ) (carrier : Carrier) (octets : List ℕ) (seen : ℕ) (before : List ℕ) : Type 0 where
  pub rest : (now : ℕ) (after : List ℕ) (end : End) (left : List ℕ) → HasWalked plan (at + 1) (drop at hops) carrier octets seen now before after end left
      → HasWalked plan 1 hops Unlabelled packet began now [] after end left

pub goes_first : (plan : PlanState) (hops : List Hop) (packet : List ℕ) (began : ℕ) → GoesOn plan hops packet began 0 Unlabelled packet began []
goes_first plan hops packet began = record { rest = λ now after end left walked. walked }

pub place_at : {X : Type 0} (xs : List X) (at : ℕ) (x : X) → at < length xs → x ≡ get_or xs at x → drop at xs ≡ x ∷ drop (at + 1) xs
place_at xs at x within is = drop-cons xs at x within ∙ ap (λ y. y ∷ drop (suc at) xs) (sym is) ∙ ap (λ n. x ∷ drop n xs) (suc-eq-add-one at)

module _ (plan : PlanState) (hops : List Hop) (packet : List ℕ) (began at : ℕ) (carrier : Carrier) (octets : List ℕ) (seen : ℕ) (before : List ℕ)
    (goes : GoesOn plan hops packet began at carrier octets seen before) where
  -- what the hop at this place and those behind it do
  goes_at : (hop : Hop) (now : ℕ) (after : List ℕ) (end : End) (left : List ℕ) → at < length hops → hop ≡ get_or hops at hop
      → HasWalked plan (at + 1) (hop ∷ drop (at + 1) hops) carrier octets seen now before after end left → HasWalked plan 1 hops Unlabelled packet began now [] after end left
  goes_at hop now after end left within is walked =
      goes.rest now after end left (subst (λ (hs : List Hop). HasWalked plan (at + 1) hs carrier octets seen now before after end left) (sym (place_at hops at hop within is)) walked)

  pub goes_more : (hop : Hop) (next : Carrier) (mid : ℕ) (label : Label) (out : List ℕ) → at < length hops → hop ≡ get_or hops at hop
      → HasJudged plan seen mid hop octets (Goes next) label out → GoesOn plan hops packet began (at + 1) next out mid (before ++ mid ∷ [])
  goes_more hop next mid label out within is judged = record {
    rest = λ now after end left walked.
        goes_at hop now after end left within is (walked_on plan (at + 1) hop (drop (at + 1) hops) carrier octets seen mid before label out next now after end left judged walked);
  }

  pub goes_here : (hop : Hop) (receiver : Address) (mid : ℕ) (label : Label) (out left : List ℕ) → at < length hops → hop ≡ get_or hops at hop
      → HasJudged plan seen mid hop octets (Arrives receiver) label out → left ≡ octets
      → HasWalked plan 1 hops Unlabelled packet began mid [] (before ++ mid ∷ []) (the_end.Delivered label receiver) left
  goes_here hop receiver mid label out left within is judged same =
      goes_at hop mid (before ++ mid ∷ []) (the_end.Delivered label receiver) left within is
      (walked_here plan (at + 1) hop (drop (at + 1) hops) carrier octets seen mid before label out receiver left judged same)

  pub goes_denied : (hop : Hop) (why : Denial) (mid : ℕ) (label : Label) (out : List ℕ) → at < length hops → hop ≡ get_or hops at hop
      → HasJudged plan seen mid hop octets (Denied why) label out
      → HasWalked plan 1 hops Unlabelled packet began mid [] (before ++ mid ∷ []) (the_end.Denied (at + 1) why) []
  goes_denied hop why mid label out within is judged =
      goes_at hop mid (before ++ mid ∷ []) (the_end.Denied (at + 1) why) [] within is
      (walked_denied plan (at + 1) hop (drop (at + 1) hops) carrier octets seen mid before label out why judged)

  -- behind the last hop
  pub goes_out : (left : List ℕ) → length hops ≤ at → left ≡ octets → HasWalked plan 1 hops Unlabelled packet began seen [] before (the_end.Sent carrier) left
  goes_out left last same =
      goes.rest seen before (the_end.Sent carrier) left
      (subst (λ (os : List ℕ). HasWalked plan (at + 1) (drop at hops) carrier octets seen seen before before (the_end.Sent carrier) os) (sym same)
      (walked_none plan (at + 1) (drop at hops) carrier octets seen before (omega (arith, last, length-drop at hops))))

-- the node of the hop at this place is in the network
pub node_at : (hops all : List Hop) (at : ℕ) (hop : Hop) (p q : PlanState) → hops ≡ all → p ≡ q → All (λ (x : Hop). node_of x < q.nodes) all → at < length hops → hop ≡ get_or hops at hop → node_of hop < p.nodes
node_at hops all at hop p q same plan nodes within is =
    let here = subst (λ (hs : List Hop). All (λ (x : Hop). node_of x < q.nodes) hs) (sym same) nodes in
    subst (λ (r : PlanState). node_of hop < r.nodes) (sym plan) (subst (λ (x : Hop). node_of x < q.nodes) (sym is) (here at hop within))

-- all hops of a packet of IP judged it
pub walked_all : (plan : PlanState) (hops : List Hop) (carrier : Carrier) (seen now : ℕ) (packet : PacketIn) (after : List ℕ) (end : End) (out : List ℕ) → packet.is_ip ≡ true
    → HasWalked plan 1 hops carrier packet.bytes seen now [] after end out → Comes (from_outside packet.bytes) carrier packet.bytes
    → IsWalked plan hops seen now packet (record { end = end; versions = after }) out
walked_all plan hops carrier seen now packet after end out ip h comes = record {
  walk =
      let P : Bool → Type 0 = λ b. MatchBool b (IsWalk plan 1 hops (from_outside packet.bytes) after end out) (Ends after end out (the_end.Denied 0 NotIp) []) in
      subst P (sym ip) (rw (sym h.versions) at (h.walk (from_outside packet.bytes) comes));
  rises = rw (sym h.versions) at h.rises;
  within = rw (sym h.versions) at h.within;
  short = h.short;
}

pub walked_frame : (plan : PlanState) (hops : List Hop) (seen : ℕ) (packet : PacketIn) → packet.is_ip ≡ false
    → IsWalked plan hops seen seen packet (record { end = the_end.Denied 0 NotIp; versions = [] }) []
walked_frame plan hops seen packet ip = record {
  walk =
      let P : Bool → Type 0 = λ b. MatchBool b (IsWalk plan 1 hops (from_outside packet.bytes) [] (the_end.Denied 0 NotIp) []) (Ends [] (the_end.Denied 0 NotIp) [] (the_end.Denied 0 NotIp) []) in
      subst P (sym ip) (refl, refl, refl);
  rises = le_refl seen;
  within = All-nil (λ (v : ℕ). v ≤ length plan.steps);
  short = inl (omega arith);
}

pub tables_found : (network : List TableState) (node : ℕ) (t : TableState) → slice_get network node ≡ Some t → tables_of network node ≡ t
tables_found network node t is = ap (λ o. unwrap_or o fresh) is
