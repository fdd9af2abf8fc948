-- What is denied as Inexpressible.
use Rattle.std.proofs.Common.{◌≡◌, ℕ, ◌-◌, Bool, true, false, List, Option, Some, None, Result, Ok, Err, refl, ap, ◌∙◌}
use Rattle.std.specs.Prelude.{nat_le, nat_lt, ok_or, if◌then◌else◌}
use Rattle.mls_label.specs.declared.label.Label.{Label}
use Rattle.domain_map.specs.declared.protocol.Protocol.{Protocol}
use Rattle.domain_map.specs.Domains.{find_of}
use Rattle.ip_headers.specs.declared.cause.Cause.{Cause}
use Rattle.ip_headers.specs.Packet.{ParsedPacket, relabelled}
use Rattle.ip_headers.specs.Written.{rebuilt_length, rebuilt_room, room_limit}
use Rattle.packet_label.specs.declared.packet.Wire.{Wire}
use Rattle.packet_label.specs.declared.denial.Denial.{Denial}
use Rattle.packet_label.specs.declared.denial.Denial.TheVariants.{Inexpressible, OutsideRange, NoRoom, TooLong, Expired, NoMap}
use Rattle.packet_label.specs.Written.{written}
use Rattle.version_cross.specs.Cause.{cross_cause}
use Rattle.version_cross.specs.Cross.{crossed}
use Rattle.node_tables.specs.Coherence.{NamesDefined}
use Rattle.node_tables.specs.Tables.{TableState}
use Rattle.label_receive.specs.Steps.{◌>>=◌}
use Rattle.label_receive.specs.Incoming.{Incoming, address_in, label_of}
use Rattle.label_receive.specs.Range.{is_outside}
use Rattle.label_receive.proofs.Law.{receiving_never_tells_inexpressible}
use Rattle.label_send.specs.Outgoing.{suits, carrier_of, outgoing}
use Rattle.label_send.specs.Room.{within_length, within_room, sent_under}
use Rattle.label_send.specs.NoOption.{HasNoOption}
use Rattle.label_send.proofs.Law.{labels_that_stay_are_inexpressible}
use Rattle.label_gateway.specs.Crossing.{partner_of, unless_caused, crossed_between, crossed_under}
use Rattle.label_gateway.specs.Forward.{Forwarded, onward, forward_protocol, forward_of}
use Rattle.label_gateway.specs.NoOption.{HasNoWayOn, before_crossing, before_forwarding}
use Rattle.label_gateway.specs.inside.Protocol.{forwarded_with}

-- a step denies so, where what follows never does
step_told : {X Y : Type 0} (r : Result X Denial) (rest : X → Result Y Denial) → ((x : X) → rest x ≡ Err Inexpressible → ⊥) → (r >>= rest) ≡ Err Inexpressible → r ≡ Err Inexpressible
step_told (Err why) rest never h = let same : why ≡ Inexpressible = cc in ap Err same
step_told (Ok x) rest never h = absurd (never x h)

length_never : (p : ParsedPacket Wire) → within_length p ≡ Err Inexpressible → ⊥
length_never p e = by_test (nat_lt 65535 (rebuilt_length (written p))) e where
  by_test : (b : Bool) → (if b then Err TooLong else Ok p) ≡ Err Inexpressible → ⊥
  by_test true h = absurd (cc)
  by_test false h = absurd (cc)

room_never : (p : ParsedPacket Wire) → within_room p ≡ Err Inexpressible → ⊥
room_never p e = by_test (nat_lt (room_limit p.version) (rebuilt_room (written p))) e where
  by_test : (b : Bool) → (if b then Err NoRoom else within_length p) ≡ Err Inexpressible → ⊥
  by_test true h = absurd (cc)
  by_test false h = length_never p h

-- ---- the packet

-- no case before it holds, and the label doesn't go out
record StaysSo (t : TableState) (protocol : Protocol) (label : Label) (before : Option Denial) : Type 0 where
  first : before ≡ None
  out : outgoing t.definitions protocol label ≡ Err Inexpressible

module _ (t : TableState) (protocol : Protocol) (label : Label) (p : ParsedPacket Wire) where
  by_cause : (source destination : List ℕ) (cause : Option Cause)
      → unless_caused cause (outgoing t.definitions protocol label >>= (λ said. within_length (crossed p source destination said (p.hops - 1)))) ≡ Err Inexpressible
      → StaysSo t protocol label (before_crossing (Some source) (Some destination) cause)
  by_cause source destination (Some cause) e = absurd (cc)
  by_cause source destination None e =
      let rest : Option Wire → Result (ParsedPacket Wire) Denial = λ said. within_length (crossed p source destination said (p.hops - 1)) in
      record { first = refl; out = step_told (outgoing t.definitions protocol label) rest (λ said. length_never (crossed p source destination said (p.hops - 1))) e }

  by_partners : (a b : Option (List ℕ)) → crossed_between t.definitions protocol label p (p.hops - 1) a b ≡ Err Inexpressible → StaysSo t protocol label (before_crossing a b (cross_cause p))
  by_partners None b e = absurd (cc)
  by_partners (Some source) None e = absurd (cc)
  by_partners (Some source) (Some destination) e = by_cause source destination (cross_cause p) e

  abbrev crossing : Option Denial
  crossing = before_crossing (partner_of t.pairs p.version p.source) (partner_of t.pairs p.version p.destination) (cross_cause p)

  by_version : (b : Bool) → (if b then sent_under t.definitions protocol label p (p.hops - 1) else crossed_under t protocol label p (p.hops - 1)) ≡ Err Inexpressible
      → StaysSo t protocol label (if b then None else crossing)
  by_version true e =
      let rest : Option Wire → Result (ParsedPacket Wire) Denial = λ said. within_room (relabelled p said (p.hops - 1)) in
      record { first = refl; out = step_told (outgoing t.definitions protocol label) rest (λ said. room_never (relabelled p said (p.hops - 1))) e }
  by_version false e = by_partners (partner_of t.pairs p.version p.source) (partner_of t.pairs p.version p.destination) e

  stays_so : onward t protocol label p ≡ Err Inexpressible → StaysSo t protocol label (if suits p.version protocol then None else crossing)
  stays_so e = by_version (suits p.version protocol) e

-- ---- forwarding

-- two tests that deny alike, and one between them
abbrev tested : Bool → Bool → Bool → Result Protocol Denial → Result Protocol Denial
tested a b c r = if a then Err OutsideRange else (if b then Err Expired else (if c then Err OutsideRange else r))

abbrev tested_before : Bool → Bool → Bool → Option Denial → Option Denial
tested_before a b c before = if a then Some OutsideRange else (if b then Some Expired else (if c then Some OutsideRange else before))

forwarded_never : (f : Forwarded) → ◌≡◌ {A = Result Forwarded Denial} (Ok f) (Err Inexpressible) → ⊥
forwarded_never f h = absurd (cc)

module _ (t : TableState) (from to domain : List ℕ) (p : ParsedPacket Wire) (defined : NamesDefined t.definitions t.domains) where
  abbrev IsTold : Type 0
  IsTold = (lacks : HasNoWayOn t from domain p) × (before_forwarding t from to lacks.incoming lacks.none.protocol p ≡ None)

  module _ (incoming : Incoming) (labels : label_of t from p ≡ Ok incoming) where
    by_tests : (a b c : Bool) (protocol : Protocol) (before : Option Denial) → (onward t protocol incoming.high p ≡ Err Inexpressible → StaysSo t protocol incoming.high before)
        → forwarded_with t incoming.high p (tested a b c (Ok protocol)) ≡ Err Inexpressible → StaysSo t protocol incoming.high (tested_before a b c before)
    by_tests true b c protocol before goes e = absurd (cc)
    by_tests false true c protocol before goes e = absurd (cc)
    by_tests false false true protocol before goes e = absurd (cc)
    by_tests false false false protocol before goes e =
        let made : ParsedPacket Wire → Forwarded = λ packet. record { carrier = carrier_of protocol; label = incoming.high; packet = packet } in
        goes (step_told (onward t protocol incoming.high p) (λ packet. Ok (made packet)) (λ packet. forwarded_never (made packet)) e)

    no_map : (a b c : Bool) → forwarded_with t incoming.high p (tested a b c (Err NoMap)) ≡ Err Inexpressible → ⊥
    no_map true b c e = absurd (cc)
    no_map false true c e = absurd (cc)
    no_map false false true e = absurd (cc)
    no_map false false false e = absurd (cc)

    by_map : (o : Option Protocol) → find_of t.domains domain (address_in p.version p.destination) ≡ o
        → forwarded_with t incoming.high p (tested (is_outside t.ranges from incoming.low incoming.high) (nat_le p.hops 1) (is_outside t.ranges to incoming.low incoming.high) (ok_or o NoMap)) ≡ Err Inexpressible → IsTold
    by_map None found e = absurd (no_map (is_outside t.ranges from incoming.low incoming.high) (nat_le p.hops 1) (is_outside t.ranges to incoming.low incoming.high) e)
    by_map (Some protocol) found e =
        let so = by_tests (is_outside t.ranges from incoming.low incoming.high) (nat_le p.hops 1) (is_outside t.ranges to incoming.low incoming.high) protocol
        (if suits p.version protocol then None else crossing t protocol incoming.high p) (stays_so t protocol incoming.high p) e in
        let stays = labels_that_stay_are_inexpressible t.definitions t.domains domain (address_in p.version p.destination) protocol incoming.high Inexpressible defined found so.out in
        let none : HasNoOption t domain incoming.high p = record { protocol = protocol; found = found; none = stays.1 } in
        (record { incoming = incoming; labels = labels; none = none }, so.first)

  by_labels : (r : Result Incoming Denial) → label_of t from p ≡ r → (r >>= (λ incoming. forwarded_with t incoming.high p (forward_protocol t from to domain p incoming))) ≡ Err Inexpressible → IsTold
  by_labels (Err why) labels e = let same : why ≡ Inexpressible = cc in absurd (receiving_never_tells_inexpressible.labels t from p (labels ∙ ap Err same))
  by_labels (Ok incoming) labels e = by_map incoming labels (find_of t.domains domain (address_in p.version p.destination)) refl e

pub told_so : (t : TableState) (from to domain : List ℕ) (p : ParsedPacket Wire) → NamesDefined t.definitions t.domains → forward_of t from to domain p ≡ Err Inexpressible
    → (lacks : HasNoWayOn t from domain p) × (before_forwarding t from to lacks.incoming lacks.none.protocol p ≡ None)
unfolding forward_of
told_so t from to domain p defined e = by_labels t from to domain p defined (label_of t from p) refl e
