-- Why a packet goes on, and what goes on.
use Rattle.std.proofs.Common.{◌≡◌, ◌⊎◌, inl, inr, ℕ, ◌+◌, ◌-◌, ◌<◌, ◌≤◌, Bool, true, false, List, Option, Some, None, Result, Ok, Err, refl, sym, ap, ◌∙◌, arith}
use Rattle.std.specs.Prelude.{nat_le, nat_lt, ok_or, if◌then◌else◌}
use Rattle.std.proofs.lemmas.Bool.{ltb-false, leb-false, lt-leb}
use Rattle.mls_label.specs.declared.label.Label.{Label}
use Rattle.domain_map.specs.declared.protocol.Protocol.{Protocol}
use Rattle.domain_map.specs.Domains.{find_of}
use Rattle.ip_headers.specs.declared.cause.Cause.{Cause}
use Rattle.ip_headers.specs.Packet.{ParsedPacket, relabelled}
use Rattle.ip_headers.specs.Written.{rebuilt_length, rebuilt_room, room_limit}
use Rattle.packet_label.specs.declared.packet.Wire.{Wire}
use Rattle.packet_label.specs.declared.denial.Denial.{Denial}
use Rattle.packet_label.specs.declared.denial.Denial.TheVariants.{OutsideRange, Expired, NoMap, NoRoom, TooLong}
use Rattle.packet_label.specs.Written.{written}
use Rattle.version_cross.specs.Cause.{cross_cause}
use Rattle.version_cross.specs.Cross.{crossed}
use Rattle.node_tables.specs.Tables.{TableState}
use Rattle.label_receive.specs.Steps.{◌>>=◌}
use Rattle.label_receive.specs.Incoming.{Incoming, address_in, label_of}
use Rattle.label_receive.specs.Range.{is_outside}
use Rattle.label_send.specs.Outgoing.{suits, carrier_of, outgoing}
use Rattle.label_send.specs.Room.{within_length, within_room, sent_under}
use Rattle.label_gateway.specs.Crossing.{partner_of, unless_caused, crossed_between, crossed_under}
use Rattle.label_gateway.specs.Forward.{Forwarded, onward, forward_protocol, forward_of}
use Rattle.label_gateway.specs.Laws.{GoesOn}
use Rattle.label_gateway.specs.inside.Protocol.{forwarded_with}

-- ---- the tests of forwarding

-- two tests that deny alike, and one between them
abbrev tested : Bool → Bool → Bool → Result Protocol Denial → Result Protocol Denial
tested a b c r = if a then Err OutsideRange else (if b then Err Expired else (if c then Err OutsideRange else r))

record Passes (a b c : Bool) (o : Option Protocol) (protocol : Protocol) : Type 0 where
  first : a ≡ false
  second : b ≡ false
  third : c ≡ false
  found : o ≡ Some protocol

passes : (a b c : Bool) (o : Option Protocol) (protocol : Protocol) → tested a b c (ok_or o NoMap) ≡ Ok protocol → Passes a b c o protocol
passes true b c o protocol e = absurd (cc)
passes false true c o protocol e = absurd (cc)
passes false false true o protocol e = absurd (cc)
passes false false false None protocol e = absurd (cc)
passes false false false (Some given) protocol e = let same : given ≡ protocol = cc in record { first = refl; second = refl; third = refl; found = ap Some same }

-- what is made of a packet that goes on
abbrev made_of : Label → Protocol → ParsedPacket Wire → Forwarded
made_of label protocol packet = record { carrier = carrier_of protocol; label = label; packet = packet }

module _ (t : TableState) (from to domain : List ℕ) (p : ParsedPacket Wire) (f : Forwarded) where
  by_packet : (incoming : Incoming) → label_of t from p ≡ Ok incoming → is_outside t.ranges from incoming.low incoming.high ≡ false → nat_le p.hops 1 ≡ false → is_outside t.ranges to incoming.low incoming.high ≡ false
      → (protocol : Protocol) → find_of t.domains domain (address_in p.version p.destination) ≡ Some protocol
      → (r : Result (ParsedPacket Wire) Denial) → onward t protocol incoming.high p ≡ r → (r >>= (λ packet. Ok (made_of incoming.high protocol packet))) ≡ Ok f → GoesOn t from to domain p f
  by_packet incoming l a b c protocol o (Err why) g e = absurd (cc)
  by_packet incoming l a b c protocol o (Ok packet) g e =
      let is : f ≡ record { carrier = carrier_of protocol; label = incoming.high; packet = packet } = cc in
      record {
        incoming = incoming;
        protocol = protocol;
        labels = l;
        taken = a;
        hops = leb-false p.hops 1 b;
        released = c;
        found = o;
        goes = g ∙ ap (λ (x : Forwarded). Ok x.packet) (sym is);
        is = is ∙ ap (λ (x : Forwarded). let y : Forwarded = record { carrier = carrier_of protocol; label = incoming.high; packet = x.packet } in y) (sym is);
      }

  by_protocol : (incoming : Incoming) → label_of t from p ≡ Ok incoming → (r : Result Protocol Denial) → forward_protocol t from to domain p incoming ≡ r → forwarded_with t incoming.high p r ≡ Ok f → GoesOn t from to domain p f
  by_protocol incoming l (Err why) g e = absurd (cc)
  by_protocol incoming l (Ok protocol) g e =
      let s = passes (is_outside t.ranges from incoming.low incoming.high) (nat_le p.hops 1) (is_outside t.ranges to incoming.low incoming.high) (find_of t.domains domain (address_in p.version p.destination)) protocol g in
      by_packet incoming l s.first s.second s.third protocol s.found (onward t protocol incoming.high p) refl e

  -- the rule from the labels on
  abbrev from_labels : Incoming → Result Forwarded Denial
  from_labels incoming = forwarded_with t incoming.high p (forward_protocol t from to domain p incoming)

  by_labels : (r : Result Incoming Denial) → label_of t from p ≡ r → (r >>= from_labels) ≡ Ok f → GoesOn t from to domain p f
  by_labels (Err why) l e = absurd (cc)
  by_labels (Ok incoming) l e = by_protocol incoming l (forward_protocol t from to domain p incoming) refl e

  pub goes_on : forward_of t from to domain p ≡ Ok f → GoesOn t from to domain p f
  unfolding forward_of
  goes_on e = by_labels (label_of t from p) refl e

  pub gone_on : GoesOn t from to domain p f → forward_of t from to domain p ≡ Ok f
  unfolding forward_of
  gone_on g =
      let i = g.incoming in
      let late : nat_le p.hops 1 ≡ false = lt-leb p.hops 1 g.hops in
      let found = ok_or (find_of t.domains domain (address_in p.version p.destination)) NoMap in
      let goes : Result Protocol Denial → Result Forwarded Denial = λ r. forwarded_with t i.high p r in
      ap (λ (r : Result Incoming Denial). r >>= from_labels) g.labels
      ∙ ap (λ a. goes (tested a (nat_le p.hops 1) (is_outside t.ranges to i.low i.high) found)) g.taken
      ∙ ap (λ b. goes (tested false b (is_outside t.ranges to i.low i.high) found)) late
      ∙ ap (λ c. goes (tested false false c found)) g.released
      ∙ ap (λ (o : Option Protocol). goes (ok_or o NoMap)) g.found
      ∙ ap (λ (r : Result (ParsedPacket Wire) Denial). r >>= (λ packet. Ok (made_of i.high g.protocol packet))) g.goes
      ∙ ap Ok (sym g.is)

-- ---- what goes on

-- a packet that is within its length, or its room
record Kept (p new : ParsedPacket Wire) : Type 0 where
  is : p ≡ new
  long : rebuilt_length (written p) ≤ 65535

kept_length : (p new : ParsedPacket Wire) → within_length p ≡ Ok new → Kept p new
kept_length p new e = by_test (nat_lt 65535 (rebuilt_length (written p))) refl e where
  by_test : (b : Bool) → nat_lt 65535 (rebuilt_length (written p)) ≡ b → (if b then Err TooLong else Ok p) ≡ Ok new → Kept p new
  by_test true l e = absurd (cc)
  by_test false l e = record { is = cc; long = ltb-false 65535 (rebuilt_length (written p)) l }

kept_room : (p new : ParsedPacket Wire) → within_room p ≡ Ok new → Kept p new
kept_room p new e = by_test (nat_lt (room_limit p.version) (rebuilt_room (written p))) e where
  by_test : (b : Bool) → (if b then Err NoRoom else within_length p) ≡ Ok new → Kept p new
  by_test true e = absurd (cc)
  by_test false e = kept_length p new e

-- a packet that stays in its version
pub record StaysSo (t : TableState) (protocol : Protocol) (label : Label) (p new : ParsedPacket Wire) : Type 0 where
  pub said : Option Wire
  pub out : outgoing t.definitions protocol label ≡ Ok said
  pub is : relabelled p said (p.hops - 1) ≡ new

-- a packet that crosses
pub record CrossesSo (t : TableState) (protocol : Protocol) (label : Label) (p new : ParsedPacket Wire) : Type 0 where
  pub source : List ℕ
  pub destination : List ℕ
  pub said : Option Wire
  pub from : partner_of t.pairs p.version p.source ≡ Some source
  pub to : partner_of t.pairs p.version p.destination ≡ Some destination
  pub can : cross_cause p ≡ None
  pub out : outgoing t.definitions protocol label ≡ Ok said
  pub is : crossed p source destination said (p.hops - 1) ≡ new
  pub long : rebuilt_length (written (crossed p source destination said (p.hops - 1))) ≤ 65535

module _ (t : TableState) (protocol : Protocol) (label : Label) (p new : ParsedPacket Wire) where
  pub stays_so : sent_under t.definitions protocol label p (p.hops - 1) ≡ Ok new → StaysSo t protocol label p new
  stays_so e = by_said (outgoing t.definitions protocol label) refl e where
    by_said : (r : Result (Option Wire) Denial) → outgoing t.definitions protocol label ≡ r → (r >>= (λ said. within_room (relabelled p said (p.hops - 1)))) ≡ Ok new → StaysSo t protocol label p new
    by_said (Err why) o e = absurd (cc)
    by_said (Ok said) o e = let k = kept_room (relabelled p said (p.hops - 1)) new e in record { said = said; out = o; is = k.is }

  module _ (source destination : List ℕ) (from : partner_of t.pairs p.version p.source ≡ Some source) (to : partner_of t.pairs p.version p.destination ≡ Some destination) where
    abbrev with_said : Option Wire → Result (ParsedPacket Wire) Denial
    with_said said = within_length (crossed p source destination said (p.hops - 1))

    by_said : (r : Result (Option Wire) Denial) → outgoing t.definitions protocol label ≡ r → cross_cause p ≡ None → (r >>= with_said) ≡ Ok new → CrossesSo t protocol label p new
    by_said (Err why) o can e = absurd (cc)
    by_said (Ok said) o can e =
        let k = kept_length (crossed p source destination said (p.hops - 1)) new e in
        record { source = source; destination = destination; said = said; from = from; to = to; can = can; out = o; is = k.is; long = k.long }

    by_cause : (c : Option Cause) → cross_cause p ≡ c → unless_caused c (outgoing t.definitions protocol label >>= with_said) ≡ Ok new → CrossesSo t protocol label p new
    by_cause (Some cause) n e = absurd (cc)
    by_cause None n e = by_said (outgoing t.definitions protocol label) refl n e

  by_partners : (a b : Option (List ℕ)) → partner_of t.pairs p.version p.source ≡ a → partner_of t.pairs p.version p.destination ≡ b → crossed_between t.definitions protocol label p (p.hops - 1) a b ≡ Ok new → CrossesSo t protocol label p new
  by_partners None b f g e = absurd (cc)
  by_partners (Some source) None f g e = absurd (cc)
  by_partners (Some source) (Some destination) f g e = by_cause source destination f g (cross_cause p) refl e

  pub crosses_so : crossed_under t protocol label p (p.hops - 1) ≡ Ok new → CrossesSo t protocol label p new
  crosses_so e = by_partners (partner_of t.pairs p.version p.source) (partner_of t.pairs p.version p.destination) refl refl e

  -- one of both
  pub each_way : {P : Type 0} → onward t protocol label p ≡ Ok new → (suits p.version protocol ≡ true → sent_under t.definitions protocol label p (p.hops - 1) ≡ Ok new → P)
      → (suits p.version protocol ≡ false → CrossesSo t protocol label p new → P) → P
  each_way {P} e stays crosses = by_test (suits p.version protocol) refl e where
    by_test : (b : Bool) → suits p.version protocol ≡ b → (if b then sent_under t.definitions protocol label p (p.hops - 1) else crossed_under t protocol label p (p.hops - 1)) ≡ Ok new → P
    by_test true s e = stays s e
    by_test false s e = crosses s (crosses_so e)

  pub says_label : onward t protocol label p ≡ Ok new → outgoing t.definitions protocol label ≡ Ok new.label
  says_label e = each_way e (λ s x. let k = stays_so x in k.out ∙ ap (λ (q : ParsedPacket Wire). Ok q.label) k.is) (λ s k. k.out ∙ ap (λ (q : ParsedPacket Wire). Ok q.label) k.is)

  pub keeps_protocol : onward t protocol label p ≡ Ok new → (new.protocol ≡ p.protocol) × ((new.version ≡ p.version) ⊎ (cross_cause p ≡ None))
  keeps_protocol e =
      each_way e
      (λ s x. let is = sym (stays_so x).is in (ap (λ (q : ParsedPacket Wire). q.protocol) is, inl (ap (λ (q : ParsedPacket Wire). q.version) is)))
      (λ s k. (ap (λ (q : ParsedPacket Wire). q.protocol) (sym k.is), inr k.can))

  pub one_hop : onward t protocol label p ≡ Ok new → p.hops - 1 ≡ new.hops
  one_hop e = each_way e (λ s x. ap (λ (q : ParsedPacket Wire). q.hops) (stays_so x).is) (λ s k. ap (λ (q : ParsedPacket Wire). q.hops) k.is)

-- a packet that goes on has one hop less
pub takes_a_hop : (t : TableState) (from to domain : List ℕ) (p : ParsedPacket Wire) (f : Forwarded) → forward_of t from to domain p ≡ Ok f → f.packet.hops + 1 ≡ p.hops
takes_a_hop t from to domain p f e =
    let g = goes_on t from to domain p f e in
    let one : p.hops - 1 ≡ f.packet.hops = one_hop t g.protocol g.incoming.high p f.packet g.goes in
    let hops : 1 < p.hops = g.hops in
    omega arith
