-- Packets that don't go on for want of an option.
use Rattle.std.proofs.Common.{◌≡◌, ℕ, ◌-◌, Bool, true, false, List, Option, Some, None, Result, Ok, Err, refl, ap, ◌∙◌}
use Rattle.std.specs.Prelude.{nat_le, unwrap_or, ok_or, if◌then◌else◌}
use Rattle.domain_map.specs.declared.protocol.Protocol.{Protocol}
use Rattle.domain_map.specs.Domains.{find_of}
use Rattle.ip_headers.specs.declared.cause.Cause.{Cause}
use Rattle.ip_headers.specs.Packet.{ParsedPacket, relabelled}
use Rattle.packet_label.specs.declared.packet.Wire.{Wire}
use Rattle.packet_label.specs.declared.denial.Denial.{Denial}
use Rattle.packet_label.specs.declared.denial.Denial.TheVariants.{Inexpressible, OutsideRange, Expired, NoMap}
use Rattle.version_cross.specs.Cause.{cross_cause}
use Rattle.version_cross.specs.Cross.{crossed}
use Rattle.node_tables.specs.Tables.{TableState}
use Rattle.label_receive.specs.Steps.{◌>>=◌}
use Rattle.label_receive.specs.Incoming.{Incoming, address_in}
use Rattle.label_receive.specs.Range.{is_outside}
use Rattle.label_send.specs.Outgoing.{suits, carrier_of, outgoing}
use Rattle.label_send.specs.Room.{within_length, within_room, sent_under}
use Rattle.label_send.proofs.Law.{inexpressible_labels_stay}
use Rattle.label_gateway.specs.Crossing.{partner_of, unless_caused, crossed_between, crossed_under}
use Rattle.label_gateway.specs.Forward.{Forwarded, forward_protocol, forward_of}
use Rattle.label_gateway.specs.NoOption.{HasNoWayOn, before_crossing, before_forwarding}
use Rattle.label_gateway.specs.inside.Protocol.{forwarded_with}

module _ (t : TableState) (from to domain : List ℕ) (p : ParsedPacket Wire) (incoming : Incoming) (protocol : Protocol) (found : find_of t.domains domain (address_in p.version p.destination) ≡ Some protocol) (out : outgoing t.definitions protocol incoming.high ≡ Err Inexpressible) where
  by_cause : (source destination : List ℕ) (cause : Option Cause)
      → unless_caused cause (outgoing t.definitions protocol incoming.high >>= (λ said. within_length (crossed p source destination said (p.hops - 1))))
      ≡ Err (unwrap_or (before_crossing (Some source) (Some destination) cause) Inexpressible)
  by_cause source destination (Some cause) = refl
  by_cause source destination None = ap (λ (r : Result (Option Wire) Denial). r >>= (λ said. within_length (crossed p source destination said (p.hops - 1)))) out

  by_partners : (source destination : Option (List ℕ)) → crossed_between t.definitions protocol incoming.high p (p.hops - 1) source destination ≡ Err (unwrap_or (before_crossing source destination (cross_cause p)) Inexpressible)
  by_partners (Some source) (Some destination) = by_cause source destination (cross_cause p)
  by_partners (Some source) None = refl
  by_partners None destination = refl

  abbrev crossing : Option Denial
  crossing = before_crossing (partner_of t.pairs p.version p.source) (partner_of t.pairs p.version p.destination) (cross_cause p)

  by_version : (b : Bool) → (if b then sent_under t.definitions protocol incoming.high p (p.hops - 1) else crossed_under t protocol incoming.high p (p.hops - 1))
      ≡ Err (unwrap_or (if b then None else crossing) Inexpressible)
  by_version true = ap (λ (r : Result (Option Wire) Denial). r >>= (λ said. within_room (relabelled p said (p.hops - 1)))) out
  by_version false = by_partners (partner_of t.pairs p.version p.source) (partner_of t.pairs p.version p.destination)

  abbrev going : ParsedPacket Wire → Forwarded
  going packet = record { carrier = carrier_of protocol; label = incoming.high; packet = packet }

  abbrev goes : Result Protocol Denial → Result Forwarded Denial
  goes r = forwarded_with t incoming.high p r

  by_map : goes (ok_or (find_of t.domains domain (address_in p.version p.destination)) NoMap) ≡ Err (unwrap_or (if suits p.version protocol then None else crossing) Inexpressible)
  by_map =
      ap (λ (o : Option Protocol). goes (ok_or o NoMap)) found
      ∙ ap (λ (r : Result (ParsedPacket Wire) Denial). r >>= (λ packet. Ok (going packet))) (by_version (suits p.version protocol))

  by_tests : (a b c : Bool) (r : Result Protocol Denial) (before : Option Denial) → goes r ≡ Err (unwrap_or before Inexpressible)
      → goes (if a then Err OutsideRange else (if b then Err Expired else (if c then Err OutsideRange else r)))
      ≡ Err (unwrap_or (if a then Some OutsideRange else (if b then Some Expired else (if c then Some OutsideRange else before))) Inexpressible)
  by_tests true b c r before e = refl
  by_tests false true c r before e = refl
  by_tests false false true r before e = refl
  by_tests false false false r before e = e

  by_labels : goes (forward_protocol t from to domain p incoming) ≡ Err (unwrap_or (before_forwarding t from to incoming protocol p) Inexpressible)
  by_labels =
      by_tests (is_outside t.ranges from incoming.low incoming.high) (nat_le p.hops 1) (is_outside t.ranges to incoming.low incoming.high)
      (ok_or (find_of t.domains domain (address_in p.version p.destination)) NoMap) (if suits p.version protocol then None else crossing) by_map

pub not_forwarded : (t : TableState) (from to domain : List ℕ) (p : ParsedPacket Wire) (lacks : HasNoWayOn t from domain p)
    → forward_of t from to domain p ≡ Err (unwrap_or (before_forwarding t from to lacks.incoming lacks.none.protocol p) Inexpressible)
unfolding forward_of
not_forwarded t from to domain p lacks =
    let none = lacks.none in
    ap (λ (r : Result Incoming Denial). r >>= (λ incoming. forwarded_with t incoming.high p (forward_protocol t from to domain p incoming))) lacks.labels
    ∙ by_labels t from to domain p lacks.incoming none.protocol none.found (inexpressible_labels_stay t.definitions none.protocol lacks.incoming.high none.none)
