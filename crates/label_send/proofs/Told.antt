-- What is denied as Inexpressible.
use Rattle.std.proofs.Common.{◌≡◌, ℕ, Bool, true, false, List, Option, Some, None, Result, Ok, Err, refl, ap}
use Rattle.std.specs.Prelude.{nat_lt, if◌then◌else◌}
use Rattle.mls_label.specs.declared.label.Label.{Label}
use Rattle.domain_map.specs.declared.protocol.Protocol.{Protocol}
use Rattle.domain_map.specs.Domains.{find_of}
use Rattle.ip_headers.specs.declared.fault.HeadFault.{HeadFault}
use Rattle.ip_headers.specs.Options.{Placed}
use Rattle.ip_headers.specs.Packet.{ParsedPacket, Headers, relabelled}
use Rattle.ip_headers.specs.Written.{rebuilt_room, rebuilt_length, room_limit}
use Rattle.packet_label.specs.declared.packet.Wire.{Wire}
use Rattle.packet_label.specs.declared.denial.Denial.{Denial}
use Rattle.packet_label.specs.declared.denial.Denial.TheVariants.{Inexpressible, OutsideRange, AlreadyLabelled, WrongVersion, NoRoom, TooLong}
use Rattle.packet_label.specs.Choice.{front_in}
use Rattle.packet_label.specs.Written.{written}
use Rattle.node_tables.specs.Coherence.{NamesDefined}
use Rattle.node_tables.specs.Tables.{TableState}
use Rattle.label_receive.specs.Steps.{◌>>=◌}
use Rattle.label_receive.specs.Incoming.{address_in}
use Rattle.label_receive.specs.Range.{is_outside}
use Rattle.label_send.specs.Outgoing.{suits, carrier_of, outgoing}
use Rattle.label_send.specs.Room.{within_room, sent_under}
use Rattle.label_send.specs.Send.{Sent, sent_by, suiting, free_protocol, send_read, send_octets}
use Rattle.label_send.specs.NoOption.{HasNoOption, before_sending}
use Rattle.label_send.specs.inside.Protocol.{sent_with}
use Rattle.label_send.proofs.Stays.{stays}

-- a step denies so, where what follows never does
step_told : {X Y : Type 0} (r : Result X Denial) (rest : X → Result Y Denial) → ((x : X) → rest x ≡ Err Inexpressible → ⊥) → (r >>= rest) ≡ Err Inexpressible → r ≡ Err Inexpressible
step_told (Err why) rest never h = let same : why ≡ Inexpressible = cc in ap Err same
step_told (Ok x) rest never h = absurd (never x h)

room_never : (p : ParsedPacket Wire) → within_room p ≡ Err Inexpressible → ⊥
room_never p e = by_tests (nat_lt (room_limit p.version) (rebuilt_room (written p))) (nat_lt 65535 (rebuilt_length (written p))) e where
  by_tests : (a b : Bool) → (if a then Err NoRoom else (if b then Err TooLong else Ok p)) ≡ Err Inexpressible → ⊥
  by_tests true b h = absurd (cc)
  by_tests false true h = absurd (cc)
  by_tests false false h = absurd (cc)

sent_never : (protocol : Protocol) (packet : ParsedPacket Wire) → ◌≡◌ {A = Result Sent Denial} (Ok (sent_by (carrier_of protocol) packet)) (Err Inexpressible) → ⊥
sent_never protocol packet h = absurd (cc)

module _ (t : TableState) (domain interface : List ℕ) (label : Label) (octets : List ℕ) (defined : NamesDefined t.definitions t.domains) where
  abbrev IsTold : Type 0
  IsTold = (h : Headers) × (front_in octets ≡ Ok h) × ((lacks : HasNoOption t domain label h) × (before_sending t interface lacks.protocol label h ≡ None))

  module _ (h : Headers) (reads : front_in octets ≡ Ok h) (free : h.label ≡ None) (released : is_outside t.ranges interface label label ≡ false) where
    by_suiting : (protocol : Protocol) → find_of t.domains domain (address_in h.version h.destination) ≡ Some protocol → (b : Bool) → suits h.version protocol ≡ b
        → ((if b then Ok protocol else Err WrongVersion) >>= sent_with t label h) ≡ Err Inexpressible → IsTold
    by_suiting protocol found false fits e = absurd (cc)
    by_suiting protocol found true fits e =
        let under : sent_under t.definitions protocol label h h.hops ≡ Err Inexpressible =
        step_told (sent_under t.definitions protocol label h h.hops) (λ packet. Ok (sent_by (carrier_of protocol) packet)) (sent_never protocol) e in
        let out = step_told (outgoing t.definitions protocol label) (λ said. within_room (relabelled h said h.hops)) (λ said. room_never (relabelled h said h.hops)) under in
        let lacks : HasNoOption t domain label h =
        record { protocol = protocol; found = found; none = (stays t.definitions t.domains domain (address_in h.version h.destination) protocol label Inexpressible defined found out).1 } in
        let before : before_sending t interface protocol label h ≡ None = rw (free, released, fits) refl in
        (h, reads, (lacks, before))

    by_found : (o : Option Protocol) → find_of t.domains domain (address_in h.version h.destination) ≡ o → (suiting h.version o >>= sent_with t label h) ≡ Err Inexpressible → IsTold
    by_found None found e = absurd (cc)
    by_found (Some protocol) found e = by_suiting protocol found (suits h.version protocol) refl e

  module _ (h : Headers) (reads : front_in octets ≡ Ok h) where
    by_range : h.label ≡ None → (b : Bool) → is_outside t.ranges interface label label ≡ b
        → ((if b then Err OutsideRange else suiting h.version (find_of t.domains domain (address_in h.version h.destination))) >>= sent_with t label h) ≡ Err Inexpressible → IsTold
    by_range free true released e = absurd (cc)
    by_range free false released e = by_found h reads free released (find_of t.domains domain (address_in h.version h.destination)) refl e

    by_option : (o : Option Placed) → h.label ≡ o
        → ((elim o as (λ _. Result Protocol Denial) [ Some option ↦ Err (AlreadyLabelled option.place) | None ↦ free_protocol t domain interface label h ]) >>= sent_with t label h) ≡ Err Inexpressible → IsTold
    by_option (Some option) free e = absurd (cc)
    by_option None free e = by_range free (is_outside t.ranges interface label label) refl e

  by_front : (r : Result Headers HeadFault) → front_in octets ≡ r → send_read t domain interface label r ≡ Err Inexpressible → IsTold
  by_front (Err fault) reads e = absurd (cc)
  by_front (Ok h) reads e = by_option h reads h.label refl e

pub told_so : (t : TableState) (domain interface : List ℕ) (label : Label) (octets : List ℕ) → NamesDefined t.definitions t.domains → send_octets t domain interface label octets ≡ Err Inexpressible
    → (h : Headers) × (front_in octets ≡ Ok h) × ((lacks : HasNoOption t domain label h) × (before_sending t interface lacks.protocol label h ≡ None))
told_so t domain interface label octets defined e = by_front t domain interface label octets defined (front_in octets) refl e
