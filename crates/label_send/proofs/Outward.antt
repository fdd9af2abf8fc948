-- Why a packet is sent.
use Rattle.std.proofs.Common.{◌≡◌, ℕ, Bool, true, false, List, Option, Some, None, Result, Ok, Err, refl, sym, ap, ◌∙◌}
use Rattle.std.specs.Prelude.{nat_lt, if◌then◌else◌}
use Rattle.mls_label.specs.declared.label.Label.{Label}
use Rattle.domain_map.specs.declared.protocol.Protocol.{Protocol}
use Rattle.domain_map.specs.Domains.{find_of}
use Rattle.ip_headers.specs.declared.fault.HeadFault.{HeadFault}
use Rattle.ip_headers.specs.Options.{Placed}
use Rattle.ip_headers.specs.Packet.{ParsedPacket, Headers, relabelled}
use Rattle.ip_headers.specs.Written.{rebuilt_room, rebuilt_length, room_limit}
use Rattle.packet_label.specs.declared.packet.Wire.{Wire}
use Rattle.packet_label.specs.declared.denial.Denial.{Denial}
use Rattle.packet_label.specs.declared.denial.Denial.TheVariants.{OutsideRange, AlreadyLabelled, WrongVersion, NoRoom, TooLong}
use Rattle.packet_label.specs.Choice.{front_in}
use Rattle.packet_label.specs.Written.{written}
use Rattle.node_tables.specs.Tables.{TableState}
use Rattle.label_receive.specs.Steps.{◌>>=◌}
use Rattle.label_receive.specs.Incoming.{address_in}
use Rattle.label_receive.specs.Range.{is_outside}
use Rattle.label_send.specs.Outgoing.{suits, carrier_of, outgoing}
use Rattle.label_send.specs.Room.{within_room}
use Rattle.label_send.specs.Send.{Sent, sent_by, suiting, free_protocol, send_read, send_octets}
use Rattle.label_send.specs.Laws.{IsSent}
use Rattle.label_send.specs.inside.Protocol.{sent_with}

-- what has room is the packet that it was
room_keeps : (p new : ParsedPacket Wire) → within_room p ≡ Ok new → p ≡ new
room_keeps p new e = by_tests (nat_lt (room_limit p.version) (rebuilt_room (written p))) (nat_lt 65535 (rebuilt_length (written p))) e
  where
    by_tests : (a b : Bool) → (if a then Err NoRoom else (if b then Err TooLong else Ok p)) ≡ Ok new → p ≡ new
    by_tests true b h = absurd (cc)
    by_tests false true h = absurd (cc)
    by_tests false false h = cc

-- the packet that is sent, and what carries its label
abbrev sent_packet : Protocol → Result (ParsedPacket Wire) Denial → Result Sent Denial
sent_packet protocol r = r >>= (λ packet. Ok (sent_by (carrier_of protocol) packet))

module _ (t : TableState) (domain interface : List ℕ) (label : Label) (octets : List ℕ) (sent : Sent) where
  module _ (h : Headers) (reads : front_in octets ≡ Ok h) (free : h.label ≡ None) (released : is_outside t.ranges interface label label ≡ false)
      (protocol : Protocol) (found : find_of t.domains domain (address_in h.version h.destination) ≡ Some protocol) (fits : suits h.version protocol ≡ true) where
    by_room : (said : Option Wire) → outgoing t.definitions protocol label ≡ Ok said → (r : Result (ParsedPacket Wire) Denial) → within_room (relabelled h said h.hops) ≡ r → sent_packet protocol r ≡ Ok sent
        → IsSent t domain interface label octets sent
    by_room said o (Err why) w e = absurd (cc)
    by_room said o (Ok packet) w e =
        let sent_is : sent ≡ sent_by (carrier_of protocol) packet = cc in record {
          headers = h;
          protocol = protocol;
          said = said;
          reads = reads;
          free = free;
          released = released;
          found = found;
          fits = fits;
          goes = o;
          is = sent_is ∙ ap (sent_by (carrier_of protocol)) (sym (room_keeps (relabelled h said h.hops) packet w));
        }

    by_said : (r : Result (Option Wire) Denial) → outgoing t.definitions protocol label ≡ r → sent_packet protocol (r >>= (λ said. within_room (relabelled h said h.hops))) ≡ Ok sent → IsSent t domain interface label octets sent
    by_said (Err why) o e = absurd (cc)
    by_said (Ok said) o e = by_room said o (within_room (relabelled h said h.hops)) refl e

  module _ (h : Headers) (reads : front_in octets ≡ Ok h) where
    by_suiting : h.label ≡ None → is_outside t.ranges interface label label ≡ false → (protocol : Protocol) → find_of t.domains domain (address_in h.version h.destination) ≡ Some protocol
        → (b : Bool) → suits h.version protocol ≡ b → ((if b then Ok protocol else Err WrongVersion) >>= sent_with t label h) ≡ Ok sent → IsSent t domain interface label octets sent
    by_suiting free released protocol found false fits e = absurd (cc)
    by_suiting free released protocol found true fits e = by_said h reads free released protocol found fits (outgoing t.definitions protocol label) refl e

    by_found : h.label ≡ None → is_outside t.ranges interface label label ≡ false → (o : Option Protocol) → find_of t.domains domain (address_in h.version h.destination) ≡ o
        → (suiting h.version o >>= sent_with t label h) ≡ Ok sent → IsSent t domain interface label octets sent
    by_found free released None found e = absurd (cc)
    by_found free released (Some protocol) found e = by_suiting free released protocol found (suits h.version protocol) refl e

    by_range : h.label ≡ None → (b : Bool) → is_outside t.ranges interface label label ≡ b
        → ((if b then Err OutsideRange else suiting h.version (find_of t.domains domain (address_in h.version h.destination))) >>= sent_with t label h) ≡ Ok sent → IsSent t domain interface label octets sent
    by_range free true released e = absurd (cc)
    by_range free false released e = by_found free released (find_of t.domains domain (address_in h.version h.destination)) refl e

    by_option : (o : Option Placed) → h.label ≡ o
        → ((elim o as (λ _. Result Protocol Denial) [ Some option ↦ Err (AlreadyLabelled option.place) | None ↦ free_protocol t domain interface label h ]) >>= sent_with t label h) ≡ Ok sent
        → IsSent t domain interface label octets sent
    by_option (Some option) free e = absurd (cc)
    by_option None free e = by_range free (is_outside t.ranges interface label label) refl e

  by_front : (r : Result Headers HeadFault) → front_in octets ≡ r → send_read t domain interface label r ≡ Ok sent → IsSent t domain interface label octets sent
  by_front (Err fault) reads e = absurd (cc)
  by_front (Ok h) reads e = by_option h reads h.label refl e

  pub is_sent : send_octets t domain interface label octets ≡ Ok sent → IsSent t domain interface label octets sent
  is_sent e = by_front (front_in octets) refl e
