-- The laws of src/laws.rt under their names, for the crates above.
use Rattle.std.proofs.Common.{◌≡◌, ◌⊎◌, ℕ, ◌+◌, List, None, Ok, Err}
use Rattle.std.specs.Prelude.{unwrap_or, Option}
use Rattle.mls_label.specs.octet_grammar.Octets.{IsOctets}
use Rattle.mls_label.specs.declared.label.Label.{Label}
use Rattle.mls_label.specs.Label.{IsLabel}
use Rattle.domain_map.specs.declared.protocol.Protocol.{Protocol}
use Rattle.ip_headers.specs.Packet.{ParsedPacket, relabelled}
use Rattle.packet_label.specs.declared.packet.Wire.{Wire}
use Rattle.packet_label.specs.declared.denial.Denial.TheVariants.{Inexpressible, WrongVersion}
use Rattle.packet_label.specs.Packet.{IsPacket}
use Rattle.version_cross.specs.Cause.{cross_cause}
use Rattle.version_cross.specs.Checksum.{checksum_sum}
use Rattle.version_cross.specs.Cross.{crossed}
use Rattle.version_cross.specs.Laws.{CanCross}
use Rattle.version_cross.proofs.Law.{crossing_keeps_the_sum}
use Rattle.node_tables.specs.Coherence.{NamesDefined}
use Rattle.node_tables.specs.Tables.{TableState}
use Rattle.label_send.specs.Outgoing.{outgoing}
use Rattle.label_send.specs.Laws.{AreDefinitions, IsInRoom}
use Rattle.label_gateway.specs.Forward.{Forwarded, forward_of, onward}
use Rattle.label_gateway.specs.Laws.{ArePairs, GoesOn}
use Rattle.label_gateway.specs.NoOption.{HasNoWayOn, before_forwarding}
use Rattle.label_gateway.proofs.NoOption.{not_forwarded}
use Rattle.label_gateway.proofs.Told.{told_so}
use Rattle.label_gateway.proofs.Going.{goes_on, gone_on, says_label, keeps_protocol, takes_a_hop}
use Rattle.label_gateway.proofs.Written.{can_go_on, in_room, forwarded_sum}
use Rattle.label_gateway.proofs.Versions.{never_wrong_version}

pub forwarded_packets_may_go_on : (t : TableState) (from to domain : List ℕ) (p : ParsedPacket Wire) (f : Forwarded) → forward_of t from to domain p ≡ Ok f → GoesOn t from to domain p f
forwarded_packets_may_go_on = goes_on

pub packets_that_may_go_on_are_forwarded : (t : TableState) (from to domain : List ℕ) (p : ParsedPacket Wire) (f : Forwarded) → GoesOn t from to domain p f → forward_of t from to domain p ≡ Ok f
packets_that_may_go_on_are_forwarded = gone_on

pub packets_that_go_on_say_the_label : (t : TableState) (protocol : Protocol) (label : Label) (p new : ParsedPacket Wire) → onward t protocol label p ≡ Ok new → outgoing t.definitions protocol label ≡ Ok new.label
packets_that_go_on_say_the_label = says_label

pub packets_that_go_on_keep_their_protocol : (t : TableState) (protocol : Protocol) (label : Label) (p new : ParsedPacket Wire) → onward t protocol label p ≡ Ok new
    → (new.protocol ≡ p.protocol) × ((new.version ≡ p.version) ⊎ (cross_cause p ≡ None))
packets_that_go_on_keep_their_protocol = keeps_protocol

pub packets_without_an_option_are_not_forwarded : (t : TableState) (from to domain : List ℕ) (p : ParsedPacket Wire) (lacks : HasNoWayOn t from domain p)
    → forward_of t from to domain p ≡ Err (unwrap_or (before_forwarding t from to lacks.incoming lacks.none.protocol p) Inexpressible)
packets_without_an_option_are_not_forwarded = not_forwarded

pub inexpressible_packets_have_no_way_on : (t : TableState) (from to domain : List ℕ) (p : ParsedPacket Wire) → NamesDefined t.definitions t.domains → forward_of t from to domain p ≡ Err Inexpressible
    → (lacks : HasNoWayOn t from domain p) × (before_forwarding t from to lacks.incoming lacks.none.protocol p ≡ None)
inexpressible_packets_have_no_way_on = told_so

pub forwarding_takes_a_hop : (t : TableState) (from to domain : List ℕ) (p : ParsedPacket Wire) (f : Forwarded) → forward_of t from to domain p ≡ Ok f → f.packet.hops + 1 ≡ p.hops
forwarding_takes_a_hop = takes_a_hop

pub forwarded_packets_may_be_written : (t : TableState) (from to domain octets : List ℕ) (p : ParsedPacket Wire) (f : Forwarded) → AreDefinitions t.definitions → ArePairs t.pairs → IsLabel f.label
    → IsOctets octets → IsPacket octets p → forward_of t from to domain p ≡ Ok f → IsInRoom f.packet
forwarded_packets_may_be_written t from to domain octets p f defined pairs l are is = in_room t octets p are is from to domain f (λ protocol found. can_go_on t protocol f.label p defined pairs l)

pub labelled_crossings_keep_the_sum : (p : ParsedPacket Wire) (source destination : List ℕ) (said : Option Wire) (hops : ℕ) → CanCross (relabelled p None p.hops) source destination
    → checksum_sum (crossed p source destination said hops) ≡ checksum_sum p
labelled_crossings_keep_the_sum p source destination said hops h = crossing_keeps_the_sum (relabelled p None p.hops) source destination None hops h

pub forwarded_packets_keep_the_sum : (t : TableState) (from to domain octets : List ℕ) (p : ParsedPacket Wire) (f : Forwarded) → ArePairs t.pairs → IsOctets octets → IsPacket octets p
    → forward_of t from to domain p ≡ Ok f → checksum_sum f.packet ≡ checksum_sum p
forwarded_packets_keep_the_sum t from to domain octets p f pairs are is = forwarded_sum t octets p are is from to domain f pairs

pub forwarding_denies_no_version : (t : TableState) (from to domain : List ℕ) (p : ParsedPacket Wire) → forward_of t from to domain p ≡ Err WrongVersion → ⊥
forwarding_denies_no_version = never_wrong_version
