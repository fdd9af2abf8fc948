-- The laws of src/laws.rt under their names, for the crates above.
use Rattle.std.proofs.Common.{◌≡◌, ℕ, ◌<◌, ◌≤◌, List, length, Option, None, Some, Ok}
use Rattle.std.specs.Prelude.{IfSome, IfErr}
use Rattle.mls_label.specs.octet_grammar.Octets.{IsOctets}
use Rattle.mls_label.specs.Label.{IsLabel}
use Rattle.ip_headers.specs.declared.version.Version.{Version}
use Rattle.ip_headers.specs.Packet.{ParsedPacket, Headers, relabelled}
use Rattle.ip_headers.specs.Written.{IsLabelOption}
use Rattle.packet_label.specs.declared.packet.Wire.{Wire}
use Rattle.packet_label.specs.declared.fault.CarryFault.{CarryFault}
use Rattle.packet_label.specs.Choice.{chosen, front_in}
use Rattle.packet_label.specs.Packet.{IsPacket, labelled}
use Rattle.packet_label.specs.Fault.{IsPacketFault}
use Rattle.packet_label.specs.Wire.{label_said}
use Rattle.packet_label.specs.Written.{CanSay, IsWritable, wire_text}
use Rattle.packet_label.specs.Laws.{HasOneAnswer, ReadsNext, StandsWithin}
use Rattle.packet_label.proofs.Once.{one_answer, fault_within, front_within, without_a_label}
use Rattle.packet_label.proofs.Total.{some_answer}
use Rattle.packet_label.proofs.Labels.{said_label}
use Rattle.packet_label.proofs.Writing.{text_suits, packets_may_be_written, fronts_may_be_written, reads_next}

pub octets_are_a_packet_or_have_one_fault : (octets : List ℕ) → HasOneAnswer octets
octets_are_a_packet_or_have_one_fault octets = record { some = some_answer octets; one = one_answer octets }

pub record FaultsStandWithin : Type 0 where
  pub packets : (octets : List ℕ) (fault : CarryFault) → IsPacketFault octets fault → StandsWithin (length octets) fault
  pub fronts : (octets : List ℕ) → IfErr (front_in octets) (λ f. f.octet ≤ length octets)

pub faults_stand_within : FaultsStandWithin
faults_stand_within = record { packets = fault_within; fronts = λ octets. front_within octets (chosen octets) }

pub fronts_without_a_label_are_packets : (octets : List ℕ) (headers : Headers) → front_in octets ≡ Ok headers → headers.label ≡ None → IsPacket octets (labelled headers None)
fronts_without_a_label_are_packets = without_a_label

pub labels_read_are_labels : (octets : List ℕ) (p : ParsedPacket Wire) (said : Wire) → IsPacket octets p → p.label ≡ Some said → IsLabel (label_said said)
labels_read_are_labels = said_label

pub written_options_suit_their_version : (version : Version) (wire : Wire) → CanSay version wire → IsLabelOption version (wire_text wire) × IsOctets (wire_text wire)
written_options_suit_their_version = text_suits

pub record ReadPacketsMayBeWritten : Type 0 where
  pub packets : (octets : List ℕ) (p : ParsedPacket Wire) (wire : Option Wire) (hops : ℕ) → IsOctets octets → IsPacket octets p → hops < 256 → IfSome wire (CanSay p.version) → IsWritable (relabelled p wire hops)
  pub fronts : (octets : List ℕ) (headers : Headers) (wire : Option Wire) (hops : ℕ) → IsOctets octets → front_in octets ≡ Ok headers → hops < 256 → IfSome wire (CanSay headers.version)
      → IsWritable (relabelled headers wire hops)

pub read_packets_may_be_written : ReadPacketsMayBeWritten
read_packets_may_be_written = record { packets = packets_may_be_written; fronts = fronts_may_be_written }

pub written_packet_reads_back : (p : ParsedPacket Wire) → ReadsNext p
written_packet_reads_back = reads_next
