-- A packet written again, with its label option in the one written form of what it says (RFC 791, RFC 8200; FIPS 188,
-- RFC 5570).
use Rattle.std.specs.Prelude.{◌≡◌, ℕ, ◌^◌, ◌<◌, List, None, IfSome, Result, Ok, MatchResult, MatchBool}
use Rattle.std.specs.Option.{option_map}
use Rattle.mls_label.specs.Label.{IsLabel}
use Rattle.cipso_tags.specs.Text.{Fits}
use Rattle.cipso_option.specs.Text.{cipso_text}
use Rattle.calipso_option.specs.Text.{IsExpressible, calipso_text}
use Rattle.ip_headers.specs.declared.version.Version.{Version}
use Rattle.ip_headers.specs.declared.version.Version.TheVariants.{V4, V6}
use Rattle.ip_headers.specs.Packet.{ParsedPacket, Headers}
use Rattle.ip_headers.specs.Reading.{first_place}
use Rattle.ip_headers.specs.Written.{IsParsed, rewritten, settled, hides_payload, packet_octets}
use Rattle.packet_label.specs.declared.packet.Wire.{Wire}
use Rattle.packet_label.specs.declared.packet.Wire.TheVariants.{Cipso, Calipso}
use Rattle.packet_label.specs.declared.fault.CarryFault.{CarryFault}
use Rattle.packet_label.specs.Packet.{IsPacket, labelled}
use Rattle.packet_label.specs.Fault.{IsPacketFault}

-- the one written form of a label option
abbrev pub wire_text : Wire → List ℕ
wire_text (Cipso at doi tag label) = cipso_text doi tag label
wire_text (Calipso at doi label) = calipso_text doi label

-- the headers that a packet is written with: its label option in that form, in its first place
abbrev pub written : ParsedPacket Wire → Headers
written p = rewritten p (option_map wire_text p.label) p.hops

-- an option of this version can say it
abbrev pub CanSay : Version → Wire → Type 0
CanSay V4 (Cipso at doi tag label) = (0 < doi) × (doi < 2 ^ 32) × IsLabel label × Fits tag label
CanSay V6 (Calipso at doi label) = (0 < doi) × (doi < 2 ^ 32) × IsLabel label × IsExpressible label
CanSay version wire = ⊥

-- a packet whose values fit their fields, and whose label option can say what it says
pub record IsWritable (p : ParsedPacket Wire) : Type 0 where
  pub headers : IsParsed (rewritten p None p.hops)
  pub label : IfSome p.label (CanSay p.version)

-- what an option says, with this as the octet at which it stands
abbrev pub moved_to : ℕ → Wire → Wire
moved_to place (Cipso at doi tag label) = Cipso place doi tag label
moved_to place (Calipso at doi label) = Calipso place doi label

-- the packet with its options where they are written, the label option first
abbrev pub settled_packet : ParsedPacket Wire → ParsedPacket Wire
settled_packet p = labelled (settled (written p)) (option_map (moved_to (first_place p.version)) p.label)

-- what is read of octets: a packet, or their first fault
abbrev pub IsReadAs : List ℕ → Result (ParsedPacket Wire) CarryFault → Type 0
IsReadAs octets answer = MatchResult answer (IsPacket octets) (IsPacketFault octets)

-- What a packet is when it was written: a packet still, or what is read where its payload is hidden, as version 6 does with
-- protocol 0 and no option.
abbrev pub IsNext : ParsedPacket Wire → Result (ParsedPacket Wire) CarryFault → Type 0
IsNext p answer = MatchBool (hides_payload p.version (written p)) (IsReadAs (packet_octets (written p)) answer) (answer ≡ Ok (settled_packet p))
