-- What a label option says: a CIPSO option in version 4 (FIPS 188; CIPSO draft 2.2), a CALIPSO option in version 6
-- (RFC 5570).
use Rattle.std.specs.Prelude.{◌≡◌, ℕ, ◌+◌, ◌≤◌, ◌⊎◌, List, length, Option, Some, None, IfSome}
use Rattle.mls_label.specs.declared.octet_grammar.fault.WireKind.{WireKind}
use Rattle.mls_label.specs.octet_grammar.Fault.{FailsFront}
use Rattle.mls_label.specs.declared.label.Label.{Label}
use Rattle.cipso_option.specs.Cipso.{IsCipso}
use Rattle.calipso_option.specs.Calipso.{IsCalipso, IsCalipsoShape}
use Rattle.calipso_option.specs.Fault.{HasBadChecksum}
use Rattle.ip_headers.specs.declared.version.Version.{Version}
use Rattle.ip_headers.specs.declared.version.Version.TheVariants.{V4, V6}
use Rattle.ip_headers.specs.Options.{Placed}
use Rattle.packet_label.specs.declared.packet.Mark.{Mark}
use Rattle.packet_label.specs.declared.packet.Mark.TheVariants as mark
use Rattle.packet_label.specs.declared.packet.Wire.{Wire}
use Rattle.packet_label.specs.declared.packet.Wire.TheVariants.{Cipso, Calipso}

-- the octet of the option's type in the packet
abbrev pub wire_place : Wire → ℕ
wire_place (Cipso at doi tag label) = at
wire_place (Calipso at doi label) = at

-- the domain of interpretation
abbrev pub wire_doi : Wire → ℕ
wire_doi (Cipso at doi tag label) = doi
wire_doi (Calipso at doi label) = doi

-- the label, in the numbers of the domain of interpretation
abbrev pub label_said : Wire → Label
label_said (Cipso at doi tag label) = label
label_said (Calipso at doi label) = label

-- what an option says, with its label
abbrev pub marked_wire : Mark → Label → Wire
marked_wire (mark.Cipso at doi tag) label = Cipso at doi tag label
marked_wire (mark.Calipso at doi) label = Calipso at doi label

-- the same where an option is there
abbrev pub wire_with : Option Mark → Label → Option Wire
wire_with None label = None
wire_with (Some m) label = Some (marked_wire m label)

-- all the octets of an option are one of its version's kind, with this content
abbrev pub IsWire : Version → Placed → Wire → Type 0
IsWire V4 option (Cipso at doi tag label) = (at ≡ option.place) × IsCipso option.octets (record { doi = doi; tag = tag; label = label })
IsWire V6 option (Calipso at doi label) = (at ≡ option.place) × IsCalipso option.octets (record { doi = doi; label = label })
IsWire version option wire = ⊥

-- a label option and what it says, or neither
abbrev pub OptionSays : Version → Option Placed → Option Wire → Type 0
OptionSays version None None = Unit {0}
OptionSays version (Some option) (Some wire) = IsWire version option wire
OptionSays version option wire = ⊥

-- no option of this grammar stands at the front, and its first octet that is wrong is this one
abbrev pub FailsAt : {V : Type 0} → (List ℕ → V → Type 0) → List ℕ → ℕ → Type 0
FailsAt G octets octet = (kind : WireKind) × FailsFront G octets (record { octet = octet; kind = kind })

-- all of an option fits but the checksum, which is tested last; it stands at octet 8 (RFC 5570, section 5.1)
abbrev pub FailsChecksum : List ℕ → ℕ → Type 0
FailsChecksum octets octet = (octet ≡ 8) × ((stored : ℕ) × (computed : ℕ) × HasBadChecksum octets stored computed)

-- the octet of a label option's first fault, counted from its type
abbrev pub IsWireFault : Version → List ℕ → ℕ → Type 0
IsWireFault V4 octets octet = FailsAt IsCipso octets octet
IsWireFault V6 octets octet = FailsAt IsCalipsoShape octets octet ⊎ FailsChecksum octets octet

-- a label option stands in these octets, with at least the ten octets that each has
abbrev pub HasTenOctets : List ℕ → Option Wire → Type 0
HasTenOctets octets wire = IfSome wire (λ w. wire_place w + 10 ≤ length octets)
