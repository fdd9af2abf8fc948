-- In: a packet with option 130 becomes a packet with a CIPSO option of one DOI, by the first case that holds.
use Rattle.std.specs.Prelude.{◌≡◌, ℕ, ◌+◌, List, [], ◌∷◌, Option, Some, None, Result, Ok, Err}
use Rattle.mls_label.specs.declared.octet_grammar.fault.WireFault.{WireFault}
use Rattle.mls_label.specs.declared.label.Label.{Label}
use Rattle.mls_label.specs.declared.label.Tag.{Tag}
use Rattle.cipso_tags.specs.Text.{first_tag_of}
use Rattle.ripso_option.specs.Reading.{ripso_of}
use Rattle.ip_headers.specs.declared.version.Version.{Version}
use Rattle.ip_headers.specs.declared.version.Version.TheVariants.{V4, V6}
use Rattle.ip_headers.specs.declared.fault.HeadFault.{HeadFault}
use Rattle.ip_headers.specs.Options.{Placed}
use Rattle.ip_headers.specs.Packet.{Headers, ParsedPacket, relabelled}
use Rattle.ip_headers.specs.Reading.{first_place}
use Rattle.packet_label.specs.declared.packet.Wire.{Wire}
use Rattle.packet_label.specs.declared.packet.Wire.TheVariants.{Cipso}
use Rattle.packet_label.specs.declared.denial.Denial.{Denial}
use Rattle.packet_label.specs.declared.denial.Denial.TheVariants.{BadHeader, BadOption, Unlabelled, LevelUnmapped, CategoryUnmapped, AlreadyLabelled, Inexpressible, WrongVersion, NotIp}
use Rattle.packet_label.specs.Choice.{front_in}
use Rattle.doi_table.specs.declared.plan.DoiPlan.{DoiPlan}
use Rattle.doi_table.specs.declared.unmapped.Unmapped.{Unmapped}
use Rattle.doi_table.specs.declared.unmapped.Unmapped.TheVariants.{Level, Category}
use Rattle.doi_table.specs.Translation.{local_label}
use Rattle.label_send.specs.Room.{within_room}
use Rattle.ripso_border.specs.Options.{ripso_options, without_ripso}

-- the packet with this label under this DOI and tag, without option 130
abbrev pub in_packet : ℕ → Tag → Label → Headers → ParsedPacket Wire
in_packet doi tag label h = relabelled (without_ripso h) (Some (Cipso (first_place V4) doi tag label)) h.hops

-- Inexpressible: no tag of the definition fits. NoRoom, TooLong: by the room and the length of the packet that would be written
abbrev pub in_tagged : ℕ → Headers → Label → Option Tag → Result (ParsedPacket Wire) Denial
in_tagged doi h label None = Err Inexpressible
in_tagged doi h label (Some tag) = within_room (in_packet doi tag label h)

-- LevelUnmapped, CategoryUnmapped: the definition has no local number for the level, or for a flag, of which the least is told
abbrev pub in_local : DoiPlan → ℕ → Headers → Result Label Unmapped → Result (ParsedPacket Wire) Denial
in_local plan doi h (Err Level) = Err LevelUnmapped
in_local plan doi h (Err (Category c)) = Err (CategoryUnmapped c)
in_local plan doi h (Ok label) = in_tagged doi h label (first_tag_of plan.tags label)

-- BadOption: at the first fault of option 130, counted in the packet
abbrev pub in_said : DoiPlan → ℕ → Headers → ℕ → Result (Label × ℕ) WireFault → Result (ParsedPacket Wire) Denial
in_said plan doi h place (Err fault) = Err (BadOption (place + fault.octet))
in_said plan doi h place (Ok said) = in_local plan doi h (local_label plan said.0)

-- Unlabelled: there is no option 130. BadOption: there is a second one, whatever the first says
abbrev pub in_by : DoiPlan → ℕ → Headers → List Placed → Result (ParsedPacket Wire) Denial
in_by plan doi h [] = Err Unlabelled
in_by plan doi h (option ∷ second ∷ more) = Err (BadOption second.place)
in_by plan doi h (option ∷ []) = in_said plan doi h option.place (ripso_of option.octets)

-- AlreadyLabelled: there is an option 134, whatever it says
abbrev pub in_unless : DoiPlan → ℕ → Headers → Option Placed → Result (ParsedPacket Wire) Denial
in_unless plan doi h (Some label) = Err (AlreadyLabelled label.place)
in_unless plan doi h None = in_by plan doi h (ripso_options h.others)

-- WrongVersion: version 6
abbrev pub in_version : DoiPlan → ℕ → Headers → Version → Result (ParsedPacket Wire) Denial
in_version plan doi h V6 = Err WrongVersion
in_version plan doi h V4 = in_unless plan doi h h.label

-- BadHeader: the headers are wrong, but for a second label option, which isn't looked for
abbrev pub in_read : DoiPlan → ℕ → Result Headers HeadFault → Result (ParsedPacket Wire) Denial
in_read plan doi (Err fault) = Err (BadHeader fault.octet)
in_read plan doi (Ok h) = in_version plan doi h h.version

-- NotIp: the frame has no packet
abbrev pub border_in : DoiPlan → ℕ → Option (List ℕ) → Result (ParsedPacket Wire) Denial
border_in plan doi None = Err NotIp
border_in plan doi (Some octets) = in_read plan doi (front_in octets)

-- what becomes of the packet of a frame
abbrev pub In : DoiPlan → ℕ → Option (List ℕ) → Result (ParsedPacket Wire) Denial → Type 0
In plan doi part verdict = verdict ≡ border_in plan doi part
