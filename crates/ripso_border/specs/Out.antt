-- Out: a packet with a CIPSO option of one DOI becomes a packet with option 130, by the first case that holds.
use Rattle.std.specs.Prelude.{◌≡◌, ℕ, ◌+◌, ◌==◌, not, List, [], ◌∷◌, Option, Some, None, Result, Ok, Err, if◌then◌else◌}
use Rattle.mls_label.specs.declared.label.Label.{Label}
use Rattle.mls_label.specs.declared.label.Tag.{Tag}
use Rattle.ripso_option.specs.Text.{fits_ripso, ripso_text}
use Rattle.ip_headers.specs.declared.version.Version.{Version}
use Rattle.ip_headers.specs.declared.version.Version.TheVariants.{V4, V6}
use Rattle.ip_headers.specs.Options.{Placed}
use Rattle.ip_headers.specs.Packet.{ParsedPacket}
use Rattle.ip_headers.specs.Swapped.{led_by}
use Rattle.packet_label.specs.declared.packet.Wire.{Wire}
use Rattle.packet_label.specs.declared.packet.Wire.TheVariants.{Cipso, Calipso}
use Rattle.packet_label.specs.declared.denial.Denial.{Denial}
use Rattle.packet_label.specs.declared.denial.Denial.TheVariants.{Unlabelled, UnknownDoi, TagNotAllowed, AlreadyLabelled, Inexpressible, WrongVersion, NotIp}
use Rattle.doi_table.specs.declared.plan.DoiPlan.{DoiPlan}
use Rattle.doi_table.specs.declared.unmapped.Unmapped.{Unmapped}
use Rattle.doi_table.specs.Translation.{wire_label}
use Rattle.label_receive.specs.Incoming.{lists_tag}
use Rattle.label_receive.specs.Judged.{IsJudged}
use Rattle.label_send.specs.Room.{within_room}
use Rattle.ripso_border.specs.Options.{ripso_options}

-- Inexpressible: the definition has no remote number for something of the label, or option 130 can't express what it gives. NoRoom,
-- TooLong: by the room and the length of the packet that would be written
abbrev pub out_wire : ParsedPacket Wire → Result Label Unmapped → Result (ParsedPacket Wire) Denial
out_wire p (Err why) = Err Inexpressible
out_wire p (Ok label) = if fits_ripso label then within_room (led_by (ripso_text label) p) else Err Inexpressible

-- UnknownDoi: the DOI, at octet 2 of the option, is another. TagNotAllowed: the definition lacks the tag, at octet 6
abbrev pub out_by : DoiPlan → ℕ → ParsedPacket Wire → ℕ → ℕ → Tag → Label → Result (ParsedPacket Wire) Denial
out_by plan doi p place said tag label =
    if not (said == doi) then Err (UnknownDoi (place + 2))
    else (if not (lists_tag plan.tags tag) then Err (TagNotAllowed (place + 6))
    else out_wire p (wire_label plan label))

-- AlreadyLabelled: there is an option 130, whatever it says
abbrev pub out_unless : List Placed → Result (ParsedPacket Wire) Denial → Result (ParsedPacket Wire) Denial
out_unless (option ∷ more) goes_out = Err (AlreadyLabelled option.place)
out_unless [] goes_out = goes_out

-- Unlabelled: there is no option 134. (An option of version 6 isn't in a packet of version 4.)
abbrev pub out_said : DoiPlan → ℕ → ParsedPacket Wire → Option Wire → Result (ParsedPacket Wire) Denial
out_said plan doi p None = Err Unlabelled
out_said plan doi p (Some (Cipso place said tag label)) = out_unless (ripso_options p.others) (out_by plan doi p place said tag label)
out_said plan doi p (Some (Calipso place said label)) = Err WrongVersion

-- WrongVersion: version 6
abbrev pub out_version : DoiPlan → ℕ → ParsedPacket Wire → Version → Result (ParsedPacket Wire) Denial
out_version plan doi p V6 = Err WrongVersion
out_version plan doi p V4 = out_said plan doi p p.label

-- what becomes of a packet that was read
abbrev pub border_out : DoiPlan → ℕ → ParsedPacket Wire → Result (ParsedPacket Wire) Denial
border_out plan doi p = out_version plan doi p p.version

-- NotIp: the frame has no packet. BadHeader, BadOption: by the first fault of octets that are none
abbrev pub Out : DoiPlan → ℕ → Option (List ℕ) → Result (ParsedPacket Wire) Denial → Type 0
Out plan doi None verdict = verdict ≡ Err NotIp
Out plan doi (Some octets) verdict = IsJudged octets (border_out plan doi) verdict
