-- What is written of a packet: the form of its line and what it tells, by how its walk ended, and the bounds of that.
use Rattle.std.specs.Prelude.{ℕ, ◌≡◌, ◌≢◌, ◌⊎◌, ◌<◌, ◌^◌, IsTrue, List, [], ◌∷◌, length, codes}
use Rattle.std.specs.Fmt.{decimal}
use Rattle.mls_range.specs.LabelText.{label_text}
use Rattle.domain_map.specs.address_text.Address.{IsAddress, address_text}
use Rattle.domain_map.specs.address_text.Name.{IsNameText}
use Rattle.script_lines.specs.command_values.Doi.{is_doi}
use Rattle.script_lines.specs.command_values.Ranges.{IsMlsLabel}
use Rattle.packet_label.specs.declared.denial.Carrier.{Carrier}
use Rattle.packet_label.specs.declared.denial.Carrier.TheVariants.{Unlabelled, Cipso, Calipso}
use Rattle.packet_label.specs.declared.denial.Denial.{Denial}
use Rattle.packet_label.specs.declared.denial.Denial.TheVariants.{BadHeader, BadOption, UnknownDoi, TagNotAllowed, CategoryUnmapped, AlreadyLabelled, NotCrossable, NotIp}
use Rattle.packet_label.specs.Denial.{number_of, name_of, cause_name}
use Rattle.label_flow.specs.declared.packet_walk.walked.End.{End}
use Rattle.label_flow.specs.declared.packet_walk.walked.End.TheVariants.{Delivered, Sent, Denied}
use Rattle.label_commands.specs.declared.flow_lines.hop.Hop.{Hop}
use Rattle.call_report.specs.Lines.Flow.{carrier_text, hop_node}
use Rattle.call_report.specs.declared.report_lines.form.Form.{Form}
use Rattle.call_report.specs.declared.report_lines.form.Form.TheVariants as form
use Rattle.call_report.specs.declared.report_lines.slot.Field.{Field}
use Rattle.call_report.specs.declared.report_lines.slot.Field.TheVariants as name

-- by what is told of a denial behind its name, an octet, a category, a cause or nothing: the form, and that
abbrev pub denial_told : Denial → Form × List (Field × List ℕ)
denial_told (BadHeader octet) = (form.DeniedOctet, (name.Octet, decimal octet) ∷ [])
denial_told (BadOption octet) = (form.DeniedOctet, (name.Octet, decimal octet) ∷ [])
denial_told (UnknownDoi octet) = (form.DeniedOctet, (name.Octet, decimal octet) ∷ [])
denial_told (TagNotAllowed octet) = (form.DeniedOctet, (name.Octet, decimal octet) ∷ [])
denial_told (AlreadyLabelled octet) = (form.DeniedOctet, (name.Octet, decimal octet) ∷ [])
denial_told (CategoryUnmapped category) = (form.DeniedCategory, (name.Category, decimal category) ∷ [])
denial_told (NotCrossable cause) = (form.DeniedCause, (name.Cause, cause_name cause) ∷ [])
denial_told NotIp = (form.DeniedFrame, [])
denial_told why = (form.DeniedPlain, [])

-- by how a packet's walk ended: the form, and all but the packet's numbers and versions
abbrev pub end_told : List (List ℕ) → List Hop → End → Form × List (Field × List ℕ)
end_told names hops (Delivered label receiver) = (form.Delivered, (name.Became, codes "delivered") ∷ (name.Label, label_text label) ∷ (name.Receiver, address_text receiver) ∷ [])
end_told names hops (Sent carrier) = (form.Sent, (name.Became, codes "sent") ∷ (name.Carrier, carrier_text carrier) ∷ [])
end_told names hops (Denied hop why) = ((denial_told why).0, (name.Became, codes "denied") ∷ (name.Denial, decimal (number_of why)) ∷ (name.Name, name_of why) ∷ (name.Hop, decimal hop) ∷ (name.Node, hop_node names hops hop) ∷ (denial_told why).1)

-- the octet or the category of a denial is below 2^64
abbrev pub IsBoundedDenial : Denial → Type 0
IsBoundedDenial (BadHeader octet) = octet < 2 ^ 64
IsBoundedDenial (BadOption octet) = octet < 2 ^ 64
IsBoundedDenial (UnknownDoi octet) = octet < 2 ^ 64
IsBoundedDenial (TagNotAllowed octet) = octet < 2 ^ 64
IsBoundedDenial (AlreadyLabelled octet) = octet < 2 ^ 64
IsBoundedDenial (CategoryUnmapped category) = category < 2 ^ 64
IsBoundedDenial why = Unit {0}

-- what carries a label has a DOI
abbrev pub IsBoundedCarrier : Carrier → Type 0
IsBoundedCarrier Unlabelled = Unit {0}
IsBoundedCarrier (Cipso doi) = IsTrue (is_doi doi)
IsBoundedCarrier (Calipso doi) = IsTrue (is_doi doi)

-- a frame was denied that holds no packet, by no hop and under no version
abbrev pub IsFrameDenied : ℕ → Denial → List ℕ → Type 0
IsFrameDenied hop why versions = (why ≡ NotIp) × (hop ≡ 0) × (versions ≡ [])

-- a packet was denied for another reason, with what is told of it below 2^64, at a hop whose node has a name
abbrev pub IsPacketDenied : List (List ℕ) → List Hop → ℕ → Denial → Type 0
IsPacketDenied names hops hop why = (why ≢ NotIp) × (hop < 2 ^ 64) × IsBoundedDenial why × IsNameText (hop_node names hops hop)

-- A walk ended with a label as code has them at an address, with a carrier, or was denied. All but frames are judged under some version.
abbrev pub IsBoundedEnd : List (List ℕ) → List Hop → List ℕ → End → Type 0
IsBoundedEnd names hops versions (Delivered label receiver) = (0 < length versions) × IsMlsLabel label × IsAddress receiver
IsBoundedEnd names hops versions (Sent carrier) = (0 < length versions) × IsBoundedCarrier carrier
IsBoundedEnd names hops versions (Denied hop why) = IsFrameDenied hop why versions ⊎ ((0 < length versions) × IsPacketDenied names hops hop why)
