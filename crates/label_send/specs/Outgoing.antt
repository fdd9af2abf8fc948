-- How a label goes out in a packet: in no option, or in one of the protocol that a map names (FIPS 188 and CIPSO draft 2.2 in version 4,
-- RFC 5570 in version 6).
use Rattle.std.specs.Prelude.{◌≡◌, ℕ, Bool, true, false, nat_le, List, Option, Some, None, IfSome, Result, Ok, Err, IfOk, if◌then◌else◌}
use Rattle.std.specs.List.{list_all}
use Rattle.mls_label.specs.declared.label.Label.{Label}
use Rattle.mls_label.specs.declared.label.Tag.{Tag}
use Rattle.mls_label.specs.declared.label.Proto.TheVariants as Of
use Rattle.cipso_tags.specs.Text.{first_tag_of}
use Rattle.calipso_option.specs.declared.bounds.TheConstants.{HIGHEST_CATEGORY}
use Rattle.doi_table.specs.declared.plan.DoiPlan.{DoiPlan}
use Rattle.doi_table.specs.declared.unmapped.Unmapped.{Unmapped}
use Rattle.doi_table.specs.Table.{Entries, definition_of}
use Rattle.doi_table.specs.Translation.{wire_label}
use Rattle.domain_map.specs.declared.protocol.Protocol.{Protocol}
use Rattle.domain_map.specs.declared.protocol.Protocol.TheVariants.{Unlbl, Cipso, Calipso}
use Rattle.ip_headers.specs.declared.version.Version.{Version}
use Rattle.ip_headers.specs.declared.version.Version.TheVariants.{V4, V6}
use Rattle.ip_headers.specs.Reading.{first_place}
use Rattle.packet_label.specs.declared.packet.Wire.{Wire}
use Rattle.packet_label.specs.declared.packet.Wire.TheVariants as wire
use Rattle.packet_label.specs.declared.denial.Carrier.{Carrier}
use Rattle.packet_label.specs.declared.denial.Carrier.TheVariants as carrier
use Rattle.packet_label.specs.declared.denial.Denial.{Denial}
use Rattle.packet_label.specs.declared.denial.Denial.TheVariants.{Inexpressible}
use Rattle.packet_label.specs.Written.{CanSay, wire_text}

-- packets of this version can be labelled under the protocol: CIPSO is an option of version 4, CALIPSO one of version 6
abbrev pub suits : Version → Protocol → Bool
suits version Unlbl = true
suits V4 (Cipso doi) = true
suits V6 (Calipso doi) = true
suits version protocol = false

-- what carries a label under a protocol
abbrev pub carrier_of : Protocol → Carrier
carrier_of Unlbl = carrier.Unlabelled
carrier_of (Cipso doi) = carrier.Cipso doi
carrier_of (Calipso doi) = carrier.Calipso doi

-- an option with the tag that was found for the label on the wire, in its first place
abbrev pub cipso_with : ℕ → Label → Option Tag → Result (Option Wire) Denial
cipso_with doi label None = Err Inexpressible
cipso_with doi label (Some tag) = Ok (Some (wire.Cipso (first_place V4) doi tag label))

-- the first of the tags that can express the label on the wire
abbrev pub cipso_said : ℕ → List Tag → Result Label Unmapped → Result (Option Wire) Denial
cipso_said doi tags (Ok label) = cipso_with doi label (first_tag_of tags label)
cipso_said doi tags (Err why) = Err Inexpressible

-- by what the DOI is defined as
abbrev pub cipso_by : ℕ → Label → Option DoiPlan → Result (Option Wire) Denial
cipso_by doi label None = Err Inexpressible
cipso_by doi label (Some plan) = cipso_said doi plan.tags (wire_label plan label)

-- no category of the label is above 1951, the last one of 61 words
abbrev pub is_in_words : Label → Bool
is_in_words label = list_all (λ c. nat_le c HIGHEST_CATEGORY) label.cats

-- a label on the wire as a CALIPSO option says it
abbrev pub calipso_said : ℕ → Result Label Unmapped → Result (Option Wire) Denial
calipso_said doi (Ok label) = if is_in_words label then Ok (Some (wire.Calipso (first_place V6) doi label)) else Err Inexpressible
calipso_said doi (Err why) = Err Inexpressible

-- the CALIPSO option by a definition of its DOI
abbrev pub calipso_by : ℕ → Label → Option DoiPlan → Result (Option Wire) Denial
calipso_by doi label None = Err Inexpressible
calipso_by doi label (Some plan) = calipso_said doi (wire_label plan label)

-- The option that says a node's label under a protocol, in the numbers of the wire, or none under `unlbl`. A label that the definition
-- has no numbers for, or that no option of the definition can express, doesn't go out.
abbrev pub outgoing : Entries → Protocol → Label → Result (Option Wire) Denial
outgoing definitions Unlbl label = Ok None
outgoing definitions (Cipso doi) label = cipso_by doi label (definition_of definitions Of.Cipso doi)
outgoing definitions (Calipso doi) label = calipso_by doi label (definition_of definitions Of.Calipso doi)

-- an option goes out, and an option of this version can say what it says; these octets are its written form
pub record IsExpressed (version : Version) (out : Result (Option Wire) Denial) (octets : List ℕ) : Type 0 where
  pub said : Wire
  pub is : out ≡ Ok (Some said)
  pub can : CanSay version said
  pub text : octets ≡ wire_text said

-- what goes out, if it does, can be said in an option of this version
abbrev pub CanGoOut : Version → Result (Option Wire) Denial → Type 0
CanGoOut version out = IfOk out (λ said. IfSome said (CanSay version))
