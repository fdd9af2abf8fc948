-- The labels of a packet that comes in at an interface of a node, in the node's own numbers.
use Rattle.std.specs.Prelude.{ℕ, ◌+◌, not, nat_eq, List, Bool, Some, None, Result, Ok, Err, if◌then◌else◌}
use Rattle.std.specs.List.{list_any}
use Rattle.mls_label.specs.declared.label.Label.{Label}
use Rattle.mls_label.specs.declared.label.Proto.TheVariants as Of
use Rattle.mls_label.specs.declared.label.Tag.{Tag}
use Rattle.cipso_tags.specs.Tag.{tag_type}
use Rattle.ip_headers.specs.declared.version.Version.{Version}
use Rattle.ip_headers.specs.declared.version.Version.TheVariants as version
use Rattle.ip_headers.specs.Packet.{ParsedPacket}
use Rattle.packet_label.specs.declared.denial.Carrier.{Carrier}
use Rattle.packet_label.specs.declared.denial.Carrier.TheVariants as carried
use Rattle.packet_label.specs.declared.denial.Denial.{Denial}
use Rattle.packet_label.specs.declared.denial.Denial.TheVariants.{Unlabelled, NoStatic, UnknownDoi, TagNotAllowed, LevelUnmapped, CategoryUnmapped}
use Rattle.packet_label.specs.declared.packet.Wire.{Wire}
use Rattle.packet_label.specs.declared.packet.Wire.TheVariants.{Cipso, Calipso}
use Rattle.doi_table.specs.declared.unmapped.Unmapped.{Unmapped}
use Rattle.doi_table.specs.declared.unmapped.Unmapped.TheVariants.{Level, Category}
use Rattle.doi_table.specs.Table.{Entries, definition_of}
use Rattle.doi_table.specs.Translation.{local_label}
use Rattle.domain_map.specs.declared.address_text.address.Address.{Address}
use Rattle.domain_map.specs.declared.address_text.address.Address.TheVariants.{V4, V6}
use Rattle.domain_map.specs.Statics.{find_static_of}
use Rattle.node_tables.specs.Tables.{TableState}

-- What carried the labels, and from which to which they go: an option says one label, which is both; a static entry has a range.
pub record Incoming : Type 0 where
  pub carrier : Carrier
  pub low : Label
  pub high : Label

-- the address that these octets are in a packet of this version
abbrev pub address_in : Version → List ℕ → Address
address_in version.V4 octets = V4 octets
address_in version.V6 octets = V6 octets

-- A packet without a label option has the labels that are set for its source, where such packets are accepted.
abbrev pub static_labels : TableState → List ℕ → Address → Result Incoming Denial
static_labels t interface source = if not t.accepts then Err Unlabelled else elim (find_static_of t.statics interface source) [
  | None ↦ Err NoStatic
  | Some labels ↦ Ok (record { carrier = carried.Unlabelled; low = labels.0; high = labels.1 })
]

-- one label in the node's numbers, or what of it has no number here
abbrev pub translated : Carrier → Result Label Unmapped → Result Incoming Denial
translated carrier (Ok label) = Ok (record { carrier = carrier; low = label; high = label })
translated carrier (Err Level) = Err LevelUnmapped
translated carrier (Err (Category c)) = Err (CategoryUnmapped c)

-- a definition lists this type of tag
abbrev pub lists_tag : List Tag → Tag → Bool
lists_tag tags tag = list_any (λ listed. nat_eq (tag_type tag) (tag_type listed)) tags

-- A label option is read by the definition of its DOI. The DOI stands at its octet 2, the type of a CIPSO tag at its octet 6.
abbrev pub option_labels : Entries → Wire → Result Incoming Denial
option_labels definitions (Cipso at doi tag label) = elim (definition_of definitions Of.Cipso doi) [
  | None ↦ Err (UnknownDoi (at + 2))
  | Some plan ↦ if not (lists_tag plan.tags tag) then Err (TagNotAllowed (at + 6)) else translated (carried.Cipso doi) (local_label plan label)
]
option_labels definitions (Calipso at doi label) = elim (definition_of definitions Of.Calipso doi) [
  | None ↦ Err (UnknownDoi (at + 2))
  | Some plan ↦ translated (carried.Calipso doi) (local_label plan label)
]

-- the labels of a packet, or the first reason why it has none here
unfoldable pub label_of : TableState → List ℕ → ParsedPacket Wire → Result Incoming Denial
label_of t interface p = elim p.label [
  | None ↦ static_labels t interface (address_in p.version p.source)
  | Some wire ↦ option_labels t.definitions wire
]
