-- What is true of the definitions alone.
use Rattle.std.specs.Prelude.{◌≡◌, ℕ, ◌^◌, ◌<◌, ◌≤◌, false, true, List, Contains, Option, None, Some, Result, Ok, Err}
use Rattle.mls_label.specs.declared.label.Label.{Label}
use Rattle.mls_label.specs.declared.label.Tag.{Tag}
use Rattle.mls_label.specs.declared.label.Proto.{Proto}
use Rattle.mls_label.specs.declared.label.Proto.TheVariants as Of
use Rattle.cipso_tags.specs.Text.{Fits}
use Rattle.calipso_option.specs.Text.{IsExpressible}
use Rattle.doi_table.specs.declared.plan.DoiPlan.{DoiPlan}
use Rattle.doi_table.specs.declared.unmapped.Unmapped.{Unmapped}
use Rattle.doi_table.specs.Definition.{IsDefinition}
use Rattle.doi_table.specs.Table.{Entries, definition_of}
use Rattle.doi_table.specs.Translation.{wire_label}
use Rattle.domain_map.specs.declared.protocol.Protocol.{Protocol}
use Rattle.domain_map.specs.declared.protocol.Protocol.TheVariants.{Unlbl, Cipso, Calipso}
use Rattle.domain_map.specs.Domains.{find_of}
use Rattle.ip_headers.specs.Packet.{ParsedPacket, Headers, relabelled}
use Rattle.ip_headers.specs.Written.{rebuilt_length, rebuilt_room, room_limit}
use Rattle.packet_label.specs.declared.packet.Wire.{Wire}
use Rattle.packet_label.specs.Choice.{front_in}
use Rattle.packet_label.specs.Written.{IsWritable, written}
use Rattle.node_tables.specs.Tables.{TableState}
use Rattle.label_receive.specs.Incoming.{address_in}
use Rattle.label_receive.specs.Range.{is_outside}
use Rattle.label_send.specs.Outgoing.{outgoing, suits, carrier_of}
use Rattle.label_send.specs.Send.{Sent, sent_by}

-- the definition has no numbers for a label, or nothing can say what they make of it
abbrev pub CannotSay : (Label → Type 0) → Result Label Unmapped → Type 0
CannotSay CanSay (Ok label) = CanSay label → ⊥
CannotSay CanSay (Err why) = Unit {0}

-- one of the definition's tags can express the label
abbrev pub HasTag : DoiPlan → Label → Type 0
HasTag plan label = (tag : Tag) × Contains plan.tags tag × Fits tag label

-- the protocol's DOI is defined, and no option of its definition says the label
abbrev pub IsInexpressible : Entries → Protocol → Label → Type 0
IsInexpressible definitions Unlbl label = ⊥
IsInexpressible definitions (Cipso doi) label = (plan : DoiPlan) × (definition_of definitions Of.Cipso doi ≡ Some plan) × CannotSay (HasTag plan) (wire_label plan label)
IsInexpressible definitions (Calipso doi) label = (plan : DoiPlan) × (definition_of definitions Of.Calipso doi ≡ Some plan) × CannotSay IsExpressible (wire_label plan label)

-- each DOI that is defined may stand in an option, and what it is defined as is a definition
abbrev pub AreDefinitions : Entries → Type 0
AreDefinitions definitions = (proto : Proto) (doi : ℕ) (plan : DoiPlan) → definition_of definitions proto doi ≡ Some plan → (0 < doi) × (doi < 2 ^ 32) × IsDefinition plan

-- Why a packet is sent: its headers are right and have no label option yet, the interface takes the label, the domain's map gives a
-- protocol that suits its version, and something says the label under that; with it the packet goes out, and its hops stay.
pub record IsSent (t : TableState) (domain interface : List ℕ) (label : Label) (octets : List ℕ) (sent : Sent) : Type 0 where
  pub headers : Headers
  pub protocol : Protocol
  pub said : Option Wire
  pub reads : front_in octets ≡ Ok headers
  pub free : headers.label ≡ None
  pub released : is_outside t.ranges interface label label ≡ false
  pub found : find_of t.domains domain (address_in headers.version headers.destination) ≡ Some protocol
  pub fits : suits headers.version protocol ≡ true
  pub goes : outgoing t.definitions protocol label ≡ Ok said
  pub is : sent ≡ sent_by (carrier_of protocol) (relabelled headers said headers.hops)

-- a packet that may be written, within its room and its length
pub record IsInRoom (p : ParsedPacket Wire) : Type 0 where
  pub writable : IsWritable p
  pub room : rebuilt_room (written p) ≤ room_limit p.version
  pub long : rebuilt_length (written p) ≤ 65535
