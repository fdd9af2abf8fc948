-- What static labels promise of a packet that is delivered: its label means at least what it meant where the flow began, and the receiver's
-- level means at least as much as both.
use Rattle.std.specs.Prelude.{◌≡◌, ℕ, List, Some, Ok}
use Rattle.mls_label.specs.declared.label.Label.{Label}
use Rattle.domain_map.specs.declared.address_text.address.Address.{Address}
use Rattle.ip_headers.specs.declared.version.Version.TheVariants.{V6}
use Rattle.ip_headers.specs.Packet.{Headers}
use Rattle.packet_label.specs.Choice.{front_in}
use Rattle.label_commands.specs.declared.flow_lines.hop.Hop.{Hop}
use Rattle.label_commands.specs.node_readings.Reading.{NamedMeanings}
use Rattle.label_commands.specs.node_readings.Meaning.{Meaning, meaning_of, MeansDominates}
use Rattle.node_tables.specs.declared.receiver.Receiver.{Receiver}
use Rattle.node_tables.specs.Tables.{TableState, find_receiver_of}
use Rattle.shared_tables.specs.Plan.{PlanState}
use Rattle.label_flow.specs.declared.packet_walk.walked.End.{End}
use Rattle.label_flow.specs.declared.packet_walk.walked.End.TheVariants as the_end
use Rattle.label_flow.specs.flow_access.Labels.{hop_tables, reading_at, first_reading}
use Rattle.label_flow.specs.flow_access.Sound.{IsOrigin, AtLast}

-- a node with these tables and this reading may deliver the label to the address, where the label meant so much at its origin
pub record MayClimb (t : TableState) (named : NamedMeanings) (origin : Meaning) (label : Label) (address : Address) : Type 0 where
  pub receiver : Receiver
  pub receives : find_receiver_of t.receivers address ≡ Some receiver
  pub climbs : MeansDominates (meaning_of named label) origin
  pub dominated : MeansDominates (meaning_of named receiver.level) (meaning_of named label)
  pub above : MeansDominates (meaning_of named receiver.level) origin

-- the origin's label, and what became of it at the last hop
pub record IsClimb (plan : PlanState) (readings : List NamedMeanings) (hops : List Hop) (octets versions : List ℕ) (label : Label) (address : Address) : Type 0 where
  pub origin : Label
  pub begins : IsOrigin plan hops octets versions origin
  pub ends : AtLast (λ hop version. MayClimb (hop_tables plan version hop) (reading_at readings hop) (meaning_of (first_reading readings hops) origin) label address) hops versions

-- A packet of version 6 whose protocol behind Hop-by-Hop is 0: where it goes on without an option, what stands behind its header is read as a
-- new Hop-by-Hop header, and may say any label.
pub record IsExcepted (octets : List ℕ) : Type 0 where
  pub headers : Headers
  pub reads : front_in octets ≡ Ok headers
  pub version : headers.version ≡ V6
  pub protocol : headers.protocol ≡ 0

-- where the walk delivers, and the packet isn't one of these
abbrev pub Climbs : PlanState → List NamedMeanings → List Hop → List ℕ → List ℕ → End → Type 0
Climbs plan readings hops octets versions (the_end.Delivered label address) = (IsExcepted octets → ⊥) → IsClimb plan readings hops octets versions label address
Climbs plan readings hops octets versions (the_end.Sent carrier) = Unit {0}
Climbs plan readings hops octets versions (the_end.Denied hop why) = Unit {0}
