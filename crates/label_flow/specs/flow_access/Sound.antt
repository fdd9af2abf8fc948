-- What access promises of a packet that is delivered: its label means what it meant where the flow began, and the receiver's level means at
-- least as much.
use Rattle.std.specs.Prelude.{◌≡◌, ℕ, List, [], ◌∷◌, Some, Result, Ok}
use Rattle.mls_label.specs.declared.label.Label.{Label}
use Rattle.domain_map.specs.declared.address_text.address.Address.{Address}
use Rattle.ip_headers.specs.Packet.{ParsedPacket}
use Rattle.packet_label.specs.declared.fault.CarryFault.{CarryFault}
use Rattle.packet_label.specs.declared.packet.Wire.{Wire}
use Rattle.packet_label.specs.Written.{IsReadAs}
use Rattle.label_commands.specs.declared.flow_lines.hop.Hop.{Hop}
use Rattle.label_commands.specs.node_readings.Reading.{NamedMeanings}
use Rattle.label_commands.specs.node_readings.Meaning.{Meaning, meaning_of, MeansDominates}
use Rattle.node_tables.specs.declared.receiver.Receiver.{Receiver}
use Rattle.node_tables.specs.Tables.{TableState, find_receiver_of}
use Rattle.shared_tables.specs.Plan.{PlanState}
use Rattle.label_flow.specs.declared.packet_walk.walked.End.{End}
use Rattle.label_flow.specs.declared.packet_walk.walked.End.TheVariants as the_end
use Rattle.label_flow.specs.flow_access.Labels.{hop_label, hop_tables, reading_at, first_reading}

-- the label of these octets at the first hop, in its numbers
abbrev pub IsOrigin : PlanState → List Hop → List ℕ → List ℕ → Label → Type 0
IsOrigin plan [] octets versions label = ⊥
IsOrigin plan (hop ∷ hops) octets [] label = ⊥
IsOrigin plan (hop ∷ hops) octets (version ∷ versions) label =
    (read : Result (ParsedPacket Wire) CarryFault) × IsReadAs octets read × (hop_label (hop_tables plan version hop) hop read ≡ Ok label)

-- so it is at the hop that judged under the last version
abbrev pub AtLast : (Hop → ℕ → Type 0) → List Hop → List ℕ → Type 0
AtLast P [] versions = ⊥
AtLast P (hop ∷ hops) [] = ⊥
AtLast P (hop ∷ hops) (version ∷ []) = P hop version
AtLast P (hop ∷ hops) (version ∷ next ∷ versions) = AtLast P hops (next ∷ versions)

-- a node with these tables and this reading may deliver the label to the address, where the label meant so much at its origin
pub record MayHave (t : TableState) (named : NamedMeanings) (origin : Meaning) (label : Label) (address : Address) : Type 0 where
  pub receiver : Receiver
  pub receives : find_receiver_of t.receivers address ≡ Some receiver
  pub same : meaning_of named label ≡ origin
  pub dominated : MeansDominates (meaning_of named receiver.level) origin

-- the origin's label, and what it means to the receiver
pub record IsSoundDelivery (plan : PlanState) (readings : List NamedMeanings) (hops : List Hop) (octets versions : List ℕ) (label : Label) (address : Address) : Type 0 where
  pub origin : Label
  pub begins : IsOrigin plan hops octets versions origin
  pub ends : AtLast (λ hop version. MayHave (hop_tables plan version hop) (reading_at readings hop) (meaning_of (first_reading readings hops) origin) label address) hops versions

-- where the walk delivers
abbrev pub IsSound : PlanState → List NamedMeanings → List Hop → List ℕ → List ℕ → End → Type 0
IsSound plan readings hops octets versions (the_end.Delivered label address) = IsSoundDelivery plan readings hops octets versions label address
IsSound plan readings hops octets versions (the_end.Sent carrier) = Unit {0}
IsSound plan readings hops octets versions (the_end.Denied hop why) = Unit {0}
