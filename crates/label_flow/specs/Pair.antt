-- What a feed is given for a packet.
use Rattle.std.specs.Prelude.{ℕ, List}
use Rattle.label_flow.specs.declared.packet_walk.walked.Walked.{Walked}

-- what became of a packet, and the octets that its walk left
pub record PairState : Type 0 where
  pub walked : Walked
  pub octets : List ℕ

abbrev pub pair : Walked → List ℕ → PairState
pair walked octets = record { walked = walked; octets = octets }
