-- What is true of the definitions alone.
use Rattle.std.specs.Prelude.{◌≡◌, ℕ, ◌≤◌, List, Result}
use Rattle.ip_headers.specs.Packet.{ParsedPacket}
use Rattle.ip_headers.specs.Written.{room_limit, rebuilt_room, rebuilt_length, packet_octets}
use Rattle.packet_label.specs.declared.packet.Wire.{Wire}
use Rattle.packet_label.specs.declared.fault.CarryFault.{CarryFault}
use Rattle.packet_label.specs.declared.fault.CarryFault.TheVariants.{Header, Option}
use Rattle.packet_label.specs.Written.{written, IsWritable, IsNext, IsReadAs}

-- octets are a packet or have a first fault, one alone, and never both
pub record HasOneAnswer (octets : List ℕ) : Type 0 where
  pub some : (answer : Result (ParsedPacket Wire) CarryFault) × IsReadAs octets answer
  pub one : (a b : Result (ParsedPacket Wire) CarryFault) → IsReadAs octets a → IsReadAs octets b → a ≡ b

-- a fault stands in so many octets or at their end
abbrev pub StandsWithin : ℕ → CarryFault → Type 0
StandsWithin n (Header octet) = octet ≤ n
StandsWithin n (Option octet) = octet ≤ n

-- what is written within its room and length is read as the packet that it then is
abbrev pub ReadsNext : ParsedPacket Wire → Type 0
ReadsNext p = (answer : Result (ParsedPacket Wire) CarryFault) → IsWritable p → rebuilt_room (written p) ≤ room_limit p.version → rebuilt_length (written p) ≤ 65535
    → IsNext p answer → IsReadAs (packet_octets (written p)) answer
