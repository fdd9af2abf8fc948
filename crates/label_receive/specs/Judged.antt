-- What a rule for packets gives of octets.
use Rattle.std.specs.Prelude.{◌≡◌, ℕ, List, Result, Ok, Err}
use Rattle.ip_headers.specs.Packet.{ParsedPacket}
use Rattle.packet_label.specs.declared.denial.Denial.{Denial}
use Rattle.packet_label.specs.declared.denial.Denial.TheVariants.{BadHeader, BadOption}
use Rattle.packet_label.specs.declared.fault.CarryFault.{CarryFault}
use Rattle.packet_label.specs.declared.fault.CarryFault.TheVariants.{Header, Option}
use Rattle.packet_label.specs.declared.packet.Wire.{Wire}
use Rattle.packet_label.specs.Written.{IsReadAs}

-- octets that are no packet are denied at their first fault
abbrev pub fault_denial : CarryFault → Denial
fault_denial (Header octet) = BadHeader octet
fault_denial (Option octet) = BadOption octet

-- the fault comes before all of the rule
abbrev pub judged_by : {X : Type 0} → (ParsedPacket Wire → Result X Denial) → Result (ParsedPacket Wire) CarryFault → Result X Denial
judged_by rule (Ok packet) = rule packet
judged_by rule (Err fault) = Err (fault_denial fault)

-- the verdict on octets is that of the rule on what is read of them
pub record IsJudged {X : Type 0} (octets : List ℕ) (rule : ParsedPacket Wire → Result X Denial) (verdict : Result X Denial) : Type 0 where
  pub read : Result (ParsedPacket Wire) CarryFault
  pub reads : IsReadAs octets read
  pub is : verdict ≡ judged_by rule read
