-- What a call answers that writes the packet which a rule gives.
use Rattle.std.specs.Prelude.{◌≡◌, ℕ, List, [], Result, Ok, Err}
use Rattle.ip_headers.specs.Packet.{ParsedPacket}
use Rattle.ip_headers.specs.Written.{packet_octets}
use Rattle.packet_label.specs.declared.packet.Wire.{Wire}
use Rattle.packet_label.specs.declared.denial.Denial.{Denial}
use Rattle.packet_label.specs.declared.denial.Stop.{Stop}
use Rattle.packet_label.specs.declared.denial.Stop.TheVariants.{Denied, OutOfMemory}
use Rattle.packet_label.specs.Written.{written}

-- The rule gives what is made of the answer and of a packet whose octets were written, or it denies so. After a stop nothing is written;
-- where the call had no memory, the rule may give anything.
abbrev pub Answers : {V S : Type 0} → (V → ParsedPacket Wire → S) → Result S Denial → Result V Stop → List ℕ → Type 0
Answers made rule (Ok v) out = (packet : ParsedPacket Wire) × (rule ≡ Ok (made v packet)) × (out ≡ packet_octets (written packet))
Answers made rule (Err (Denied why)) out = (rule ≡ Err why) × (out ≡ [])
Answers made rule (Err OutOfMemory) out = out ≡ []

-- of a rule that gives the packet alone
abbrev pub packet_alone : Unit {0} → ParsedPacket Wire → ParsedPacket Wire
packet_alone done packet = packet
