-- How the calls end that read.
use Rattle.std.specs.Prelude.{ℕ, ◌≤◌, List, length, take, Some, Result, Ok, Err}
use Rattle.ip_headers.specs.declared.version.Version.{Version}
use Rattle.ip_headers.specs.Packet.{ParsedPacket}
use Rattle.packet_label.specs.declared.packet.Wire.{Wire}
use Rattle.packet_label.specs.declared.fault.CarryFault.{CarryFault}
use Rattle.packet_label.specs.declared.fault.CarryFault.TheVariants as fault
use Rattle.packet_label.specs.Wire.{IsWire, IsWireFault}
use Rattle.packet_label.specs.Written.{IsReadAs}
use Rattle.netlabel_codec.specs.declared.told.NetlabelLabel.{NetlabelLabel}
use Rattle.netlabel_codec.specs.declared.told.NetlabelRun.{NetlabelRun}
use Rattle.netlabel_codec.specs.declared.status.Status.{Status}
use Rattle.netlabel_codec.specs.declared.status.Status.TheVariants.{BadHeader, BadOption}
use Rattle.netlabel_codec.specs.Told.{TellsWire, TellsFault}

-- a packet's label option, or the first fault, of a header or of the option
abbrev pub TellsAnswer : Result (ParsedPacket Wire) CarryFault → List NetlabelRun → List NetlabelRun → NetlabelLabel → Status → Type 0
TellsAnswer (Ok packet) old new said status = TellsWire 0 packet.label old new said status
TellsAnswer (Err (fault.Header octet)) old new said status = TellsFault BadHeader octet old new said status
TellsAnswer (Err (fault.Option octet)) old new said status = TellsFault BadOption octet old new said status

-- what is read of the octets as a packet is told
pub record TellsPacket (octets : List ℕ) (old new : List NetlabelRun) (said : NetlabelLabel) (status : Status) : Type 0 where
  pub answer : Result (ParsedPacket Wire) CarryFault
  pub reads : IsReadAs octets answer
  pub tells : TellsAnswer answer old new said status

-- so many octets at the front are a label option of this version, and this is what it says
pub record BeginsWithOption (version : Version) (octets : List ℕ) (wire : Wire) (count : ℕ) : Type 0 where
  pub within : count ≤ length octets
  pub is : IsWire version (record { place = 0; octets = take count octets }) wire

-- what is read of octets as a label option of this version, with its length; or the octet of their first fault
abbrev pub IsOptionReadAs : Version → List ℕ → Result (Wire × ℕ) ℕ → Type 0
IsOptionReadAs version octets (Ok (wire, count)) = BeginsWithOption version octets wire count
IsOptionReadAs version octets (Err octet) = IsWireFault version octets octet

abbrev pub TellsOptionAnswer : Result (Wire × ℕ) ℕ → List NetlabelRun → List NetlabelRun → NetlabelLabel → Status → Type 0
TellsOptionAnswer (Ok (wire, count)) old new said status = TellsWire count (Some wire) old new said status
TellsOptionAnswer (Err octet) old new said status = TellsFault BadOption octet old new said status

-- what is read of the octets as a label option is told: of CIPSO in version 4, of CALIPSO in version 6
pub record TellsOption (version : Version) (octets : List ℕ) (old new : List NetlabelRun) (said : NetlabelLabel) (status : Status) : Type 0 where
  pub answer : Result (Wire × ℕ) ℕ
  pub reads : IsOptionReadAs version octets answer
  pub tells : TellsOptionAnswer answer old new said status
