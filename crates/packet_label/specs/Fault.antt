-- Where octets that are no packet have their first fault: in the header first, then in the label option.
use Rattle.std.specs.Prelude.{◌≡◌, ℕ, ◌+◌, List, Some, MatchResult}
use Rattle.ip_headers.specs.declared.fault.HeadFault.{HeadFault}
use Rattle.ip_headers.specs.declared.fault.HeadKind.{HeadKind}
use Rattle.ip_headers.specs.declared.fault.HeadKind.TheVariants.{SecondLabel}
use Rattle.ip_headers.specs.Options.{Placed}
use Rattle.ip_headers.specs.Packet.{Headers}
use Rattle.packet_label.specs.declared.fault.CarryFault.{CarryFault}
use Rattle.packet_label.specs.declared.fault.CarryFault.TheVariants as fault
use Rattle.packet_label.specs.Wire.{IsWireFault}
use Rattle.packet_label.specs.Choice.{headers_in}

-- a second label option is a fault of the option, each other of the header
abbrev pub told : ℕ → HeadKind → CarryFault
told octet SecondLabel = fault.Option octet
told octet kind = fault.Header octet

-- the headers are right and have one label option, which has its first fault at this octet of the packet
pub record BreaksLabel (headers : Headers) (f : CarryFault) : Type 0 where
  pub option : Placed
  pub has : headers.label ≡ Some option
  pub within : ℕ
  pub breaks : IsWireFault headers.version option.octets within
  pub is : f ≡ fault.Option (option.place + within)

-- the first fault of octets that are no packet
abbrev pub IsPacketFault : List ℕ → CarryFault → Type 0
IsPacketFault octets f = MatchResult (headers_in octets) (λ headers. BreaksLabel headers f) (λ (e : HeadFault). f ≡ told e.octet e.kind)
