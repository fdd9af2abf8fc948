-- What the parts of the reader say.
use Rattle.std.specs.Prelude.{◌≡◌, ℕ, ◌+◌}
use Rattle.ip_headers.specs.declared.version.Version.{Version}
use Rattle.ip_headers.specs.Options.{Placed}
use Rattle.packet_label.specs.declared.fault.CarryFault.{CarryFault}
use Rattle.packet_label.specs.declared.fault.CarryFault.TheVariants.{Header, Option}
use Rattle.packet_label.specs.Wire.{IsWireFault}

-- the fault of a label option, at its octet of the packet
abbrev pub BreaksWire : Version → Placed → CarryFault → Type 0
BreaksWire version option (Header octet) = ⊥
BreaksWire version option (Option octet) = (within : ℕ) × IsWireFault version option.octets within × (octet ≡ option.place + within)
