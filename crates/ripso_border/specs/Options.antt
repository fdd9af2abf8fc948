-- Option 130 among the options of a packet of IPv4.
use Rattle.std.specs.Prelude.{List}
use Rattle.ip_headers.specs.Options.{Placed}
use Rattle.ip_headers.specs.Packet.{ParsedPacket}
use Rattle.ip_headers.specs.Swapped.{of_kind, without_kind}

-- the options of that type, in order
abbrev pub ripso_options : List Placed → List Placed
ripso_options others = of_kind 130 others

-- the packet without them
abbrev pub without_ripso : {L : Type 0} → ParsedPacket L → ParsedPacket L
without_ripso p = record p { others = without_kind 130 p.others }
