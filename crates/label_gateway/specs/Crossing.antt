-- How a packet goes out as one of the other version of IP, by the first case that holds (RFC 7915).
use Rattle.std.specs.Prelude.{ℕ, List, Option, Some, None, Result, Err}
use Rattle.mls_label.specs.declared.label.Label.{Label}
use Rattle.doi_table.specs.Table.{Entries}
use Rattle.domain_map.specs.declared.protocol.Protocol.{Protocol}
use Rattle.ip_headers.specs.declared.version.Version.{Version}
use Rattle.ip_headers.specs.declared.version.Version.TheVariants.{V4, V6}
use Rattle.ip_headers.specs.declared.cause.Cause.{Cause}
use Rattle.ip_headers.specs.Packet.{ParsedPacket}
use Rattle.packet_label.specs.declared.packet.Wire.{Wire}
use Rattle.packet_label.specs.declared.denial.Denial.{Denial}
use Rattle.packet_label.specs.declared.denial.Denial.TheVariants.{NoPair, NotCrossable}
use Rattle.version_cross.specs.Cause.{cross_cause}
use Rattle.version_cross.specs.Cross.{crossed}
use Rattle.node_tables.specs.Tables.{AddressPairs, TableState, six_of, four_of}
use Rattle.label_receive.specs.Steps.{◌>>=◌}
use Rattle.label_send.specs.Outgoing.{outgoing}
use Rattle.label_send.specs.Room.{within_length}

-- the address of the other version that stands for one of this version
abbrev pub partner_of : AddressPairs → Version → List ℕ → Option (List ℕ)
partner_of pairs V4 four = six_of pairs four
partner_of pairs V6 six = four_of pairs six

-- a cause why a packet can't cross comes before what goes out
abbrev pub unless_caused : Option Cause → Result (ParsedPacket Wire) Denial → Result (ParsedPacket Wire) Denial
unless_caused (Some cause) goes_out = Err (NotCrossable cause)
unless_caused None goes_out = goes_out

-- The packet with this label under this protocol, between the partners of its addresses, if both have one, and with so many hops. Its
-- options always have room.
abbrev pub crossed_between : {L : Type 0} → Entries → Protocol → Label → ParsedPacket L → ℕ → Option (List ℕ) → Option (List ℕ) → Result (ParsedPacket Wire) Denial
crossed_between definitions protocol label p hops (Some source) (Some destination) =
    unless_caused (cross_cause p) (outgoing definitions protocol label >>= (λ said. within_length (crossed p source destination said hops)))
crossed_between definitions protocol label p hops source destination = Err NoPair

-- and these partners are those of the node's pairs
abbrev pub crossed_under : {L : Type 0} → TableState → Protocol → Label → ParsedPacket L → ℕ → Result (ParsedPacket Wire) Denial
crossed_under t protocol label p hops =
    crossed_between t.definitions protocol label p hops (partner_of t.pairs p.version p.source) (partner_of t.pairs p.version p.destination)
