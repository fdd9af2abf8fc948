-- The enhanced packet block.
use Rattle.std.specs.Prelude.{ℕ, ◌+◌, ◌*◌, ◌/◌, ◌%◌, ◌^◌, not, ◌||◌, ◌==◌, nat_lt, nat_le, if◌then◌else◌, List, drop, Option, Some, None, Result, Ok, Err}
use Rattle.std.specs.List.{slice_get}
use Rattle.net_io.specs.declared.file_window.order.OctetOrder.{OctetOrder}
use Rattle.net_io.specs.file_window.Numbers.{ordered_number}
use Rattle.pcap_frames.specs.Header.{is_link}
use Rattle.pcapng_frames.specs.declared.interface.Interface.{Interface}
use Rattle.pcapng_frames.specs.declared.packet.NgHead.{NgHead}
use Rattle.pcapng_frames.specs.declared.packet.PacketHead.{PacketHead}
use Rattle.pcapng_frames.specs.declared.fault.NgFault.{NgFault}
use Rattle.pcapng_frames.specs.declared.fault.NgKind.TheVariants.{BlockLength, LinkType, Resolution, Captured, SnapCut, Time, Interface as NoInterface}
use Rattle.pcapng_frames.specs.Numbers.{padded}
use Rattle.pcapng_frames.specs.Section.{Section}

-- the time is a count of units since the beginning of 1970, UTC: its high part at octet 12, its low part at octet 16
abbrev pub units_of : OctetOrder → List ℕ → ℕ
units_of order rest = ordered_number order 4 (drop 12 rest) * 2 ^ 32 + ordered_number order 4 (drop 16 rest)

-- how many units a second has: 10 ^ 6 or 10 ^ 9
abbrev pub units_in_second : ℕ → ℕ
units_in_second resolution = if resolution == 9 then 1000000000 else 1000000

-- how many nanoseconds a unit has
abbrev pub nanos_in_unit : ℕ → ℕ
nanos_in_unit resolution = if resolution == 9 then 1 else 1000

abbrev pub ng_head_of : ℕ → Interface → NgHead
ng_head_of units interface =
    let second = units_in_second interface.resolution in
    record { seconds = units / second; nanos = units % second * nanos_in_unit interface.resolution; link = interface.link }

-- the head of the packet, of an interface that its section has described
abbrev pub packet_by : OctetOrder → ℕ → ℕ → List ℕ → Option Interface → Result PacketHead NgFault
packet_by order total at rest None = Err (record { octet = at + 8; kind = NoInterface })
packet_by order total at rest (Some interface) =
    let captured = ordered_number order 4 (drop 20 rest) in
    let units = units_of order rest in
    if not (is_link interface.link) then Err (record { octet = at + 8; kind = LinkType })
    else (if not (interface.resolution == 6 || interface.resolution == 9) then Err (record { octet = at + 8; kind = Resolution })
    else (if nat_lt 262144 captured then Err (record { octet = at + 20; kind = Captured })
    else (if nat_lt captured (ordered_number order 4 (drop 24 rest)) then Err (record { octet = at + 20; kind = SnapCut })
    else (if nat_lt total (32 + padded captured) then Err (record { octet = at + 4; kind = BlockLength })
    else (if nat_le (2 ^ 32) (units / units_in_second interface.resolution) then Err (record { octet = at + 12; kind = Time })
    else Ok (record { head = ng_head_of units interface; captured = captured }))))))

-- the head of the packet whose block of `total` octets begins at the octet `at`
unfoldable pub packet_at : Section → OctetOrder → ℕ → ℕ → List ℕ → Result PacketHead NgFault
packet_at section order total at rest = packet_by order total at rest (slice_get section.interfaces (ordered_number order 4 (drop 8 rest)))
