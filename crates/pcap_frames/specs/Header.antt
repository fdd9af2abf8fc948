-- The header of a capture, its first 24 octets (the libpcap file format, version 2.4).
use Rattle.std.specs.Prelude.{ℕ, Bool, true, false, not, ◌&&◌, ◌||◌, ◌==◌, nat_lt, if◌then◌else◌, List, length, drop, Option, Some, None, Result, Ok, Err}
use Rattle.net_io.specs.declared.file_window.order.OctetOrder.{OctetOrder}
use Rattle.net_io.specs.declared.file_window.order.OctetOrder.TheVariants.{Little, Big}
use Rattle.pcap_frames.specs.declared.header.CaptureHeader.{CaptureHeader}
use Rattle.pcap_frames.specs.declared.fault.CaptureFault.{CaptureFault}
use Rattle.pcap_frames.specs.declared.fault.CaptureKind.TheVariants.{Magic, Version, LinkType, Short}
use Rattle.net_io.specs.file_window.Numbers.{ordered_number}

-- whether the magic, read in this order, says nanoseconds; none where it is no magic
abbrev pub nanos_in : OctetOrder → List ℕ → Option Bool
nanos_in order file =
    let magic = ordered_number order 4 file in
    if magic == 0xA1B2C3D4 then Some false else (if magic == 0xA1B23C4D then Some true else None)

-- the order of octets in which the magic number is one that is known, the lowest first before the highest first
abbrev pub magic_by : Option Bool → Option Bool → Option (OctetOrder × Bool)
magic_by (Some nanos) big = Some (Little, nanos)
magic_by None (Some nanos) = Some (Big, nanos)
magic_by None None = None

-- the order of all fields, and whether fractions are nanoseconds
unfoldable pub magic_of : List ℕ → Option (OctetOrder × Bool)
magic_of file = magic_by (nanos_in Little file) (nanos_in Big file)

-- Ethernet, raw IP, IPv4, IPv6
abbrev pub is_link : ℕ → Bool
is_link link = link == 1 || link == 101 || link == 228 || link == 229

-- behind the magic: version 2.4 at octet 4, the link type at octet 20
abbrev pub header_by : List ℕ → Option (OctetOrder × Bool) → Result CaptureHeader CaptureFault
header_by file None = Err (record { octet = 0; kind = Magic })
header_by file (Some magic) =
    let order = magic.0 in
    let link = ordered_number order 4 (drop 20 file) in
    if not (ordered_number order 2 (drop 4 file) == 2 && ordered_number order 2 (drop 6 file) == 4) then Err (record { octet = 4; kind = Version })
    else (if not (is_link link) then Err (record { octet = 20; kind = LinkType })
    else Ok (record { order = order; nanos = magic.1; link = link }))

-- the header of a file, or its first fault
unfoldable pub capture_header : List ℕ → Result CaptureHeader CaptureFault
capture_header file = if nat_lt (length file) 24 then Err (record { octet = length file; kind = Short }) else header_by file (magic_of file)
