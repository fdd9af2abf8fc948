-- The version of a packet, and what is read of its headers.
use Rattle.std.specs.Prelude.{ℕ, List, Option, Some, None, Result, Err, ◌==◌, if◌then◌else◌}
use Rattle.ip_headers.specs.declared.version.Version.{Version}
use Rattle.ip_headers.specs.declared.version.Version.TheVariants.{V4, V6}
use Rattle.ip_headers.specs.declared.fault.HeadFault.{HeadFault}
use Rattle.ip_headers.specs.declared.fault.HeadKind.TheVariants as kind
use Rattle.ip_headers.specs.Header4.{version_number}
use Rattle.ip_headers.specs.Packet.{Headers}
use Rattle.ip_headers.specs.Reading.{packet_of, front_of}

-- the version that the upper half of the first octet names; none where there is no octet
abbrev pub chosen : List ℕ → Option Version
chosen octets = if version_number octets == 4 then Some V4 else (if version_number octets == 6 then Some V6 else None)

-- what is read in the version that is chosen; where none is, its number is the fault
abbrev pub read_in : (Version → List ℕ → Result Headers HeadFault) → Option Version → List ℕ → Result Headers HeadFault
read_in read None octets = Err (record { octet = 0; kind = kind.Version })
read_in read (Some version) octets = read version octets

-- the headers of a packet of either version, or their first fault
abbrev pub headers_in : List ℕ → Result Headers HeadFault
headers_in octets = read_in packet_of (chosen octets) octets

-- the same without the test for a second label option
abbrev pub front_in : List ℕ → Result Headers HeadFault
front_in octets = read_in front_of (chosen octets) octets
