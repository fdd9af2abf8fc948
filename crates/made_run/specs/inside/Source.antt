-- Packets that are made, and what of their capture was sent.
use Rattle.std.specs.Prelude.{ℕ, true, ◌+◌, IsTrue, List, map}
use Rattle.std.specs.List.{range_with_len}
use Rattle.net_io.specs.Depot.{DepotState}
use Rattle.captures.specs.declared.packet_in.PacketIn.{PacketIn}
use Rattle.made_run.specs.made_capture.Number.{number_at}
use Rattle.made_run.specs.made_capture.Packet.{packet_made}
use Rattle.made_run.specs.made_capture.Capture.{capture_made}
use Rattle.made_run.specs.made_capture.Maker.{Making}
use Rattle.made_run.specs.inside.File.{IsSent, IsBegun}

-- packet i, as it comes in
abbrev pub packet_in : ℕ → ℕ → PacketIn
packet_in seed i = record { bytes = packet_made (number_at seed i); is_ip = true }

-- so many packets behind the first ones
abbrev pub packets_made : ℕ → ℕ → ℕ → List PacketIn
packets_made seed first count = map (packet_in seed) (range_with_len (first + 1) count)

-- the capture of all packets that were made was sent, but for what waits
abbrev pub IsSentUpTo : Making → List ℕ → List ℕ → DepotState → Type 0
IsSentUpTo maker waits name folder = IsTrue folder.tells → IsSent (capture_made maker.seed maker.made) waits (folder.held name)

-- some first octets of the capture of so many packets were sent
abbrev pub IsBegunUpTo : ℕ → ℕ → List ℕ → DepotState → Type 0
IsBegunUpTo seed count name folder = IsTrue folder.tells → IsBegun (capture_made seed count) (folder.held name)
