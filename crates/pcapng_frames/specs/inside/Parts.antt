-- Parts of a reader's answers.
use Rattle.std.specs.Prelude.{◌≡◌, ℕ, ◌+◌, ◌-◌, ◌<◌, IsTrue, nat_lt, if◌then◌else◌, List, length, drop, Option, Some, None, Result, Ok, Err}
use Rattle.net_io.specs.Depot.{DepotState, octets_of}
use Rattle.net_io.specs.file_window.Numbers.{ordered_number}
use Rattle.net_io.specs.file_window.Window.{IsFrom}
use Rattle.pcapng_frames.specs.declared.head.BlockHead.{BlockHead}
use Rattle.pcapng_frames.specs.declared.packet.NgHead.{NgHead}
use Rattle.pcapng_frames.specs.declared.blocks.Turn.{Turn}
use Rattle.pcapng_frames.specs.declared.blocks.Turn.TheVariants.{End, Passed, Frame}
use Rattle.pcapng_frames.specs.declared.fault.NgFault.{NgFault}
use Rattle.pcapng_frames.specs.declared.fault.NgKind.TheVariants.{Short}
use Rattle.pcapng_frames.specs.Section.{Section}
use Rattle.pcapng_frames.specs.Block.{NgBlock}

-- what is left of a file from an octet on
abbrev pub rest_at : DepotState → List ℕ → ℕ → List ℕ
rest_at folder name at = drop at (octets_of (folder.held name))

-- where the content is told, these octets stand in a file from an octet on
abbrev pub IsAhead : DepotState → List ℕ → ℕ → List ℕ → Type 0
IsAhead folder name at octets = IsTrue folder.tells → IsFrom (octets_of (folder.held name)) at octets

-- the file has so many octets from the octet `at` on
abbrev pub enough_at : ℕ → ℕ → List ℕ → Result (Unit {0}) NgFault
enough_at need at rest = if nat_lt (length rest) need then Err (record { octet = at + length rest; kind = Short }) else Ok tt

-- an answer that waits on nothing outside is what is said
abbrev pub IsSaid : {T X : Type 0} → (T → X) → Result T NgFault → Result X NgFault → Type 0
IsSaid shown (Ok given) said = said ≡ Ok (shown given)
IsSaid shown (Err fault) said = said ≡ Err fault

-- a block that gives no frame
abbrev pub passed_block : Section → ℕ → NgBlock
passed_block section size = record { section = section; frame = None; size = size }

-- a block that gives this frame
abbrev pub frame_block : Section → ℕ → NgHead → List ℕ → NgBlock
frame_block section size head octets = record { section = section; frame = Some (record { head = head; octets = octets }); size = size }

-- the block of `size` octets that was this to a reader
abbrev pub turn_block : Section → ℕ → List ℕ → Turn → Option NgBlock
turn_block section size octets End = None
turn_block section size octets Passed = Some (passed_block section size)
turn_block section size octets (Frame head) = Some (frame_block section size head octets)

-- what a whole block said that was this to a reader; a whole block is never the file's end
abbrev pub turn_said : Section → ℕ → List ℕ → Turn → NgBlock
turn_said section size octets End = passed_block section size
turn_said section size octets Passed = passed_block section size
turn_said section size octets (Frame head) = frame_block section size head octets

-- nanoseconds are less than a second
abbrev pub HasNanos : Turn → Type 0
HasNanos End = Unit {0}
HasNanos Passed = Unit {0}
HasNanos (Frame head) = head.nanos < 1000000000

-- the last four octets of a block, or the fault where the file ends in front of them or in them
abbrev pub trailer_at : ℕ → List ℕ → BlockHead → Result ℕ NgFault
trailer_at at rest head =
    if nat_lt (length rest) head.total then Err (record { octet = at + length rest; kind = Short })
    else Ok (ordered_number head.order 4 (drop (head.total - 4) rest))
