-- What one block says.
use Rattle.std.specs.Prelude.{ℕ, ◌+◌, ◌-◌, not, ◌||◌, ◌==◌, if◌then◌else◌, List, [], ◌∷◌, ◌++◌, take, drop, Option, Some, None, Result, Ok, Err}
use Rattle.net_io.specs.file_window.Numbers.{ordered_number}
use Rattle.pcapng_frames.specs.declared.head.BlockHead.{BlockHead}
use Rattle.pcapng_frames.specs.declared.packet.NgHead.{NgHead}
use Rattle.pcapng_frames.specs.declared.packet.PacketHead.{PacketHead}
use Rattle.pcapng_frames.specs.declared.fault.NgFault.{NgFault}
use Rattle.pcapng_frames.specs.declared.fault.NgKind.TheVariants.{Version, Block}
use Rattle.pcapng_frames.specs.Section.{Section}
use Rattle.pcapng_frames.specs.Head.{block_head_at, whole_at}
use Rattle.pcapng_frames.specs.Options.{resolution_at}
use Rattle.pcapng_frames.specs.Packet.{packet_at}

-- What a packet gives: its time and link type, and its octets.
pub record NgFrame : Type 0 where
  pub head : NgHead
  pub octets : List ℕ

-- What a block gives: the section behind it, a frame where it is a packet, and how many octets it has.
pub record NgBlock : Type 0 where
  pub section : Section
  pub frame : Option NgFrame
  pub size : ℕ

-- a section header: its major version is 1, and no interface is described yet
abbrev pub section_block : ℕ → List ℕ → BlockHead → Result NgBlock NgFault
section_block at rest head =
    if not (ordered_number head.order 2 (drop 12 rest) == 1) then Err (record { octet = at + 12; kind = Version })
    else Ok (record { section = record { order = head.order; interfaces = [] }; frame = None; size = head.total })

-- an interface: one more of its section, with its link type at octet 8 and the resolution that its options tell
abbrev pub interface_by : Section → List ℕ → BlockHead → Result ℕ NgFault → Result NgBlock NgFault
interface_by section rest head (Err fault) = Err fault
interface_by section rest head (Ok resolution) =
    let link = ordered_number head.order 2 (drop 8 rest) in
    Ok (record {
      section = record { order = section.order; interfaces = section.interfaces ++ ((record { link = link; resolution = resolution }) ∷ []) };
      frame = None;
      size = head.total;
    })

-- its options stand from octet 16 to the trailer
abbrev pub interface_block : Section → ℕ → List ℕ → BlockHead → Result NgBlock NgFault
interface_block section at rest head = interface_by section rest head (resolution_at head.order None (at + 16) (head.total - 20) (drop 16 rest))

-- a packet: its octets stand from octet 28 on
abbrev pub packet_block : Section → List ℕ → BlockHead → Result PacketHead NgFault → Result NgBlock NgFault
packet_block section rest head (Err fault) = Err fault
packet_block section rest head (Ok packet) =
    Ok (record { section = section; frame = Some (record { head = packet.head; octets = take packet.captured (drop 28 rest) }); size = head.total })

-- a whole block, by its type: 0x0A0D0D0A section header, 1 interface description, 6 enhanced packet; 2 and 3 (the obsolete and
-- the simple packet block) are refused, and all others (name resolution, statistics, custom blocks) are passed over
abbrev pub said_by : Section → ℕ → List ℕ → BlockHead → Result NgBlock NgFault
said_by section at rest head =
    if head.kind == 0x0A0D0D0A then section_block at rest head
    else (if head.kind == 1 then interface_block section at rest head
    else (if head.kind == 6 then packet_block section rest head (packet_at section head.order head.total at rest)
    else (if head.kind == 2 || head.kind == 3 then Err (record { octet = at; kind = Block })
    else Ok (record { section = section; frame = None; size = head.total }))))

abbrev pub some_block : Result NgBlock NgFault → Result (Option NgBlock) NgFault
some_block (Err fault) = Err fault
some_block (Ok block) = Ok (Some block)

abbrev pub behind_whole : Section → ℕ → List ℕ → Result BlockHead NgFault → Result (Option NgBlock) NgFault
behind_whole section at rest (Err fault) = Err fault
behind_whole section at rest (Ok head) = some_block (said_by section at rest head)

abbrev pub behind_block_head : Section → ℕ → List ℕ → Result (Option BlockHead) NgFault → Result (Option NgBlock) NgFault
behind_block_head section at rest (Err fault) = Err fault
behind_block_head section at rest (Ok None) = Ok None
behind_block_head section at rest (Ok (Some head)) = behind_whole section at rest (whole_at at rest head)

-- The block at the octet `at` of a file, from which `rest` is left, in this section; none where nothing is left; or its first fault.
abbrev pub block_at : Section → ℕ → List ℕ → Result (Option NgBlock) NgFault
block_at section at rest = behind_block_head section at rest (block_head_at section.order at rest)
