-- What each block has: a type, its total length, a body, and the total length again (the pcapng file format, "General Block Structure").
use Rattle.std.specs.Prelude.{ℕ, ◌+◌, ◌-◌, ◌%◌, ◌^◌, Bool, not, ◌&&◌, ◌==◌, nat_lt, nat_le, if◌then◌else◌, List, length, drop, Option, Some, None, Result, Ok, Err}
use Rattle.net_io.specs.declared.file_window.order.OctetOrder.{OctetOrder}
use Rattle.net_io.specs.declared.file_window.order.OctetOrder.TheVariants.{Little, Big}
use Rattle.net_io.specs.file_window.Numbers.{ordered_number}
use Rattle.pcapng_frames.specs.declared.head.BlockHead.{BlockHead}
use Rattle.pcapng_frames.specs.declared.fault.NgFault.{NgFault}
use Rattle.pcapng_frames.specs.declared.fault.NgKind.TheVariants.{Short, Long, Magic, BlockLength, Trailer}

-- the type of a section header reads the same in both orders
abbrev pub is_section_header : List ℕ → Bool
is_section_header rest = ordered_number Little 4 rest == 0x0A0D0D0A

-- the order that the magic of a section header names, at its octet 8
unfoldable pub section_order : List ℕ → Option OctetOrder
section_order rest =
    if ordered_number Little 4 (drop 8 rest) == 0x1A2B3C4D then Some Little
    else (if ordered_number Big 4 (drop 8 rest) == 0x1A2B3C4D then Some Big else None)

-- the order of a block's numbers: a section header names its own, other blocks have that of their section
abbrev pub block_order : OctetOrder → List ℕ → Option OctetOrder
block_order order rest = if is_section_header rest then section_order rest else Some order

-- the least total length of a block: section headers have 28 octets, interfaces 20, enhanced packets 32, others 12
abbrev pub least_total : ℕ → ℕ
least_total kind = if kind == 0x0A0D0D0A then 28 else (if kind == 1 then 20 else (if kind == 6 then 32 else 12))

abbrev pub is_total : ℕ → ℕ → Bool
is_total kind total = total % 4 == 0 && nat_le (least_total kind) total

-- type and total length of the block at the octet `at`, in its order
abbrev pub head_by : ℕ → List ℕ → Option OctetOrder → Result (Option BlockHead) NgFault
head_by at rest None = Err (record { octet = at + 8; kind = Magic })
head_by at rest (Some order) =
    let kind = ordered_number order 4 rest in
    let total = ordered_number order 4 (drop 4 rest) in
    if not (is_total kind total) then Err (record { octet = at + 4; kind = BlockLength })
    else Ok (Some (record { order = order; kind = kind; total = total }))

-- Where `rest` is left of a file from the octet `at` on, in a section of this order: the head of the block there; none at the file's end; or its first fault.
unfoldable pub block_head_at : OctetOrder → ℕ → List ℕ → Result (Option BlockHead) NgFault
block_head_at order at rest =
    if length rest == 0 then Ok None
    else (if nat_lt (length rest) 12 then Err (record { octet = at + length rest; kind = Short })
    else (if nat_le (2 ^ 40) at then Err (record { octet = at; kind = Long })
    else head_by at rest (block_order order rest)))

-- the file has the whole block, and its trailer repeats the total length
unfoldable pub whole_at : ℕ → List ℕ → BlockHead → Result BlockHead NgFault
whole_at at rest head =
    if nat_lt (length rest) head.total then Err (record { octet = at + length rest; kind = Short })
    else (if not (ordered_number head.order 4 (drop (head.total - 4) rest) == head.total) then Err (record { octet = at + (head.total - 4); kind = Trailer })
    else Ok head)
