-- What a whole block says it says in a longer file too.
use Rattle.std.proofs.Common.{arith, ◌≡◌, ◌≤◌, ◌+◌, ◌-◌, ℕ, zero, suc, List, [], ◌∷◌, ◌++◌, length, take, drop, Result, Ok, Err, Option, Some, None, refl, ap, sym, inl, inr, ◌∙◌}
use Rattle.std.specs.List.{slice_get}
use Rattle.std.proofs.lemmas.Bool.{cases_lt}
use Rattle.std.proofs.lemmas.Bool.Decides.{nat_tests}
use Rattle.std.proofs.lemmas.List.{length-drop, length-append, drop-append-le, take-append-le}
use Rattle.std.specs.Option.{option_or}
use Rattle.net_io.specs.declared.file_window.order.OctetOrder.{OctetOrder}
use Rattle.net_io.specs.file_window.Numbers.{ordered_number}
use Rattle.net_io.proofs.file_window.Law.{a_window_has_no_more_than_the_rest, a_number_behind_reads_its_own_octets as number_behind}
use Rattle.pcapng_frames.specs.declared.interface.Interface.{Interface}
use Rattle.pcapng_frames.specs.declared.head.BlockHead.{BlockHead}
use Rattle.pcapng_frames.specs.declared.packet.PacketHead.{PacketHead}
use Rattle.pcapng_frames.specs.declared.fault.NgFault.{NgFault}
use Rattle.pcapng_frames.specs.Section.{Section, no_section}
use Rattle.pcapng_frames.specs.Head.{least_total, head_by, block_order, block_head_at, whole_at}
use Rattle.pcapng_frames.specs.Options.{option_at, behind_option, resolution_within, resolution_at}
use Rattle.pcapng_frames.specs.Packet.{packet_by, packet_at}
use Rattle.pcapng_frames.specs.Block.{NgBlock, section_block, interface_by, interface_block, packet_block, said_by, behind_whole, behind_block_head, block_at}
use Rattle.pcapng_frames.specs.Reader.{NgReader, AreBlocks, NgStandsIn}
use Rattle.pcapng_frames.proofs.Windows.{block_head_longer}
use Rattle.pcapng_frames.proofs.Wholes.{whole_there}
use Rattle.pcapng_frames.proofs.Chains.{head_some, whole_same, whole_size}
use Rattle.pcapng_frames.proofs.OptionLists.{option_longer, option_within, none_left, behind_same}
use Rattle.pcapng_frames.proofs.Packets.{packet_longer}

option_here_longer : (order : OctetOrder) (at left : ℕ) (rest more : List ℕ) → left + 4 ≤ length rest → option_at order at left (rest ++ more) ≡ option_at order at left rest
option_here_longer order at left rest more le =
    elim (cases_lt left 4) [
      | inl lt ↦ none_left order at left (rest ++ more) lt ∙ sym (none_left order at left rest lt)
      | inr ge ↦ option_longer order at left rest more (omega arith)
    ]

options_longer : (n : ℕ) (order : OctetOrder) (told : Option ℕ) (at left : ℕ) (rest more : List ℕ) → left + 4 ≤ length rest
    → resolution_within n order told at left (rest ++ more) ≡ resolution_within n order told at left rest
unfolding resolution_within
options_longer zero order told at left rest more le = refl
options_longer (suc n) order told at left rest more le =
    ap (behind_option (λ told size. resolution_within n order told (at + size) (left - size) (drop size (rest ++ more))) told) (option_here_longer order at left rest more le)
    ∙ behind_same (λ told size. resolution_within n order told (at + size) (left - size) (drop size (rest ++ more))) (λ told size. resolution_within n order told (at + size) (left - size) (drop size rest))
    told (option_at order at left rest)
    (λ option here. let within = option_within order at left rest option here in
    ap (resolution_within n order (option_or told option.resolution) (at + option.size) (left - option.size)) (drop-append-le option.size rest more (omega arith))
    ∙ options_longer n order (option_or told option.resolution) (at + option.size) (left - option.size) (drop option.size rest) more (omega (arith, within, le, length-drop option.size rest)))

resolution_longer : (order : OctetOrder) (told : Option ℕ) (at left : ℕ) (rest more : List ℕ) → left + 4 ≤ length rest → resolution_at order told at left (rest ++ more) ≡ resolution_at order told at left rest
unfolding resolution_at
resolution_longer order told at left rest more le = options_longer left order told at left rest more le

section_longer : (at : ℕ) (rest more : List ℕ) (head : BlockHead) → 14 ≤ length rest → section_block at (rest ++ more) head ≡ section_block at rest head
section_longer at rest more head le = let version = number_behind head.order 2 12 rest more (omega arith) in rw version refl

interface_longer : (section : Section) (at : ℕ) (rest more : List ℕ) (head : BlockHead) → 20 ≤ head.total → head.total ≤ length rest → interface_block section at (rest ++ more) head ≡ interface_block section at rest head
interface_longer section at rest more head least le =
    let options : resolution_at head.order None (at + 16) (head.total - 20) (drop 16 (rest ++ more)) ≡ resolution_at head.order None (at + 16) (head.total - 20) (drop 16 rest) =
    ap (resolution_at head.order None (at + 16) (head.total - 20)) (drop-append-le 16 rest more (omega arith))
    ∙ resolution_longer head.order None (at + 16) (head.total - 20) (drop 16 rest) more (omega (arith, least, le, length-drop 16 rest)) in
    ap (interface_by section (rest ++ more) head) options ∙ by_link (resolution_at head.order None (at + 16) (head.total - 20) (drop 16 rest)) where
      by_link : (said : Result ℕ NgFault) → interface_by section (rest ++ more) head said ≡ interface_by section rest head said
      by_link (Err fault) = refl
      by_link (Ok resolution) = let link = number_behind head.order 2 8 rest more (omega arith) in rw link refl

packet_by_fits : (order : OctetOrder) (total at : ℕ) (rest : List ℕ) (interface : Option Interface) (packet : PacketHead) → packet_by order total at rest interface ≡ Ok packet → 32 + packet.captured ≤ total
packet_by_fits order total at rest None packet is = cc
packet_by_fits order total at rest (Some interface) packet is = grind (arith, nat_tests)

packet_fits : (section : Section) (order : OctetOrder) (total at : ℕ) (rest : List ℕ) (packet : PacketHead) → packet_at section order total at rest ≡ Ok packet → 32 + packet.captured ≤ total
unfolding packet_at
packet_fits section order total at rest packet is = packet_by_fits order total at rest (slice_get section.interfaces (ordered_number order 4 (drop 8 rest))) packet is

packet_block_longer : (section : Section) (at : ℕ) (rest more : List ℕ) (head : BlockHead) (said : Result PacketHead NgFault) → head.total ≤ length rest
    → ((packet : PacketHead) → said ≡ Ok packet → 32 + packet.captured ≤ head.total) → packet_block section (rest ++ more) head said ≡ packet_block section rest head said
packet_block_longer section at rest more head (Err fault) le fits = refl
packet_block_longer section at rest more head (Ok packet) le fits =
    let fit = fits packet refl in
    let same : take packet.captured (drop 28 (rest ++ more)) ≡ take packet.captured (drop 28 rest) =
    ap (take packet.captured) (drop-append-le 28 rest more (omega arith)) ∙ take-append-le packet.captured (drop 28 rest) more (omega (arith, fit, le, length-drop 28 rest)) in
    rw same refl

packets_longer : (section : Section) (at : ℕ) (rest more : List ℕ) (head : BlockHead) → 32 ≤ head.total → head.total ≤ length rest
    → packet_block section (rest ++ more) head (packet_at section head.order head.total at (rest ++ more)) ≡ packet_block section rest head (packet_at section head.order head.total at rest)
packets_longer section at rest more head least le =
    ap (packet_block section (rest ++ more) head) (packet_longer section head.order head.total at rest more (omega arith))
    ∙ packet_block_longer section at rest more head (packet_at section head.order head.total at rest) le (packet_fits section head.order head.total at rest)

said_longer : (section : Section) (at : ℕ) (rest more : List ℕ) (head : BlockHead) → least_total head.kind ≤ head.total → head.total ≤ length rest → said_by section at (rest ++ more) head ≡ said_by section at rest head
said_longer section at rest more head least le =
    let one = section_longer at rest more head in
    let two = interface_longer section at rest more head in
    let three = packets_longer section at rest more head in
    grind (arith, nat_tests, one, two, three)

whole_longer : (at : ℕ) (rest more : List ℕ) (head other : BlockHead) → 12 ≤ head.total → whole_at at rest head ≡ Ok other → (whole_at at (rest ++ more) head ≡ Ok other)
unfolding whole_at
whole_longer at rest more head other least is =
    elim (cases_lt (length rest) head.total) [
      | inl lt ↦ grind (arith, nat_tests)
      | inr ge ↦ (let last = number_behind head.order 4 (head.total - 4) rest more (omega arith) in let count = length-append rest more in rw last (grind (arith, nat_tests)))
    ]

head_by_least : (at : ℕ) (rest : List ℕ) (order : Option OctetOrder) (head : BlockHead) → head_by at rest order ≡ Ok (Some head) → least_total head.kind ≤ head.total
head_by_least at rest None head is = cc
head_by_least at rest (Some order) head is = grind (arith, nat_tests)

pub head_least : (order : OctetOrder) (at : ℕ) (rest : List ℕ) (head : BlockHead) → block_head_at order at rest ≡ Ok (Some head) → least_total head.kind ≤ head.total
unfolding block_head_at
head_least order at rest head is = let by = head_by_least at rest (block_order order rest) head in grind (arith, nat_tests)

head_there : (order : OctetOrder) (at : ℕ) (rest : List ℕ) (head : BlockHead) → block_head_at order at rest ≡ Ok (Some head) → 12 ≤ length rest
unfolding block_head_at
head_there order at rest head is = grind (arith, nat_tests)

whole_block_longer : (section : Section) (at : ℕ) (rest more : List ℕ) (head : BlockHead) (said : Result BlockHead NgFault) (block : NgBlock) → least_total head.kind ≤ head.total → 12 ≤ head.total → whole_at at rest head ≡ said
    → behind_whole section at rest said ≡ Ok (Some block) → behind_whole section at (rest ++ more) (whole_at at (rest ++ more) head) ≡ Ok (Some block)
whole_block_longer section at rest more head (Err fault) block least some was is = cc
whole_block_longer section at rest more head (Ok other) block least some was is =
    let same : other ≡ head = whole_same at rest head other was in
    let le : head.total ≤ length rest = whole_there at rest head (was ∙ ap Ok same) in
    let longer : whole_at at (rest ++ more) head ≡ Ok head = whole_longer at rest more head other some was ∙ ap Ok same in
    let here : behind_whole section at rest (Ok head) ≡ Ok (Some block) = ap (λ (h : BlockHead). behind_whole section at rest (Ok h)) (sym same) ∙ is in
    let says = said_longer section at rest more head least le in
    ap (behind_whole section at (rest ++ more)) longer ∙ rw says here

head_block_longer : (section : Section) (at : ℕ) (rest more : List ℕ) (said : Result (Option BlockHead) NgFault) (block : NgBlock) → block_head_at section.order at rest ≡ said
    → behind_block_head section at rest said ≡ Ok (Some block) → block_at section at (rest ++ more) ≡ Ok (Some block)
head_block_longer section at rest more (Err fault) block was is = cc
head_block_longer section at rest more (Ok None) block was is = cc
head_block_longer section at rest more (Ok (Some head)) block was is =
    ap (behind_block_head section at (rest ++ more)) (block_head_longer section.order at rest more (head_there section.order at rest head was) ∙ was)
    ∙ whole_block_longer section at rest more head (whole_at at rest head) block (head_least section.order at rest head was) (head_some section.order at rest head was) refl is

-- a block is the same in a longer file
pub block_longer : (section : Section) (at : ℕ) (rest more : List ℕ) (block : NgBlock) → block_at section at rest ≡ Ok (Some block) → block_at section at (rest ++ more) ≡ Ok (Some block)
block_longer section at rest more block is = head_block_longer section at rest more (block_head_at section.order at rest) block refl is

-- a block is within its file
fits_by_whole : (section : Section) (at : ℕ) (rest : List ℕ) (head : BlockHead) (said : Result BlockHead NgFault) (block : NgBlock) → whole_at at rest head ≡ said
    → behind_whole section at rest said ≡ Ok (Some block) → block.size ≤ length rest
fits_by_whole section at rest head (Err fault) block was is = cc
fits_by_whole section at rest head (Ok other) block was is =
    let same = whole_same at rest head other was in
    let le : head.total ≤ length rest = whole_there at rest head (was ∙ ap Ok same) in
    let size = whole_size section at rest head (Ok other) block was is in
    omega (arith, le, size)

fits_by_head : (section : Section) (at : ℕ) (rest : List ℕ) (said : Result (Option BlockHead) NgFault) (block : NgBlock) → behind_block_head section at rest said ≡ Ok (Some block) → block.size ≤ length rest
fits_by_head section at rest (Err fault) block is = cc
fits_by_head section at rest (Ok None) block is = cc
fits_by_head section at rest (Ok (Some head)) block is = fits_by_whole section at rest head (whole_at at rest head) block refl is

pub block_fits : (section : Section) (at : ℕ) (rest : List ℕ) (block : NgBlock) → block_at section at rest ≡ Ok (Some block) → block.size ≤ length rest
block_fits section at rest block is = fits_by_head section at rest (block_head_at section.order at rest) block is

blocks_longer : (file more : List ℕ) (before : Section) (from : ℕ) (blocks : List NgBlock) (after : Section) (to : ℕ) → from ≤ length file → AreBlocks file before from blocks after to
    → AreBlocks (file ++ more) before from blocks after to
blocks_longer file more before from [] after to le are = are
blocks_longer file more before from (block ∷ blocks) after to le are =
    let fits = block_fits before from (drop from file) block are.0 in
    let left = length-drop from file in (
      ap (block_at before from) (drop-append-le from file more le) ∙ block_longer before from (drop from file) more block are.0,
      blocks_longer file more block.section (from + block.size) blocks after to (omega arith) are.1,
    )

place_within : (file : List ℕ) (before : Section) (from : ℕ) (blocks : List NgBlock) (after : Section) (to : ℕ) → AreBlocks file before from blocks after to → from ≤ length file → to ≤ length file
place_within file before from [] after to are le = omega (arith, are.1)
place_within file before from (block ∷ blocks) after to are le =
    let fits = block_fits before from (drop from file) block are.0 in
    let left = length-drop from file in
    place_within file block.section (from + block.size) blocks after to are.1 (omega arith)

-- a reader that stands in a file stands in a longer one
pub stands_longer : (reader : NgReader) (file more : List ℕ) → NgStandsIn reader file → NgStandsIn reader (file ++ more)
stands_longer reader file more stands =
    let place = place_within file no_section 0 stands.chain.blocks reader.section reader.place stands.chain.whole (omega arith) in
    record {
      chain = record { blocks = stands.chain.blocks; whole = blocks_longer file more no_section 0 stands.chain.blocks reader.section reader.place (omega arith) stands.chain.whole };
      ahead = ap (take (length reader.ahead)) (drop-append-le reader.place file more place)
          ∙ take-append-le (length reader.ahead) (drop reader.place file) more (a_window_has_no_more_than_the_rest file reader.place reader.ahead stands.ahead)
          ∙ stands.ahead;
    }
