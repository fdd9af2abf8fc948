-- Faults stand within the file.
use Rattle.std.proofs.Common.{arith, ◌≡◌, ◌≤◌, ◌+◌, ◌-◌, ℕ, zero, suc, List, length, drop, Result, Ok, Err, Option, Some, None, refl, ap, sym, ◌∙◌}
use Rattle.std.specs.List.{slice_get}
use Rattle.std.proofs.lemmas.Bool.Decides.{nat_tests}
use Rattle.std.proofs.lemmas.List.{length-drop}
use Rattle.std.specs.Option.{option_or}
use Rattle.net_io.specs.declared.file_window.order.OctetOrder.{OctetOrder}
use Rattle.net_io.specs.file_window.Numbers.{ordered_number}
use Rattle.pcapng_frames.specs.declared.interface.Interface.{Interface}
use Rattle.pcapng_frames.specs.declared.head.BlockHead.{BlockHead}
use Rattle.pcapng_frames.specs.declared.options.BlockOption.{BlockOption}
use Rattle.pcapng_frames.specs.declared.packet.PacketHead.{PacketHead}
use Rattle.pcapng_frames.specs.declared.fault.NgFault.{NgFault}
use Rattle.pcapng_frames.specs.Section.{Section, no_section}
use Rattle.pcapng_frames.specs.Head.{least_total, head_by, block_order, block_head_at, whole_at}
use Rattle.pcapng_frames.specs.Options.{option_at, behind_option, resolution_within, resolution_at}
use Rattle.pcapng_frames.specs.Packet.{packet_by, packet_at}
use Rattle.pcapng_frames.specs.Block.{NgFrame, NgBlock, section_block, interface_by, interface_block, packet_block, said_by, some_block, behind_whole, behind_block_head, block_at}
use Rattle.pcapng_frames.specs.Capture.{NgCapture, with_frame, with_block, blocks_within, frames_at, ng_of}
use Rattle.pcapng_frames.proofs.OptionLists.{option_within}
use Rattle.pcapng_frames.proofs.Wholes.{whole_there}
use Rattle.pcapng_frames.proofs.Chains.{whole_same}
use Rattle.pcapng_frames.proofs.Longer.{head_least, block_fits}

head_by_fault : (at : ℕ) (rest : List ℕ) (order : Option OctetOrder) (fault : NgFault) → head_by at rest order ≡ Err fault → fault.octet ≤ at + 8
head_by_fault at rest None fault is = grind (arith, nat_tests)
head_by_fault at rest (Some order) fault is = grind (arith, nat_tests)

head_fault : (order : OctetOrder) (at : ℕ) (rest : List ℕ) (fault : NgFault) → block_head_at order at rest ≡ Err fault → fault.octet ≤ at + length rest
unfolding block_head_at
head_fault order at rest fault is = let by = head_by_fault at rest (block_order order rest) fault in grind (arith, nat_tests)

whole_fault : (at : ℕ) (rest : List ℕ) (head : BlockHead) (fault : NgFault) → whole_at at rest head ≡ Err fault → fault.octet ≤ at + length rest
unfolding whole_at
whole_fault at rest head fault is = grind (arith, nat_tests)

option_fault : (order : OctetOrder) (at left : ℕ) (rest : List ℕ) (fault : NgFault) → option_at order at left rest ≡ Err fault → fault.octet ≡ at
unfolding option_at
option_fault order at left rest fault is = grind (arith, nat_tests)

behind_fault : (more : Option ℕ → ℕ → Result ℕ NgFault) (told : Option ℕ) (here : Result (Option BlockOption) NgFault) (fault : NgFault) (most : ℕ)
    → ((first : NgFault) → here ≡ Err first → first.octet ≤ most)
    → ((option : BlockOption) → here ≡ Ok (Some option) → more (option_or told option.resolution) option.size ≡ Err fault → fault.octet ≤ most)
    → behind_option more told here ≡ Err fault → fault.octet ≤ most
behind_fault more told (Err first) fault most within later is = within fault (let same : first ≡ fault = cc in ap Err same)
behind_fault more told (Ok None) fault most within later is = cc
behind_fault more told (Ok (Some option)) fault most within later is = later option refl is

options_fault : (n : ℕ) (order : OctetOrder) (told : Option ℕ) (at left : ℕ) (rest : List ℕ) (fault : NgFault) → resolution_within n order told at left rest ≡ Err fault → fault.octet ≤ at + left
unfolding resolution_within
options_fault zero order told at left rest fault is = cc
options_fault (suc n) order told at left rest fault is =
    behind_fault (λ told size. resolution_within n order told (at + size) (left - size) (drop size rest)) told (option_at order at left rest) fault (at + left)
    (λ first here. let same = option_fault order at left rest first here in omega (arith, same))
    (λ option here later. let within = option_within order at left rest option here in
    let bound = options_fault n order (option_or told option.resolution) (at + option.size) (left - option.size) (drop option.size rest) fault later in
    omega (arith, within, bound))
    is

section_fault : (at : ℕ) (rest : List ℕ) (head : BlockHead) (fault : NgFault) → section_block at rest head ≡ Err fault → fault.octet ≡ at + 12
section_fault at rest head fault is = grind (arith, nat_tests)

interface_fault : (section : Section) (at : ℕ) (rest : List ℕ) (head : BlockHead) (fault : NgFault) → interface_block section at rest head ≡ Err fault → fault.octet ≤ at + 16 + (head.total - 20)
unfolding resolution_at
interface_fault section at rest head fault is = by_options (resolution_within (head.total - 20) head.order None (at + 16) (head.total - 20) (drop 16 rest)) refl is where
  by_options : (said : Result ℕ NgFault) → resolution_within (head.total - 20) head.order None (at + 16) (head.total - 20) (drop 16 rest) ≡ said → interface_by section rest head said ≡ Err fault → fault.octet ≤ at + 16 + (head.total - 20)
  by_options (Err first) was is = options_fault (head.total - 20) head.order None (at + 16) (head.total - 20) (drop 16 rest) fault (was ∙ (let same : first ≡ fault = cc in ap Err same))
  by_options (Ok resolution) was is = cc

packet_by_fault : (order : OctetOrder) (total at : ℕ) (rest : List ℕ) (interface : Option Interface) (fault : NgFault) → packet_by order total at rest interface ≡ Err fault → fault.octet ≤ at + 20
packet_by_fault order total at rest None fault is = grind (arith, nat_tests)
packet_by_fault order total at rest (Some interface) fault is = grind (arith, nat_tests)

packet_fault : (section : Section) (at : ℕ) (rest : List ℕ) (head : BlockHead) (fault : NgFault) → packet_block section rest head (packet_at section head.order head.total at rest) ≡ Err fault → fault.octet ≤ at + 20
unfolding packet_at
packet_fault section at rest head fault is = by_head (packet_by head.order head.total at rest (slice_get section.interfaces (ordered_number head.order 4 (drop 8 rest)))) refl is where
  by_head : (said : Result PacketHead NgFault) → packet_by head.order head.total at rest (slice_get section.interfaces (ordered_number head.order 4 (drop 8 rest))) ≡ said → packet_block section rest head said ≡ Err fault → fault.octet ≤ at + 20
  by_head (Err first) was is =
      packet_by_fault head.order head.total at rest (slice_get section.interfaces (ordered_number head.order 4 (drop 8 rest))) fault (was ∙ (let same : first ≡ fault = cc in ap Err same))
  by_head (Ok packet) was is = cc

said_fault : (section : Section) (at : ℕ) (rest : List ℕ) (head : BlockHead) (fault : NgFault) → least_total head.kind ≤ head.total → head.total ≤ length rest → said_by section at rest head ≡ Err fault → fault.octet ≤ at + length rest
said_fault section at rest head fault least le is =
    let one = section_fault at rest head fault in
    let two = interface_fault section at rest head fault in
    let three = packet_fault section at rest head fault in
    grind (arith, nat_tests, one, two, three)

some_fault : (said : Result NgBlock NgFault) (fault : NgFault) → some_block said ≡ Err fault → said ≡ Err fault
some_fault (Err first) fault is = (let same : first ≡ fault = cc in ap Err same)
some_fault (Ok block) fault is = cc

fault_by_whole : (section : Section) (at : ℕ) (rest : List ℕ) (head : BlockHead) (said : Result BlockHead NgFault) (fault : NgFault) → least_total head.kind ≤ head.total → whole_at at rest head ≡ said
    → behind_whole section at rest said ≡ Err fault → fault.octet ≤ at + length rest
fault_by_whole section at rest head (Err first) fault least was is = whole_fault at rest head fault (was ∙ (let same : first ≡ fault = cc in ap Err same))
fault_by_whole section at rest head (Ok other) fault least was is =
    let same : other ≡ head = whole_same at rest head other was in
    let le : head.total ≤ length rest = whole_there at rest head (was ∙ ap Ok same) in
    said_fault section at rest head fault least le (ap (said_by section at rest) (sym same) ∙ some_fault (said_by section at rest other) fault is)

fault_by_head : (section : Section) (at : ℕ) (rest : List ℕ) (said : Result (Option BlockHead) NgFault) (fault : NgFault) → block_head_at section.order at rest ≡ said
    → behind_block_head section at rest said ≡ Err fault → fault.octet ≤ at + length rest
fault_by_head section at rest (Err first) fault was is = head_fault section.order at rest fault (was ∙ (let same : first ≡ fault = cc in ap Err same))
fault_by_head section at rest (Ok None) fault was is = cc
fault_by_head section at rest (Ok (Some head)) fault was is = fault_by_whole section at rest head (whole_at at rest head) fault (head_least section.order at rest head was) refl is

pub block_fault : (section : Section) (at : ℕ) (rest : List ℕ) (fault : NgFault) → block_at section at rest ≡ Err fault → fault.octet ≤ at + length rest
block_fault section at rest fault is = fault_by_head section at rest (block_head_at section.order at rest) fault refl is

chain_fault : (more : Section → ℕ → List ℕ → NgCapture) (at : ℕ) (rest : List ℕ) (here : Result (Option NgBlock) NgFault) (fault : NgFault)
    → ((first : NgFault) → here ≡ Err first → first.octet ≤ at + length rest)
    → ((block : NgBlock) → here ≡ Ok (Some block) → (more block.section (at + block.size) (drop block.size rest)).fault ≡ Some fault → fault.octet ≤ at + length rest)
    → (with_block more at rest here).fault ≡ Some fault → fault.octet ≤ at + length rest
chain_fault more at rest (Err first) fault within later is = within fault (let same : first ≡ fault = cc in ap Err same)
chain_fault more at rest (Ok None) fault within later is = cc
chain_fault more at rest (Ok (Some block)) fault within later is = by_frame block.frame is where
  by_frame : (frame : Option NgFrame) → (with_frame frame (more block.section (at + block.size) (drop block.size rest))).fault ≡ Some fault → fault.octet ≤ at + length rest
  by_frame None is = later block refl is
  by_frame (Some frame) is = later block refl is

blocks_fault : (n : ℕ) (section : Section) (at : ℕ) (rest : List ℕ) (fault : NgFault) → (blocks_within n section at rest).fault ≡ Some fault → fault.octet ≤ at + length rest
unfolding blocks_within
blocks_fault zero section at rest fault is = cc
blocks_fault (suc n) section at rest fault is =
    chain_fault (blocks_within n) at rest (block_at section at rest) fault (block_fault section at rest)
    (λ block here later. let fits = block_fits section at rest block here in
    let left = length-drop block.size rest in
    let within = blocks_fault n block.section (at + block.size) (drop block.size rest) fault later in
    omega arith)
    is

pub file_fault : (file : List ℕ) (fault : NgFault) → (ng_of file).fault ≡ Some fault → fault.octet ≤ length file
unfolding frames_at
file_fault file fault is = let within = blocks_fault (length file) no_section 0 file fault is in omega (arith, within)
