-- Blocks one behind another: as many steps as there are octets are enough.
use Rattle.std.proofs.Common.{arith, ◌≡◌, ◌≤◌, ◌+◌, ◌-◌, ℕ, zero, suc, List, [], ◌∷◌, ◌++◌, length, drop, Result, Ok, Err, Option, Some, None, refl, ap, sym, subst, ◌∙◌}
use Rattle.std.proofs.lemmas.Bool.Decides.{nat_tests}
use Rattle.std.proofs.lemmas.List.{length-drop, drop-drop, nil_from_length}
use Rattle.pcapng_frames.specs.declared.head.BlockHead.{BlockHead}
use Rattle.pcapng_frames.specs.declared.packet.NgHead.{NgHead}
use Rattle.pcapng_frames.specs.declared.packet.PacketHead.{PacketHead}
use Rattle.net_io.specs.declared.file_window.order.OctetOrder.{OctetOrder}
use Rattle.pcapng_frames.specs.declared.fault.NgFault.{NgFault}
use Rattle.pcapng_frames.specs.Section.{Section}
use Rattle.pcapng_frames.specs.Head.{head_by, block_order, block_head_at, whole_at}
use Rattle.pcapng_frames.specs.Options.{resolution_at}
use Rattle.pcapng_frames.specs.Packet.{packet_at}
use Rattle.pcapng_frames.specs.Block.{NgFrame, NgBlock, section_block, interface_by, packet_block, said_by, behind_whole, behind_block_head, block_at}
use Rattle.pcapng_frames.specs.Reader.{AreBlocks, NgChain, NgFound, found_by, find_on, next_within, next_at, found_here}
use Rattle.pcapng_frames.specs.inside.Parts.{passed_block, frame_block}

-- at the file's end there is none
pub none_at_end : (section : Section) (at : ℕ) → block_at section at [] ≡ Ok None
unfolding block_head_at
none_at_end section at = refl

-- a block has some octets

head_by_some : (at : ℕ) (rest : List ℕ) (order : Option OctetOrder) (head : BlockHead) → head_by at rest order ≡ Ok (Some head) → 12 ≤ head.total
head_by_some at rest None head is = cc
head_by_some at rest (Some order) head is = grind (arith, nat_tests)

pub head_some : (order : OctetOrder) (at : ℕ) (rest : List ℕ) (head : BlockHead) → block_head_at order at rest ≡ Ok (Some head) → 12 ≤ head.total
unfolding block_head_at
head_some order at rest head is = grind (arith, nat_tests, head_by_some at rest (block_order order rest) head)

section_size : (at : ℕ) (rest : List ℕ) (head : BlockHead) (block : NgBlock) → section_block at rest head ≡ Ok block → block.size ≡ head.total
section_size at rest head block is = grind (arith, nat_tests)

interface_size : (section : Section) (rest : List ℕ) (head : BlockHead) (said : Result ℕ NgFault) (block : NgBlock) → interface_by section rest head said ≡ Ok block → block.size ≡ head.total
interface_size section rest head (Err fault) block is = cc
interface_size section rest head (Ok resolution) block is = grind (arith, nat_tests)

packet_size : (section : Section) (rest : List ℕ) (head : BlockHead) (said : Result PacketHead NgFault) (block : NgBlock) → packet_block section rest head said ≡ Ok block → block.size ≡ head.total
packet_size section rest head (Err fault) block is = cc
packet_size section rest head (Ok packet) block is = grind (arith, nat_tests)

said_size : (section : Section) (at : ℕ) (rest : List ℕ) (head : BlockHead) (block : NgBlock) → said_by section at rest head ≡ Ok block → block.size ≡ head.total
said_size section at rest head block is =
    let one = section_size at rest head block in
    let two = interface_size section rest head (resolution_at head.order None (at + 16) (head.total - 20) (drop 16 rest)) block in
    let three = packet_size section rest head (packet_at section head.order head.total at rest) block in
    grind (arith, nat_tests, one, two, three)

pub whole_same : (at : ℕ) (rest : List ℕ) (head other : BlockHead) → whole_at at rest head ≡ Ok other → other ≡ head
unfolding whole_at
whole_same at rest head other is = grind (arith, nat_tests)

some_size : (section : Section) (at : ℕ) (rest : List ℕ) (head : BlockHead) (said : Result NgBlock NgFault) (block : NgBlock) → said_by section at rest head ≡ said
    → behind_whole section at rest (Ok head) ≡ Ok (Some block) → block.size ≡ head.total
some_size section at rest head (Err fault) block was is = (let no = rw was at is in cc)
some_size section at rest head (Ok given) block was is = said_size section at rest head block (let so = rw was at is in let same : given ≡ block = cc in was ∙ ap Ok same)

pub whole_size : (section : Section) (at : ℕ) (rest : List ℕ) (head : BlockHead) (said : Result BlockHead NgFault) (block : NgBlock) → whole_at at rest head ≡ said
    → behind_whole section at rest said ≡ Ok (Some block) → block.size ≡ head.total
whole_size section at rest head (Err fault) block was is = cc
whole_size section at rest head (Ok other) block was is =
    some_size section at rest other (said_by section at rest other) block refl is ∙ ap (λ (h : BlockHead). h.total) (whole_same at rest head other was)

head_size : (section : Section) (at : ℕ) (rest : List ℕ) (said : Result (Option BlockHead) NgFault) (block : NgBlock) → block_head_at section.order at rest ≡ said
    → behind_block_head section at rest said ≡ Ok (Some block) → 12 ≤ block.size
head_size section at rest (Err fault) block was is = cc
head_size section at rest (Ok None) block was is = cc
head_size section at rest (Ok (Some head)) block was is =
    let some = head_some section.order at rest head was in
    let same = whole_size section at rest head (whole_at at rest head) block refl is in
    omega (arith, some, same)

pub block_some : (section : Section) (at : ℕ) (rest : List ℕ) (block : NgBlock) → block_at section at rest ≡ Ok (Some block) → 12 ≤ block.size
block_some section at rest block is = head_size section at rest (block_head_at section.order at rest) block refl is

-- two ways to find on that agree behind a block
find_same : (more other : Section → ℕ → List ℕ → Result (Option NgFound) NgFault) (at : ℕ) (rest : List ℕ) (here : Result (Option NgBlock) NgFault)
    → ((block : NgBlock) → here ≡ Ok (Some block) → more block.section (at + block.size) (drop block.size rest) ≡ other block.section (at + block.size) (drop block.size rest))
    → find_on more at rest here ≡ find_on other at rest here
find_same more other at rest (Err fault) same = refl
find_same more other at rest (Ok None) same = refl
find_same more other at rest (Ok (Some block)) same = found_same block.frame where
  found_same : (frame : Option NgFrame) → found_by more block at rest frame ≡ found_by other block at rest frame
  found_same None = same block refl
  found_same (Some frame) = refl

ends_at_once : (more : Section → ℕ → List ℕ → Result (Option NgFound) NgFault) (section : Section) (at : ℕ) (rest : List ℕ) → length rest ≤ 0 → find_on more at rest (block_at section at rest) ≡ Ok None
ends_at_once more section at rest le =
    let empty : rest ≡ [] = nil_from_length rest (omega arith) in
    ap (λ s. find_on more at s (block_at section at s)) empty ∙ ap (find_on more at []) (none_at_end section at)

enough : (m n : ℕ) (section : Section) (at : ℕ) (rest : List ℕ) → length rest ≤ m → length rest ≤ n → next_within m section at rest ≡ next_within n section at rest
unfolding next_within
enough zero zero section at rest le le' = refl
enough zero (suc n) section at rest le le' = sym (ends_at_once (next_within n) section at rest le)
enough (suc m) zero section at rest le le' = ends_at_once (next_within m) section at rest le'
enough (suc m) (suc n) section at rest le le' =
    find_same (next_within m) (next_within n) at rest (block_at section at rest)
    (λ block here. let some = block_some section at rest block here in
    let count = length-drop block.size rest in
    enough m n block.section (at + block.size) (drop block.size rest) (omega arith) (omega arith))

-- what is found next is what the first block gives, or what is found behind it
pub next_and_more : (section : Section) (at : ℕ) (rest : List ℕ) → next_at section at rest ≡ find_on next_at at rest (block_at section at rest)
unfolding next_at next_within
next_and_more section at rest =
    enough (length rest) (suc (length rest)) section at rest (omega arith) (omega arith)
    ∙ find_same (next_within (length rest)) next_at at rest (block_at section at rest)
    (λ block here. let some = block_some section at rest block here in
    let count = length-drop block.size rest in
    enough (length rest) (length (drop block.size rest)) block.section (at + block.size) (drop block.size rest) (omega arith) (omega arith))

pub next_fault : (section : Section) (at : ℕ) (rest : List ℕ) (fault : NgFault) → block_at section at rest ≡ Err fault → next_at section at rest ≡ Err fault
next_fault section at rest fault is = next_and_more section at rest ∙ ap (find_on next_at at rest) is

pub next_end : (section : Section) (at : ℕ) (rest : List ℕ) → block_at section at rest ≡ Ok None → next_at section at rest ≡ Ok None
next_end section at rest is = next_and_more section at rest ∙ ap (find_on next_at at rest) is

-- a block that is passed over
pub next_passed : (section after : Section) (file : List ℕ) (from to : ℕ) → from ≤ to → block_at section from (drop from file) ≡ Ok (Some (passed_block after (to - from)))
    → next_at section from (drop from file) ≡ next_at after to (drop to file)
next_passed section after file from to le is =
    let there : from + (to - from) ≡ to = omega arith in
    next_and_more section from (drop from file)
    ∙ ap (find_on next_at from (drop from file)) is
    ∙ ap (next_at after (from + (to - from))) (drop-drop (to - from) from file)
    ∙ ap (λ k. next_at after k (drop k file)) there

-- a packet
pub next_found : (section after : Section) (file : List ℕ) (from to : ℕ) (head : NgHead) (octets : List ℕ) → from ≤ to
    → block_at section from (drop from file) ≡ Ok (Some (frame_block after (to - from) head octets))
    → next_at section from (drop from file) ≡ Ok (Some (found_here after to octets head))
next_found section after file from to head octets le is =
    let there : from + (to - from) ≡ to = omega arith in
    next_and_more section from (drop from file)
    ∙ ap (find_on next_at from (drop from file)) is
    ∙ ap (λ k. Ok (Some (found_here after k octets head))) there

-- one block more
one_more : (file : List ℕ) (before : Section) (from : ℕ) (blocks : List NgBlock) (middle : Section) (at : ℕ) (block : NgBlock) → AreBlocks file before from blocks middle at
    → block_at middle at (drop at file) ≡ Ok (Some block) → AreBlocks file before from (blocks ++ block ∷ []) block.section (at + block.size)
one_more file before from [] middle at block are here =
    (ap (λ (s : Section). block_at s from (drop from file)) are.0 ∙ ap (λ k. block_at middle k (drop k file)) are.1 ∙ here, (refl, ap (λ k. k + block.size) are.1))
one_more file before from (first ∷ blocks) middle at block are here = (are.0, one_more file first.section (from + first.size) blocks middle at block are.1 here)

pub chain_more : (file : List ℕ) (before : Section) (from : ℕ) (middle : Section) (at : ℕ) (after : Section) (to : ℕ) (frame : Option NgFrame) → NgChain file before from middle at → at ≤ to
    → block_at middle at (drop at file) ≡ Ok (Some (record { section = after; frame = frame; size = to - at })) → NgChain file before from after to
chain_more file before from middle at after to frame chain le here =
    let there : at + (to - at) ≡ to = omega arith in
    record {
      blocks = chain.blocks ++ (record { section = after; frame = frame; size = to - at }) ∷ [];
      whole = subst (AreBlocks file before from (chain.blocks ++ (record { section = after; frame = frame; size = to - at }) ∷ []) after) there
          (one_more file before from chain.blocks middle at (record { section = after; frame = frame; size = to - at }) chain.whole here);
    }

pub chain_same : (file : List ℕ) (before : Section) (from : ℕ) (middle : Section) (at : ℕ) (after : Section) (to : ℕ) → NgChain file before from middle at → after ≡ middle → to ≡ at → NgChain file before from after to
chain_same file before from middle at after to chain one two =
    subst (λ (s : Section). NgChain file before from s to) (sym one) (subst (λ k. NgChain file before from middle k) (sym two) chain)

pub no_blocks : (file : List ℕ) (before : Section) (from : ℕ) → NgChain file before from before from
no_blocks file before from = record { blocks = []; whole = (refl, refl) }
