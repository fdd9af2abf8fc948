-- A reader stands in its file.
use Rattle.std.proofs.Common.{arith, ◌≡◌, ◌+◌, ◌-◌, ℕ, true, List, [], ◌∷◌, ◌++◌, take, drop, Result, Ok, Err, Option, Some, None, refl, ap, sym, subst, ◌∙◌}
use Rattle.std.proofs.lemmas.Slice.Eq.{bytes_eq-Decides}
use Rattle.std.proofs.lemmas.Bool.Decides.{nat_tests}
use Rattle.std.proofs.lemmas.List.{take-append-drop}
use Rattle.net_io.specs.declared.file_window.order.OctetOrder.{OctetOrder}
use Rattle.net_io.specs.declared.file_window.order.OctetOrder.TheVariants.{Little, Big}
use Rattle.net_io.specs.file_window.Numbers.{ordered_number}
use Rattle.net_io.specs.file_window.Window.{IsFrom}
use Rattle.net_io.proofs.file_window.Law.{a_number_reads_its_own_octets as number_front}
use Rattle.pcapng_frames.specs.declared.head.BlockHead.{BlockHead}
use Rattle.pcapng_frames.specs.declared.blocks.Turn.{Turn}
use Rattle.pcapng_frames.specs.declared.blocks.Turn.TheVariants.{End, Passed, Frame}
use Rattle.pcapng_frames.specs.declared.fault.NgFault.{NgFault}
use Rattle.pcapng_frames.specs.Section.{Section, no_section}
use Rattle.pcapng_frames.specs.Head.{head_by, block_order, block_head_at, whole_at}
use Rattle.pcapng_frames.specs.Block.{NgBlock, said_by, behind_whole, behind_block_head, block_at}
use Rattle.pcapng_frames.specs.Capture.{is_pcapng}
use Rattle.pcapng_frames.specs.Reader.{NgReader, AreBlocks, NgChain, NgStandsIn}
use Rattle.pcapng_frames.specs.inside.Parts.{passed_block, frame_block, turn_block}
use Rattle.pcapng_frames.proofs.Chains.{whole_same, chain_more, no_blocks}

-- blocks behind blocks
join : (file : List ℕ) (a : Section) (x : ℕ) (first : List NgBlock) (b : Section) (y : ℕ) (second : List NgBlock) (c : Section) (z : ℕ) → AreBlocks file a x first b y → AreBlocks file b y second c z
    → AreBlocks file a x (first ++ second) c z
join file a x [] b y second c z one two = subst (λ (s : Section). AreBlocks file s x second c z) (sym one.0) (subst (λ k. AreBlocks file b k second c z) (sym one.1) two)
join file a x (block ∷ first) b y second c z one two = (one.0, join file block.section (x + block.size) first b y second c z one.1 two)

-- a reader that goes on
pub stands_on : (reader : NgReader) (file : List ℕ) (section : Section) (place : ℕ) (ahead : List ℕ) → NgStandsIn reader file → NgChain file reader.section reader.place section place → IsFrom file place ahead
    → NgStandsIn (record { name = reader.name; section = section; place = place; ahead = ahead }) file
stands_on reader file section place ahead stands chain front = record {
  chain = record {
    blocks = stands.chain.blocks ++ chain.blocks;
    whole = join file no_section 0 stands.chain.blocks reader.section reader.place chain.blocks section place stands.chain.whole chain.whole;
  };
  ahead = front;
}

-- a reader that begins
pub begun : (file name : List ℕ) (section : Section) (place : ℕ) (ahead : List ℕ) → block_at no_section 0 file ≡ Ok (Some (passed_block section (place - 0))) → IsFrom file place ahead
    → NgStandsIn (record { name = name; section = section; place = place; ahead = ahead }) file
begun file name section place ahead here front = record { chain = chain_more file no_section 0 no_section 0 section place None (no_blocks file no_section 0) (omega arith) here; ahead = front }

-- the first four octets
front_of : (file : List ℕ) → is_pcapng file ≡ true → take 4 file ≡ 0x0a ∷ 0x0d ∷ 0x0d ∷ 0x0a ∷ []
front_of file is = (bytes_eq-Decides (take 4 file) (0x0a ∷ 0x0d ∷ 0x0d ∷ 0x0a ∷ [])).0 is

-- they are the type of a section header in each order
kind_first : (order : OctetOrder) (file : List ℕ) → is_pcapng file ≡ true → ordered_number order 4 file ≡ 0x0A0D0D0A
unfolding ordered_number
kind_first Little file is =
    ap (ordered_number Little 4) (sym (take-append-drop 4 file) ∙ ap (λ front. front ++ drop 4 file) (front_of file is))
    ∙ number_front Little 4 (0x0a ∷ 0x0d ∷ 0x0d ∷ 0x0a ∷ []) (drop 4 file) (omega arith)
kind_first Big file is =
    ap (ordered_number Big 4) (sym (take-append-drop 4 file) ∙ ap (λ front. front ++ drop 4 file) (front_of file is))
    ∙ number_front Big 4 (0x0a ∷ 0x0d ∷ 0x0d ∷ 0x0a ∷ []) (drop 4 file) (omega arith)

first_by : (file : List ℕ) (at : ℕ) (order : Option OctetOrder) (head : BlockHead) → is_pcapng file ≡ true → head_by at file order ≡ Ok (Some head) → head.kind ≡ 0x0A0D0D0A
first_by file at None head first is = cc
first_by file at (Some order) head first is = let kind = kind_first order file first in grind (arith, nat_tests)

first_head : (order : OctetOrder) (at : ℕ) (file : List ℕ) (head : BlockHead) → is_pcapng file ≡ true → block_head_at order at file ≡ Ok (Some head) → head.kind ≡ 0x0A0D0D0A
unfolding block_head_at
first_head order at file head first is = let by = first_by file at (block_order order file) head first in grind (arith, nat_tests)

not_empty : (order : OctetOrder) (at : ℕ) (file : List ℕ) → is_pcapng file ≡ true → block_head_at order at file ≡ Ok None → ⊥
unfolding block_head_at
not_empty order at [] first is = absurd (let no = first in cc)
not_empty order at (octet ∷ file) first is = not_some (block_order order (octet ∷ file)) (grind (arith, nat_tests)) where
  not_some : (found : Option OctetOrder) → head_by at (octet ∷ file) found ≡ Ok None → ⊥
  not_some None is = cc
  not_some (Some found) is = grind (arith, nat_tests)

section_frame : (section : Section) (at : ℕ) (rest : List ℕ) (head : BlockHead) (block : NgBlock) → head.kind ≡ 0x0A0D0D0A → said_by section at rest head ≡ Ok block → block.frame ≡ None
section_frame section at rest head block kind is = grind (arith, nat_tests)

said_frame : (section : Section) (at : ℕ) (rest : List ℕ) (head : BlockHead) (said : Result NgBlock NgFault) (block : NgBlock) → head.kind ≡ 0x0A0D0D0A → said_by section at rest head ≡ said
    → behind_whole section at rest (Ok head) ≡ Ok (Some block) → block.frame ≡ None
said_frame section at rest head (Err fault) block kind was is = (let no = rw was at is in cc)
said_frame section at rest head (Ok given) block kind was is = section_frame section at rest head block kind (let so = rw was at is in let same : given ≡ block = cc in was ∙ ap Ok same)

whole_frame : (section : Section) (at : ℕ) (rest : List ℕ) (head : BlockHead) (said : Result BlockHead NgFault) (block : NgBlock) → head.kind ≡ 0x0A0D0D0A → whole_at at rest head ≡ said
    → behind_whole section at rest said ≡ Ok (Some block) → block.frame ≡ None
whole_frame section at rest head (Err fault) block kind was is = cc
whole_frame section at rest head (Ok other) block kind was is =
    said_frame section at rest other (said_by section at rest other) block (ap (λ (h : BlockHead). h.kind) (whole_same at rest head other was) ∙ kind) refl is

head_frame : (section : Section) (at : ℕ) (file : List ℕ) (said : Result (Option BlockHead) NgFault) (block : NgBlock) → is_pcapng file ≡ true → block_head_at section.order at file ≡ said
    → behind_block_head section at file said ≡ Ok (Some block) → block.frame ≡ None
head_frame section at file (Err fault) block first was is = cc
head_frame section at file (Ok None) block first was is = cc
head_frame section at file (Ok (Some head)) block first was is = whole_frame section at file head (whole_at at file head) block (first_head section.order at file head first was) refl is

behind_none : (section : Section) (at : ℕ) (rest : List ℕ) (said : Result BlockHead NgFault) → behind_whole section at rest said ≡ Ok None → ⊥
behind_none section at rest (Err fault) is = cc
behind_none section at rest (Ok head) is = said_none (said_by section at rest head) refl where
  said_none : (said : Result NgBlock NgFault) → said_by section at rest head ≡ said → ⊥
  said_none (Err fault) was = (let no = rw was at is in cc)
  said_none (Ok block) was = (let no = rw was at is in cc)

head_none : (section : Section) (at : ℕ) (file : List ℕ) (said : Result (Option BlockHead) NgFault) → is_pcapng file ≡ true → block_head_at section.order at file ≡ said
    → behind_block_head section at file said ≡ Ok None → ⊥
head_none section at file (Err fault) first was is = cc
head_none section at file (Ok None) first was is = not_empty section.order at file first was
head_none section at file (Ok (Some head)) first was is = behind_none section at file (whole_at at file head) is

-- the first block of a pcapng file gives no frame, and isn't the file's end
pub begins_passed : (file : List ℕ) (section : Section) (size : ℕ) (octets : List ℕ) (turn : Turn) → is_pcapng file ≡ true → block_at no_section 0 file ≡ Ok (turn_block section size octets turn) → turn ≡ Passed
begins_passed file section size octets End first is = absurd (head_none no_section 0 file (block_head_at no_section.order 0 file) first refl is)
begins_passed file section size octets Passed first is = refl
begins_passed file section size octets (Frame head) first is =
    (let no = head_frame no_section 0 file (block_head_at no_section.order 0 file) (frame_block section size head octets) first refl is in cc)
