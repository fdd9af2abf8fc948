-- The laws, each under the name of its function.
use Rattle.std.proofs.Common.{arith, ◌≡◌, ◌≤◌, ◌+◌, ◌^◌, ℕ, zero, suc, All, List, [], ◌∷◌, ◌++◌, length, drop, Result, Ok, Err, Option, Some, None, refl, ap, sym, ◌∙◌}
use Rattle.std.proofs.lemmas.List.{length-drop, drop-drop, nil_from_length}
use Rattle.pcapng_frames.specs.declared.fault.NgFault.{NgFault}
use Rattle.pcapng_frames.specs.Section.{Section, no_section}
use Rattle.pcapng_frames.specs.Block.{NgFrame, NgBlock, block_at}
use Rattle.pcapng_frames.specs.Capture.{NgCapture, with_frame, with_block, frames_at, ng_of, IsNg}
use Rattle.pcapng_frames.specs.Written.{IsWritableNg, ng_octets}
use Rattle.pcapng_frames.specs.Reader.{NgReader, begun_block, AreBlocks, NgStandsIn, find_on, found_by, next_at, found_first, in_front}
use Rattle.pcapng_frames.proofs.Bounds.{file_fault}
use Rattle.pcapng_frames.proofs.Longer.{stands_longer}
use Rattle.pcapng_frames.proofs.Goings as going
use Rattle.pcapng_frames.proofs.WriteBack.{file_back}
use Rattle.pcapng_frames.proofs.Chains.{none_at_end, block_some, next_and_more}

pub a_pcapng_file_has_one_reading : (octets : List ℕ) (one other : NgCapture) → IsNg octets one → IsNg octets other → one ≡ other
a_pcapng_file_has_one_reading octets one other first second = sym first.1.0 ∙ second.1.0

pub blocks_come_one_behind_another : (section : Section) (at : ℕ) (rest : List ℕ) → frames_at section at rest ≡ with_block frames_at at rest (block_at section at rest)
blocks_come_one_behind_another = going.blocks_come_one_behind_another

pub the_first_block_gives_no_frame : (reader : NgReader) (file : List ℕ) → block_at no_section 0 file ≡ Ok (begun_block reader)
    → ng_of file ≡ frames_at reader.section reader.place (drop reader.place file)
the_first_block_gives_no_frame reader file is =
    let here : 0 + reader.place ≡ reader.place = omega arith in
    blocks_come_one_behind_another no_section 0 file ∙ ap (with_block frames_at 0 file) is
    ∙ ap (λ at. frames_at reader.section at (drop reader.place file)) here

pub a_fault_of_the_first_block_is_the_files : (file : List ℕ) (fault : NgFault) → block_at no_section 0 file ≡ Err fault → ng_of file ≡ record { frames = []; fault = Some fault }
a_fault_of_the_first_block_is_the_files file fault is = blocks_come_one_behind_another no_section 0 file ∙ ap (with_block frames_at 0 file) is

-- one block of those that lead to the next frame
one_step : (section : Section) (file : List ℕ) (at : ℕ) (here : Result (Option NgBlock) NgFault)
    → ((block : NgBlock) → here ≡ Ok (Some block) → frames_at block.section (at + block.size) (drop (at + block.size) file) ≡ found_first file (next_at block.section (at + block.size) (drop (at + block.size) file)))
    → with_block frames_at at (drop at file) here ≡ found_first file (find_on next_at at (drop at file) here)
one_step section file at (Err fault) later = refl
one_step section file at (Ok None) later = refl
one_step section file at (Ok (Some block)) later = by_frame block.frame where
  moved : drop block.size (drop at file) ≡ drop (at + block.size) file
  moved = drop-drop block.size at file

  by_frame : (frame : Option NgFrame) → with_frame frame (frames_at block.section (at + block.size) (drop block.size (drop at file))) ≡ found_first file (found_by next_at block at (drop at file) frame)
  by_frame None =
      ap (frames_at block.section (at + block.size)) moved ∙ later block refl ∙ ap (λ rest. found_first file (next_at block.section (at + block.size) rest)) (sym moved)
  by_frame (Some frame) = ap (λ rest. with_frame (Some frame) (frames_at block.section (at + block.size) rest)) moved

answers_within : (n : ℕ) (section : Section) (file : List ℕ) (at : ℕ) → length (drop at file) ≤ n → frames_at section at (drop at file) ≡ found_first file (next_at section at (drop at file))
answers_within zero section file at le =
    let empty : drop at file ≡ [] = nil_from_length (drop at file) (omega arith) in
    let none : block_at section at (drop at file) ≡ Ok None = ap (block_at section at) empty ∙ none_at_end section at in
    blocks_come_one_behind_another section at (drop at file) ∙ ap (with_block frames_at at (drop at file)) none
    ∙ ap (found_first file) (sym (next_and_more section at (drop at file) ∙ ap (find_on next_at at (drop at file)) none))
answers_within (suc n) section file at le =
    blocks_come_one_behind_another section at (drop at file)
    ∙ one_step section file at (block_at section at (drop at file))
    (λ block here. let some = block_some section at (drop at file) block here in
    answers_within n block.section file (at + block.size) (omega (arith, some, le, length-drop at file, length-drop (at + block.size) file)))
    ∙ ap (found_first file) (sym (next_and_more section at (drop at file)))

pub answers_come_one_behind_another : (section : Section) (file : List ℕ) (at : ℕ) → frames_at section at (drop at file) ≡ found_first file (next_at section at (drop at file))
answers_come_one_behind_another section file at = answers_within (length (drop at file)) section file at (omega arith)

then_those : (file : List ℕ) (before : Section) (from : ℕ) (blocks : List NgBlock) (after : Section) (to : ℕ) → AreBlocks file before from blocks after to
    → frames_at before from (drop from file) ≡ in_front blocks (frames_at after to (drop to file))
then_those file before from [] after to are = ap (λ (s : Section). frames_at s from (drop from file)) are.0 ∙ ap (λ k. frames_at after k (drop k file)) are.1
then_those file before from (block ∷ blocks) after to are =
    blocks_come_one_behind_another before from (drop from file)
    ∙ ap (with_block frames_at from (drop from file)) are.0
    ∙ ap (λ rest. with_frame block.frame (frames_at block.section (from + block.size) rest)) (drop-drop block.size from file)
    ∙ ap (with_frame block.frame) (then_those file block.section (from + block.size) blocks after to are.1)

pub a_pcapng_reader_stands_in_its_capture : (reader : NgReader) (file : List ℕ) (stands : NgStandsIn reader file)
    → ng_of file ≡ in_front stands.chain.blocks (frames_at reader.section reader.place (drop reader.place file))
a_pcapng_reader_stands_in_its_capture reader file stands = then_those file no_section 0 stands.chain.blocks reader.section reader.place stands.chain.whole

pub a_pcapng_reader_stands_in_a_longer_file : (reader : NgReader) (file more : List ℕ) → NgStandsIn reader file → NgStandsIn reader (file ++ more)
a_pcapng_reader_stands_in_a_longer_file = stands_longer

pub a_written_pcapng_file_reads_back : (frames : List NgFrame) → All IsWritableNg frames → length (ng_octets frames) ≤ 2 ^ 40 → IsNg (ng_octets frames) (record { frames = frames; fault = None })
a_written_pcapng_file_reads_back = file_back

pub faults_stand_within_the_pcapng_file : (file : List ℕ) (fault : NgFault) → (ng_of file).fault ≡ Some fault → fault.octet ≤ length file
faults_stand_within_the_pcapng_file = file_fault
