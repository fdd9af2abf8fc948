-- Blocks one behind another in a whole file: as many steps as there are octets are enough.
use Rattle.std.proofs.Common.{arith, ◌≡◌, ◌≤◌, ◌+◌, ℕ, zero, suc, List, [], length, drop, Result, Ok, Err, Option, Some, None, refl, ap, sym, ◌∙◌}
use Rattle.std.proofs.lemmas.List.{length-drop, nil_from_length}
use Rattle.pcapng_frames.specs.declared.fault.NgFault.{NgFault}
use Rattle.pcapng_frames.specs.Section.{Section}
use Rattle.pcapng_frames.specs.Block.{NgBlock, block_at}
use Rattle.pcapng_frames.specs.Capture.{NgCapture, with_frame, with_block, blocks_within, frames_at}
use Rattle.pcapng_frames.proofs.Chains.{none_at_end, block_some}

-- two ways to go on that agree behind a block
go_same : (more other : Section → ℕ → List ℕ → NgCapture) (at : ℕ) (rest : List ℕ) (here : Result (Option NgBlock) NgFault)
    → ((block : NgBlock) → here ≡ Ok (Some block) → more block.section (at + block.size) (drop block.size rest) ≡ other block.section (at + block.size) (drop block.size rest))
    → with_block more at rest here ≡ with_block other at rest here
go_same more other at rest (Err fault) same = refl
go_same more other at rest (Ok None) same = refl
go_same more other at rest (Ok (Some block)) same = ap (with_frame block.frame) (same block refl)

ends_at_once : (more : Section → ℕ → List ℕ → NgCapture) (section : Section) (at : ℕ) (rest : List ℕ) → length rest ≤ 0 → with_block more at rest (block_at section at rest) ≡ record { frames = []; fault = None }
ends_at_once more section at rest le =
    let empty : rest ≡ [] = nil_from_length rest (omega arith) in
    ap (λ s. with_block more at s (block_at section at s)) empty ∙ ap (with_block more at []) (none_at_end section at)

enough : (m n : ℕ) (section : Section) (at : ℕ) (rest : List ℕ) → length rest ≤ m → length rest ≤ n → blocks_within m section at rest ≡ blocks_within n section at rest
unfolding blocks_within
enough zero zero section at rest le le' = refl
enough zero (suc n) section at rest le le' = sym (ends_at_once (blocks_within n) section at rest le)
enough (suc m) zero section at rest le le' = ends_at_once (blocks_within m) section at rest le'
enough (suc m) (suc n) section at rest le le' =
    go_same (blocks_within m) (blocks_within n) at rest (block_at section at rest)
    (λ block here. let some = block_some section at rest block here in
    let count = length-drop block.size rest in
    enough m n block.section (at + block.size) (drop block.size rest) (omega arith) (omega arith))

pub blocks_come_one_behind_another : (section : Section) (at : ℕ) (rest : List ℕ) → frames_at section at rest ≡ with_block frames_at at rest (block_at section at rest)
unfolding frames_at blocks_within
blocks_come_one_behind_another section at rest =
    enough (length rest) (suc (length rest)) section at rest (omega arith) (omega arith)
    ∙ go_same (blocks_within (length rest)) frames_at at rest (block_at section at rest)
    (λ block here. let some = block_some section at rest block here in
    let count = length-drop block.size rest in
    enough (length rest) (length (drop block.size rest)) block.section (at + block.size) (drop block.size rest) (omega arith) (omega arith))

-- where no block stands, nothing is left
pub ends_here : (section : Section) (at : ℕ) (rest : List ℕ) → block_at section at rest ≡ Ok None → frames_at section at rest ≡ record { frames = []; fault = None }
ends_here section at rest here = blocks_come_one_behind_another section at rest ∙ ap (with_block frames_at at rest) here
