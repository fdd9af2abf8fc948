-- A whole pcapng file: blocks to the file's end or to the first fault, of which some give frames.
use Rattle.std.specs.Prelude.{◌≡◌, ℕ, zero, suc, ◌+◌, Bool, true, List, [], ◌∷◌, length, take, drop, bytes_eq, Option, Some, None, Result, Ok, Err}
use Rattle.pcapng_frames.specs.declared.fault.NgFault.{NgFault}
use Rattle.pcapng_frames.specs.Section.{Section, no_section}
use Rattle.pcapng_frames.specs.Block.{NgFrame, NgBlock, block_at}

-- What a pcapng file holds: frames one behind another, and the fault that ends them; none where the file ends them.
pub record NgCapture : Type 0 where
  pub frames : List NgFrame
  pub fault : Option NgFault

abbrev pub with_frame : Option NgFrame → NgCapture → NgCapture
with_frame None behind = behind
with_frame (Some frame) behind = record { frames = frame ∷ behind.frames; fault = behind.fault }

-- what one block gives, and then `more` behind it
abbrev pub with_block : (Section → ℕ → List ℕ → NgCapture) → ℕ → List ℕ → Result (Option NgBlock) NgFault → NgCapture
with_block more at rest (Err fault) = record { frames = []; fault = Some fault }
with_block more at rest (Ok None) = record { frames = []; fault = None }
with_block more at rest (Ok (Some block)) = with_frame block.frame (more block.section (at + block.size) (drop block.size rest))

-- at most n blocks
unfoldable pub blocks_within : ℕ → Section → ℕ → List ℕ → NgCapture
blocks_within zero section at rest = record { frames = []; fault = None }
blocks_within (suc n) section at rest = with_block (blocks_within n) at rest (block_at section at rest)

-- all from the octet `at` on, where `rest` is left: no more blocks than octets, since each block has some
unfoldable pub frames_at : Section → ℕ → List ℕ → NgCapture
frames_at section at rest = blocks_within (length rest) section at rest

-- a file is pcapng where its first four octets are 0a 0d 0d 0a, the type of a section header
abbrev pub is_pcapng : List ℕ → Bool
is_pcapng file = bytes_eq (take 4 file) (0x0a ∷ 0x0d ∷ 0x0d ∷ 0x0a ∷ [])

-- what a pcapng file holds, from its first section header on
abbrev pub ng_of : List ℕ → NgCapture
ng_of file = frames_at no_section 0 file

-- the octets are this pcapng capture: whole blocks to the end
abbrev pub IsNg : List ℕ → NgCapture → Type 0
IsNg file capture = (is_pcapng file ≡ true) × ((ng_of file ≡ capture) × (capture.fault ≡ None))
