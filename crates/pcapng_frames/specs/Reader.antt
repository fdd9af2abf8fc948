-- A reader of a pcapng file, and how its answers follow from the file.
use Rattle.std.specs.Prelude.{◌≡◌, ℕ, zero, suc, ◌+◌, IsTrue, List, [], ◌∷◌, length, drop, Option, Some, None, Result, Ok, Err}
use Rattle.net_io.specs.Depot.{DepotState, octets_of}
use Rattle.net_io.specs.file_window.Window.{IsFrom}
use Rattle.pcapng_frames.specs.declared.packet.NgHead.{NgHead}
use Rattle.pcapng_frames.specs.declared.fault.NgFault.{NgFault}
use Rattle.pcapng_frames.specs.declared.fault.NgStop.{NgStop}
use Rattle.pcapng_frames.specs.declared.fault.NgStop.TheVariants.{Capture, ReadFault, OutOfMemory}
use Rattle.pcapng_frames.specs.Section.{Section, no_section}
use Rattle.pcapng_frames.specs.Block.{NgFrame, NgBlock, block_at}
use Rattle.pcapng_frames.specs.Capture.{NgCapture, with_frame, frames_at}

-- What is seen of a reader: the name of its file, the present section, the octet at which it stands, and the octets from there on that it keeps.
pub record NgReader : Type 0 where
  pub name : List ℕ
  pub section : Section
  pub place : ℕ
  pub ahead : List ℕ

-- these are the blocks of a file from one place to another, whole and one behind another, and the sections in front of and behind them
abbrev pub AreBlocks : List ℕ → Section → ℕ → List NgBlock → Section → ℕ → Type 0
AreBlocks file before from [] after to = (before ≡ after) × (from ≡ to)
AreBlocks file before from (block ∷ blocks) after to =
    (block_at before from (drop from file) ≡ Ok (Some block)) × AreBlocks file block.section (from + block.size) blocks after to

-- Some blocks lead from one place of a file to another.
pub record NgChain (file : List ℕ) (before : Section) (from : ℕ) (after : Section) (to : ℕ) : Type 0 where
  pub blocks : List NgBlock
  pub whole : AreBlocks file before from blocks after to

-- A reader stands in a file: whole blocks from the file's beginning go up to its place and give its section, and it keeps octets that are there.
pub record NgStandsIn (reader : NgReader) (file : List ℕ) : Type 0 where
  pub chain : NgChain file no_section 0 reader.section reader.place
  pub ahead : IsFrom file reader.place reader.ahead

-- what a reader needs of a folder, and leaves: where the content is told, it stands in the file of its name
abbrev pub IsNgReady : DepotState → NgReader → Type 0
IsNgReady folder reader = IsTrue folder.tells → NgStandsIn reader (octets_of (folder.held reader.name))

-- An answer is what a file says: what it gives is there, or its fault is; the other stops say nothing of the file.
abbrev pub IsNgAnswer : {T X : Type 0} → (T → X) → Result T NgStop → Result X NgFault → Type 0
IsNgAnswer shown (Ok given) said = said ≡ Ok (shown given)
IsNgAnswer shown (Err (Capture fault)) said = said ≡ Err fault
IsNgAnswer shown (Err ReadFault) said = Unit {0}
IsNgAnswer shown (Err OutOfMemory) said = Unit {0}

-- What the reader finds next: a frame, the section and the place behind its block.
pub record NgFound : Type 0 where
  pub frame : NgFrame
  pub section : Section
  pub place : ℕ

abbrev pub found_by : (Section → ℕ → List ℕ → Result (Option NgFound) NgFault) → NgBlock → ℕ → List ℕ → Option NgFrame → Result (Option NgFound) NgFault
found_by more block at rest None = more block.section (at + block.size) (drop block.size rest)
found_by more block at rest (Some frame) = Ok (Some (record { frame = frame; section = block.section; place = at + block.size }))

abbrev pub find_on : (Section → ℕ → List ℕ → Result (Option NgFound) NgFault) → ℕ → List ℕ → Result (Option NgBlock) NgFault → Result (Option NgFound) NgFault
find_on more at rest (Err fault) = Err fault
find_on more at rest (Ok None) = Ok None
find_on more at rest (Ok (Some block)) = found_by more block at rest block.frame

-- among at most n blocks
unfoldable pub next_within : ℕ → Section → ℕ → List ℕ → Result (Option NgFound) NgFault
next_within zero section at rest = Ok None
next_within (suc n) section at rest = find_on (next_within n) at rest (block_at section at rest)

-- The first frame from the octet `at` on, behind blocks that are passed over; none where the file ends after them; or the first fault of a block.
unfoldable pub next_at : Section → ℕ → List ℕ → Result (Option NgFound) NgFault
next_at section at rest = next_within (length rest) section at rest

-- the frame that a reader found, and where it stands then
abbrev pub found_here : Section → ℕ → List ℕ → NgHead → NgFound
found_here section place octets head = record { frame = record { head = head; octets = octets }; section = section; place = place }

-- The first block, as a reader has taken it in.
abbrev pub begun_block : NgReader → Option NgBlock
begun_block reader = Some (record { section = reader.section; frame = None; size = reader.place })

-- What one answer of a reader gives, and then what comes behind it.
abbrev pub found_first : List ℕ → Result (Option NgFound) NgFault → NgCapture
found_first file (Err fault) = record { frames = []; fault = Some fault }
found_first file (Ok None) = record { frames = []; fault = None }
found_first file (Ok (Some found)) = with_frame (Some found.frame) (frames_at found.section found.place (drop found.place file))

-- what these blocks give, in front of what comes behind them
abbrev pub in_front : List NgBlock → NgCapture → NgCapture
in_front [] behind = behind
in_front (block ∷ blocks) behind = with_frame block.frame (in_front blocks behind)
