-- A reader of a capture, and how its answers follow from the file.
use Rattle.std.specs.Prelude.{◌≡◌, ℕ, ◌+◌, IsTrue, IsSome, List, [], ◌∷◌, drop, Option, Some, Result, Ok, Err}
use Rattle.net_io.specs.Depot.{DepotState, octets_of}
use Rattle.net_io.specs.declared.file_window.order.OctetOrder.{OctetOrder}
use Rattle.net_io.specs.file_window.Window.{IsFrom}
use Rattle.pcap_frames.specs.declared.header.CaptureHeader.{CaptureHeader}
use Rattle.pcap_frames.specs.declared.fault.CaptureFault.{CaptureFault}
use Rattle.pcap_frames.specs.declared.fault.FrameStop.{FrameStop}
use Rattle.pcap_frames.specs.declared.fault.FrameStop.TheVariants.{Capture, ReadFault, OutOfMemory}
use Rattle.pcap_frames.specs.Header.{capture_header}
use Rattle.pcap_frames.specs.Record.{Frame, record_size, record_at}

-- What is seen of a reader: the name of its file, the header that it read, the octet at which it stands, and the octets from there on that it keeps.
pub record Reader : Type 0 where
  pub name : List ℕ
  pub header : CaptureHeader
  pub place : ℕ
  pub ahead : List ℕ

-- these are the records of a file from one place to another, whole and one behind another
abbrev pub AreRecords : OctetOrder → List ℕ → ℕ → List Frame → ℕ → Type 0
AreRecords order file from [] to = from ≡ to
AreRecords order file from (frame ∷ frames) to = (record_at order from (drop from file) ≡ Ok (Some frame)) × AreRecords order file (from + record_size frame) frames to

-- A reader stands in a file: it has read the file's header, whole records go up to its place, and it keeps octets that are there.
pub record ReaderStandsIn (reader : Reader) (file : List ℕ) : Type 0 where
  pub header : capture_header file ≡ Ok reader.header
  pub frames : List Frame
  pub whole : AreRecords reader.header.order file 24 frames reader.place
  pub ahead : IsFrom file reader.place reader.ahead

-- what a reader needs of a folder, and leaves: where the content is told, it stands in the file of its name
abbrev pub IsReady : DepotState → Reader → Type 0
IsReady folder reader = IsTrue folder.tells → ReaderStandsIn reader (octets_of (folder.held reader.name))

-- An answer is what a file says: what it gives is there, or its fault is; the other stops say nothing of the file.
abbrev pub IsAnswerOf : {T X : Type 0} → (T → X) → Result T FrameStop → Result X CaptureFault → Type 0
IsAnswerOf shown (Ok given) said = said ≡ Ok (shown given)
IsAnswerOf shown (Err (Capture fault)) said = said ≡ Err fault
IsAnswerOf shown (Err ReadFault) said = Unit {0}
IsAnswerOf shown (Err OutOfMemory) said = Unit {0}

-- an answer that says something of a file is of one that is there
abbrev pub SpeaksOf : {T : Type 0} → Option (List ℕ) → Result T FrameStop → Type 0
SpeaksOf file (Ok given) = IsSome file
SpeaksOf file (Err (Capture fault)) = IsSome file
SpeaksOf file (Err ReadFault) = Unit {0}
SpeaksOf file (Err OutOfMemory) = Unit {0}
