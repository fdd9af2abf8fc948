-- Parts of a call, on the way.
use Rattle.std.specs.Prelude.{◌≡◌, ◌≢◌, ◌≤◌, ℕ, ◌+◌, IsTrue, IsSome, List, [], ◌∷◌, ◌++◌, length, codes, Some, Result, Ok, Err}
use Rattle.std.specs.List.{concat}
use Rattle.net_io.specs.declared.fault.IoFault.{IoFault}
use Rattle.net_io.specs.Depot.{DepotState, SameHeld}
use Rattle.net_io.specs.Faults.{SameCounts}
use Rattle.packet_label.specs.declared.denial.Denial.{Denial}
use Rattle.pcap_frames.specs.declared.record.FrameHead.{FrameHead}
use Rattle.pcap_frames.specs.Capture.{capture_of}
use Rattle.pcap_frames.specs.Reader.{Reader, IsReady}
use Rattle.pcap_frames.specs.Written.{frame_octets}
use Rattle.doi_table.specs.declared.plan.DoiPlan.{DoiPlan}
use Rattle.captures.specs.declared.fault.FileFault.TheVariants as fault
use Rattle.captures.specs.declared.format.CaptureFormat.TheVariants as format
use Rattle.captures.specs.declared.reader.AnyFrames.TheVariants as reads
use Rattle.captures.specs.Frame.{CapturedFrame}
use Rattle.captures.specs.CaptureFile.{CaptureFile, by_pcap}
use Rattle.captures.specs.Reader.{FramesLeft, left_of}
use Rattle.captures.specs.Written.{file_octets}
use Rattle.captures.specs.Output.{HasAppended}
use Rattle.call_report.specs.declared.status.Status.{Status}
use Rattle.call_report.specs.declared.status.Status.TheVariants.{Done, ReadFault, WrongCapture, OutOfMemory, Limit}
use Rattle.call_report.specs.CallEnds.{CallEnds, HasBegun}
use Rattle.call_report.specs.Event.{packets_limit}
use Rattle.call_report.specs.Lines.Capture.{capture_line}
use Rattle.call_report.specs.Lines.Denial.{denial_text}
use Rattle.call_report.specs.Lines.Fixed.{packets_limit_line}
use Rattle.call_report.specs.Lines.Packet.{shown_line}
use Rattle.call_report.specs.Outside.{Outside}
use Rattle.call_report.specs.Printing.{IsUnderWay, Printed}
use Rattle.call_report.specs.Report.{Folder}
use Rattle.call_report.specs.Status.{status_number, write_status}
use Rattle.ripso_border_run.specs.declared.crossing.End.{End}
use Rattle.ripso_border_run.specs.declared.crossing.End.TheVariants.{Whole, Broken, Full, Unread, Stopped}
use Rattle.ripso_border_run.specs.declared.lines.Counts.{Counts}
use Rattle.ripso_border_run.specs.declared.task.Task.{Task}
use Rattle.ripso_border_run.specs.Frames.{AreMadeOf, written_frames, made_lines, count_passed, count_denied}
use Rattle.ripso_border_run.specs.Lines.{Made, crossed_end_line}
use Rattle.ripso_border_run.specs.Outcome.{Outcome, ByInput, IsOutcome}
use Rattle.ripso_border_run.specs.Says.{border_says, capture_stages}

-- a verdict, where the packet's octets are lent
abbrev pub made_of : Result (Unit {0}) Denial → List ℕ → Made
made_of (Ok done) packet = Ok packet
made_of (Err why) packet = Err why

-- its line
abbrev pub shown_of : ℕ → Result (Unit {0}) Denial → List ℕ
shown_of number (Ok done) = shown_line number (codes "written")
shown_of number (Err why) = shown_line number (denial_text why)

-- its frame in the capture that is made, none where it was denied
abbrev pub kept_of : FrameHead → Result (Unit {0}) Denial → List ℕ → List ℕ
kept_of head (Ok done) packet = frame_octets head packet
kept_of head (Err why) packet = []

-- counted
abbrev pub after_counting : Counts → Result (Unit {0}) Denial → Counts
after_counting counts (Ok done) = record { packets = counts.packets + 1; passed = counts.passed + 1; denied = counts.denied }
after_counting counts (Err why) = record { packets = counts.packets + 1; passed = counts.passed; denied = counts.denied + 1 }

abbrev pub none_counted : Counts
none_counted = record { packets = 0; passed = 0; denied = 0 }

-- nothing of a folder has moved
pub record IsUnmoved (old new : DepotState) : Type 0 where
  pub told : new.tells ≡ old.tells
  pub kept : IsTrue old.tells → SameHeld old.held new.held
  pub reads : SameCounts old.reads new.reads
  pub creates : SameCounts old.creates new.creates
  pub appends : SameCounts old.appends new.appends

-- A call has read its script, and found the definition: its input may be read and its output made, and what the input comes to under it is what the call comes to.
pub record IsPlanned (task : Task) (plan : DoiPlan) (before : Outside) : Type 0 where
  pub begun : HasBegun (border_says (Some task)) before.folder [] (capture_stages task)
  pub leads : IsTrue before.folder.tells → (outcome : Outcome) → ByInput task plan (before.folder.held task.input) outcome → IsOutcome task before.folder.held outcome
  pub only : IsTrue before.folder.tells → (outcome : Outcome) → IsOutcome task before.folder.held outcome → ByInput task plan (before.folder.held task.input) outcome

-- a capture of which these frames come first, and behind them what is left
abbrev pub with_left : Reader → List CapturedFrame → FramesLeft → CaptureFile
with_left reader frames left = record { format = format.Pcap reader.header.nanos; frames = frames ++ left.frames; fault = left.fault }

-- Of the input's frames some are done, one or none is in hand, and the others are left; the output holds what was made, but for what waits.
pub record IsAmid (task : Task) (old new : Folder) (reader : Reader) (hand : List CapturedFrame) (waits : List ℕ) (done : List CapturedFrame) (made : List Made) : Type 0 where
  pub octets : List ℕ
  pub input : old task.input ≡ Some octets
  pub all : by_pcap (capture_of octets) ≡ Ok (with_left reader (done ++ hand) (left_of (reads.Pcap reader) octets))
  pub sent : List ℕ
  pub here : new task.output ≡ Some sent
  pub whole : sent ++ waits ≡ file_octets (format.Pcap reader.header.nanos) (written_frames done made)

-- Nothing has failed, and so many packets were dealt with.
pub record IsCrossing (task : Task) (plan : DoiPlan) (before now : Outside) (reader : Reader) (hand : List CapturedFrame) (waits waiting : List ℕ) (counts : Counts) : Type 0 where
  pub planned : IsPlanned task plan before
  pub told : now.folder.tells ≡ before.folder.tells
  pub reads : SameCounts before.folder.reads now.folder.reads
  pub creates : SameCounts before.folder.creates now.folder.creates
  pub appends : SameCounts before.folder.appends now.folder.appends
  pub others : IsTrue before.folder.tells → (name : List ℕ) → name ≢ task.output → now.folder.held name ≡ before.folder.held name
  pub done : List CapturedFrame
  pub made : List Made
  pub are : AreMadeOf task.way plan task.doi done made
  pub way : IsUnderWay (concat (made_lines 1 made)) waiting before.stream now.stream
  pub packets : length done ≡ counts.packets
  pub passed : count_passed made ≡ counts.passed
  pub denied : count_denied made ≡ counts.denied
  pub few : counts.packets ≤ packets_limit
  pub amid : IsTrue before.folder.tells → IsAmid task before.folder.held now.folder.held reader hand waits done made

-- What waits was appended, and then the report was printed to its end; or an append or the end of the file failed, and some first octets of it were appended; or memory ran out before.
pub data IsEnded (name waits body last : List ℕ) (due : Status) (old new : Outside) (status : Status) : Type 0 where
  appended : (x : Unit {0}) (left : List ℕ) → HasAppended (Ok x) name [] waits left old.folder new.folder → left ≡ [] → Printed body last due status old.stream new.stream
      → IsEnded name waits body last due old new status
  unappended : (fault : IoFault) (left : List ℕ) → HasAppended (Err fault) name [] waits left old.folder new.folder → status ≡ write_status fault → new.stream ≡ old.stream
      → IsEnded name waits body last due old new status
  without_memory : status ≡ OutOfMemory → new.folder ≡ old.folder → new.stream ≡ old.stream → IsEnded name waits body last due old new status

-- What was begun is ended: the capture was read to its end, or is broken, or is full; or a read has failed, and what waits was printed; or nothing more was done.
abbrev pub IsEndedBy : List ℕ → End → List ℕ → List ℕ → Counts → Outside → Outside → Status → Type 0
IsEndedBy name Whole waits waiting counts old new status = IsEnded name waits (waiting ++ crossed_end_line counts.packets counts.passed counts.denied) [] Done old new status
IsEndedBy name (Broken broken) waits waiting counts old new status = IsEnded name waits waiting (capture_line 1 (fault.Pcap broken)) WrongCapture old new status
IsEndedBy name Full waits waiting counts old new status = IsEnded name waits waiting packets_limit_line Limit old new status
IsEndedBy name Unread waits waiting counts old new status = (new.folder ≡ old.folder) × Printed waiting [] ReadFault status old.stream new.stream
IsEndedBy name (Stopped due) waits waiting counts old new status = (status ≡ due) × (new.folder ≡ old.folder) × (new.stream ≡ old.stream)

-- the frame in hand
abbrev pub in_hand : Reader → FrameHead → List ℕ → List CapturedFrame
in_hand reader head octets = record { head = head; link = reader.header.link; octets = octets } ∷ []

-- The input and the output are two files, the reader may read on, the output is there, and no more are counted than were read.
pub record IsStanding (task : Task) (folder : DepotState) (reader : Reader) (counts : Counts) : Type 0 where
  pub named : reader.name ≡ task.input
  pub apart : task.input ≢ task.output
  pub ready : IsReady folder reader
  pub there : IsTrue folder.tells → IsSome (folder.held task.output)
  pub few : counts.packets ≤ packets_limit
  pub passed : counts.passed ≤ counts.packets
  pub denied : counts.denied ≤ counts.packets

-- A call goes on with what is in its hand now; or, however it is ended by this end, it has ended.
abbrev pub Proceeds : {T : Type 0} → Task → DoiPlan → Outside → Outside → Reader → (T → List CapturedFrame) → List ℕ → List ℕ → Counts → Result T End → Type 0
Proceeds task plan before now reader hand waits waiting counts (Ok value) = IsCrossing task plan before now reader (hand value) waits waiting counts
Proceeds task plan before now reader hand waits waiting counts (Err end) =
    (after : Outside) (status : Status) → IsEndedBy task.output end waits waiting counts now after status → CallEnds border_says (Some task) before after (status_number status) []
