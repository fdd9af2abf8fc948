-- A source of packets: what it has left of its capture, and what reads change.
use Rattle.std.specs.Prelude.{ℕ, ◌≡◌, ◌≤◌, ◌⊎◌, ◌-◌, ◌+◌, if◌then◌else◌, Bool, true, false, IsTrue, List, [], ◌++◌, length, take, drop, map, All, Option, Some, None, Ok}
use Rattle.net_io.specs.Depot.{DepotState, octets_of, SameHeld}
use Rattle.net_io.specs.Faults.{Rose, SameCounts}
use Rattle.pcap_frames.specs.declared.record.FrameHead.{FrameHead}
use Rattle.captures.specs.declared.packet_in.PacketIn.{PacketIn}
use Rattle.captures.specs.declared.fault.FileFault.TheVariants as file
use Rattle.captures.specs.declared.fault.ReadStop.{ReadStop}
use Rattle.captures.specs.declared.fault.ReadStop.TheVariants as read_stop
use Rattle.captures.specs.Frame.{CapturedFrame, packet_in}
use Rattle.captures.specs.CaptureFile.{CaptureFile, capture_file}
use Rattle.captures.specs.Reader.{file_name_of, format_of, left_of, IsReadable}
use Rattle.captures.specs.Written.{IsTime}
use Rattle.call_report.specs.Lines.Capture.{capture_line}
use Rattle.call_report.specs.Lines.Fixed.{packets_limit_line}
use Rattle.call_report.specs.Event.{Event, capture_event}
use Rattle.script_run.specs.declared.flow_run.end.FlowStop.{FlowStop}
use Rattle.script_run.specs.declared.flow_run.end.FlowStop.TheVariants as the_stop
use Rattle.script_run.specs.declared.flow_run.source.Source.{Source}
use Rattle.script_run.specs.declared.flow_run.source.Behind.{Behind}
use Rattle.script_run.specs.declared.flow_run.source.Behind.TheVariants.{Whole, Broken, TooMany, Failed, NoMemory}

-- whether the input was read to its end, or to its event
abbrev pub is_end : Option Behind → Bool
is_end None = false
is_end (Some Whole) = true
is_end (Some (Broken fault)) = true
is_end (Some TooMany) = true
is_end (Some Failed) = false
is_end (Some NoMemory) = false

-- the frames that may still be read
abbrev pub frames_left : Source → List ℕ → List CapturedFrame
frames_left source file = if is_end source.behind then [] else take (source.most - source.read) (left_of source.reader file).frames

-- the same of packets, where the folder tells what it holds
abbrev pub packets_left : Bool → Source → List ℕ → Option (List PacketIn)
packets_left true source file = Some (map packet_in (frames_left source file))
packets_left false source file = None

-- what a folder holds of a source's file
abbrev pub file_of : DepotState → Source → List ℕ
file_of folder source = octets_of (folder.held (file_name_of source.reader))

-- the packets that were read ahead, each with its time: those behind them are of a batch before
abbrev pub read_into : Source → List PacketIn → List PacketIn
read_into source next = take (length source.heads.items) next

-- these packets in front of those, where these are told
abbrev pub in_front : List PacketIn → Option (List PacketIn) → Option (List PacketIn)
in_front packets None = None
in_front packets (Some left) = Some (packets ++ left)

-- the packets that are still to be fetched, with those that were read ahead
abbrev pub left_in : DepotState → Source → List PacketIn → Option (List PacketIn)
left_in folder source next = in_front (read_into source next) (packets_left folder.tells source (file_of folder source))

-- how many packets were fetched whose times aren't used yet
abbrev pub due_in : Source → ℕ
due_in source = length source.fetched.items - source.at

-- the times of the frames that aren't used yet
abbrev pub heads_left : Source → List ℕ → List FrameHead
heads_left source file = drop source.at source.fetched.items ++ source.heads.items ++ map (λ frame. frame.head) (frames_left source file)

-- so many frames stand in front of those that are left as were read
pub record IsAmid (source : Source) (file : List ℕ) : Type 0 where
  pub front : List CapturedFrame
  pub count : length front ≡ source.read
  pub all : capture_file file ≡ Ok (record { format = format_of source.reader; frames = front ++ (left_of source.reader file).frames; fault = (left_of source.reader file).fault })

-- what stands behind the packets that were read, where the reader stops
abbrev pub behind_at : ReadStop → Behind
behind_at (read_stop.Capture fault) = Broken (file.Pcap fault)
behind_at (read_stop.Ng fault) = Broken (file.Pcapng fault)
behind_at read_stop.ReadFault = Failed
behind_at read_stop.OutOfMemory = NoMemory

-- the event that stands behind the frames that were read, in the capture of this number
abbrev pub event_of : ℕ → Behind → Option Event
event_of number Whole = None
event_of number (Broken fault) = Some (record { status = 5; line = capture_line number fault })
event_of number TooMany = Some (record { status = 7; line = packets_limit_line })
event_of number Failed = None
event_of number NoMemory = None

-- all was read, up to this event
pub record IsAtEnd (source : Source) (file : List ℕ) (behind : Behind) : Type 0 where
  pub capture : CaptureFile
  pub is : capture_file file ≡ Ok capture
  pub event : (number : ℕ) → capture_event number source.most capture ≡ event_of number behind

abbrev pub StandsBy : Option Behind → Source → List ℕ → Type 0
StandsBy None source file = IsAmid source file
StandsBy (Some Whole) source file = IsAtEnd source file Whole
StandsBy (Some (Broken fault)) source file = IsAtEnd source file (Broken fault)
StandsBy (Some TooMany) source file = IsAtEnd source file TooMany
StandsBy (Some Failed) source file = IsAmid source file
StandsBy (Some NoMemory) source file = IsAmid source file

-- the stop that is to be answered
abbrev pub pending : Option Behind → Option FlowStop
pending None = None
pending (Some Whole) = None
pending (Some (Broken fault)) = None
pending (Some TooMany) = None
pending (Some Failed) = Some the_stop.Read
pending (Some NoMemory) = Some the_stop.OutOfMemory

-- the same reader of the same capture
pub record IsSame (old new : Source) : Type 0 where
  pub name : file_name_of new.reader ≡ file_name_of old.reader
  pub format : format_of new.reader ≡ format_of old.reader
  pub most : new.most ≡ old.most

-- The first frames that were left have these times and packets; the others are left.
pub record AreRead (file : List ℕ) (old new : Source) (times : List FrameHead) (packets : List PacketIn) : Type 0 where
  pub frames : List CapturedFrame
  pub times_are : map (λ frame. frame.head) frames ≡ times
  pub packets_are : map packet_in frames ≡ packets
  pub left : frames_left old file ≡ frames ++ frames_left new file

-- the packets that were fetched, and which of their times were used, are as they were
pub record SameFetched (old new : Source) : Type 0 where
  pub times : new.fetched.items ≡ old.fetched.items
  pub at : new.at ≡ old.at

-- Frames were read from a source, behind those that were read ahead.
pub record HasGot (tells : Bool) (file : List ℕ) (old new : Source) (batch batch' : List PacketIn) : Type 0 where
  pub times : List FrameHead
  pub packets : List PacketIn
  pub same : IsSame old new
  pub heads : new.heads.items ≡ old.heads.items ++ times
  pub fetched : SameFetched old new
  pub behind : batch' ≡ batch ++ packets
  pub count : length times ≡ length packets
  pub written : All (IsTime (format_of old.reader)) times
  pub short : All (λ packet. length packet.bytes ≤ 262144) packets
  pub read : IsTrue tells → AreRead file old new times packets

-- the numbers of failed reads: that of this name rose where one has failed, and else none has moved
abbrev pub ReadsMove : Option Behind → List ℕ → (List ℕ → ℕ) → (List ℕ → ℕ) → Type 0
ReadsMove None name old new = SameCounts old new
ReadsMove (Some Whole) name old new = SameCounts old new
ReadsMove (Some (Broken fault)) name old new = SameCounts old new
ReadsMove (Some TooMany) name old new = SameCounts old new
ReadsMove (Some Failed) name old new = Rose (old name) (new name)
ReadsMove (Some NoMemory) name old new = SameCounts old new

-- A folder was only read, up to this.
pub record HasOnlyRead (behind : Option Behind) (name : List ℕ) (old new : DepotState) : Type 0 where
  pub told : new.tells ≡ old.tells
  pub kept : IsTrue old.tells → SameHeld old.held new.held
  pub reads : ReadsMove behind name old.reads new.reads
  pub creates : SameCounts old.creates new.creates
  pub appends : SameCounts old.appends new.appends

-- what a source needs of a folder, and leaves
pub record IsFed (folder : DepotState) (source : Source) : Type 0 where
  pub ready : IsReadable folder source.reader
  pub stands : IsTrue folder.tells → StandsBy source.behind source (file_of folder source)
  pub within : source.read ≤ source.most
  pub times : All (IsTime (format_of source.reader)) source.heads.items
  pub fetched : All (IsTime (format_of source.reader)) source.fetched.items

-- what was read ahead stands in these places
pub record IsAhead (source : Source) (next : List PacketIn) : Type 0 where
  pub places : length source.heads.items ≤ length next
  pub few : length source.heads.items ≤ 1024
  pub short : All (λ packet. length packet.bytes ≤ 262144) (read_into source next)

-- packets were read ahead, or nothing where what stands behind the last packet is known already
abbrev pub HasMoved : Source → Source → DepotState → DepotState → Type 0
HasMoved old new before after = ((old.behind ≡ None) × HasOnlyRead new.behind (file_name_of old.reader) before after) ⊎ ((new.behind ≡ old.behind) × (after ≡ before))

-- as many more packets wait as were read: fetched and not accepted, or read ahead
abbrev pub AreCounted : Source → Source → Type 0
AreCounted old new = due_in new + length new.heads.items + old.read ≡ due_in old + length old.heads.items + new.read

-- Packets were read ahead or fetched; the times of what is to come stay.
pub record HasStepped (old new : Source) (before after : DepotState) : Type 0 where
  pub same : IsSame old new
  pub heads : IsTrue before.tells → heads_left new (file_of before old) ≡ heads_left old (file_of before old)
  pub counted : AreCounted old new
  pub moved : HasMoved old new before after
