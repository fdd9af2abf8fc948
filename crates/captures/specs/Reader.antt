-- A reader of a capture file, and how its answers follow from the file.
use Rattle.std.specs.Prelude.{ℕ, ◌≡◌, List, [], ◌∷◌, map, drop, Option, Some, None, Result, Ok, Err}
use Rattle.std.specs.Option.{option_map}
use Rattle.net_io.specs.Depot.{DepotState}
use Rattle.pcap_frames.specs.declared.record.FrameHead.{FrameHead}
use Rattle.pcap_frames.specs.Capture.{records_at}
use Rattle.pcap_frames.specs.Reader.{IsReady}
use Rattle.pcapng_frames.specs.Capture.{frames_at}
use Rattle.pcapng_frames.specs.Reader.{IsNgReady}
use Rattle.captures.specs.declared.packet_in.PacketIn.{PacketIn}
use Rattle.captures.specs.declared.format.CaptureFormat.{CaptureFormat}
use Rattle.captures.specs.declared.format.CaptureFormat.TheVariants as format
use Rattle.captures.specs.declared.fault.FileFault.{FileFault}
use Rattle.captures.specs.declared.fault.FileFault.TheVariants as fault
use Rattle.captures.specs.declared.fault.ReadStop.{ReadStop}
use Rattle.captures.specs.declared.fault.ReadStop.TheVariants as stop
use Rattle.captures.specs.declared.reader.AnyFrames.{AnyFrames}
use Rattle.captures.specs.declared.reader.AnyFrames.TheVariants.{Pcap, Pcapng}
use Rattle.captures.specs.Frame.{CapturedFrame, packet_in}
use Rattle.captures.specs.CaptureFile.{CaptureFile, frame_of_record, frame_of_packet, capture_file}

-- the name of its file
abbrev pub file_name_of : AnyFrames → List ℕ
file_name_of (Pcap frames) = frames.name
file_name_of (Pcapng frames) = frames.name

-- the file's format
abbrev pub format_of : AnyFrames → CaptureFormat
format_of (Pcap frames) = format.Pcap frames.header.nanos
format_of (Pcapng frames) = format.Pcapng

-- the frames of a file from where a reader stands on, and the fault that ends them
pub record FramesLeft : Type 0 where
  pub frames : List CapturedFrame
  pub fault : Option FileFault

abbrev pub left_of : AnyFrames → List ℕ → FramesLeft
left_of (Pcap reader) file =
    let records = records_at reader.header.order reader.place (drop reader.place file) in
    record { frames = map (frame_of_record reader.header.link) records.frames; fault = option_map fault.Pcap records.fault }
left_of (Pcapng reader) file =
    let left = frames_at reader.section reader.place (drop reader.place file) in
    record { frames = map frame_of_packet left.frames; fault = option_map fault.Pcapng left.fault }

-- what a reader needs of a folder, and leaves: where the content is told, it stands in the file of its name
abbrev pub IsReadable : DepotState → AnyFrames → Type 0
IsReadable folder (Pcap reader) = IsReady folder reader
IsReadable folder (Pcapng reader) = IsNgReady folder reader

-- what a file holds of which a reader has read the beginning
abbrev pub begun_file : AnyFrames → List ℕ → CaptureFile
begun_file reader file = let left = left_of reader file in record { format = format_of reader; frames = left.frames; fault = left.fault }

-- how the reading of a file begins: with all its frames left, or with the fault of its beginning; the other stops say nothing of the file
abbrev pub IsFileBegun : Result AnyFrames ReadStop → Option (List ℕ) → Type 0
IsFileBegun (Ok reader) held = (file : List ℕ) × (held ≡ Some file) × (capture_file file ≡ Ok (begun_file reader file))
IsFileBegun (Err (stop.Capture broken)) held = (file : List ℕ) × (held ≡ Some file) × (capture_file file ≡ Err (fault.Pcap broken))
IsFileBegun (Err (stop.Ng broken)) held = (file : List ℕ) × (held ≡ Some file) × (capture_file file ≡ Err (fault.Pcapng broken))
IsFileBegun (Err stop.ReadFault) held = Unit {0}
IsFileBegun (Err stop.OutOfMemory) held = Unit {0}

-- the next frame, whose packet was read, and what is left behind it
abbrev pub IsTaken : FrameHead → PacketIn → FramesLeft → FramesLeft → Type 0
IsTaken head packet left left' =
    (frame : CapturedFrame) × (frame.head ≡ head) × (packet_in frame ≡ packet) × (left ≡ record { frames = frame ∷ left'.frames; fault = left'.fault })

-- an answer by what is left, and what is left then: a frame; that there is none, and the same is left; or the fault there; the other stops say nothing of the file
abbrev pub IsNextFrame : Result (Option FrameHead) ReadStop → PacketIn → FramesLeft → FramesLeft → Type 0
IsNextFrame (Ok (Some head)) packet left left' = IsTaken head packet left left'
IsNextFrame (Ok None) packet left left' = (left ≡ record { frames = []; fault = None }) × (left' ≡ left)
IsNextFrame (Err (stop.Capture broken)) packet left left' = left ≡ record { frames = []; fault = Some (fault.Pcap broken) }
IsNextFrame (Err (stop.Ng broken)) packet left left' = left ≡ record { frames = []; fault = Some (fault.Pcapng broken) }
IsNextFrame (Err stop.ReadFault) packet left left' = Unit {0}
IsNextFrame (Err stop.OutOfMemory) packet left left' = Unit {0}
