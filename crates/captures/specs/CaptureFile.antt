-- What a capture file holds, in either format.
use Rattle.std.specs.Prelude.{ℕ, ◌≡◌, if◌then◌else◌, List, map, Option, None, Result, Ok, Err}
use Rattle.std.specs.Option.{option_map}
use Rattle.pcap_frames.specs.declared.fault.CaptureFault.{CaptureFault}
use Rattle.pcap_frames.specs.Record.{Frame}
use Rattle.pcap_frames.specs.Capture.{Capture, capture_of}
use Rattle.pcapng_frames.specs.declared.fault.NgFault.{NgFault}
use Rattle.pcapng_frames.specs.Section.{no_section}
use Rattle.pcapng_frames.specs.Block.{NgFrame, NgBlock, block_at}
use Rattle.pcapng_frames.specs.Capture.{NgCapture, is_pcapng, ng_of}
use Rattle.captures.specs.declared.format.CaptureFormat.{CaptureFormat}
use Rattle.captures.specs.declared.format.CaptureFormat.TheVariants as format
use Rattle.captures.specs.declared.fault.FileFault.{FileFault}
use Rattle.captures.specs.declared.fault.FileFault.TheVariants as fault
use Rattle.captures.specs.Frame.{CapturedFrame}

-- The format of a file whose beginning could be read, its frames, and the fault that ends them; none where the file ends them.
pub record CaptureFile : Type 0 where
  pub format : CaptureFormat
  pub frames : List CapturedFrame
  pub fault : Option FileFault

-- a record of a libpcap file, whose header tells the link type of all
abbrev pub frame_of_record : ℕ → Frame → CapturedFrame
frame_of_record link frame = record { head = frame.head; link = link; octets = frame.octets }

-- a packet of a pcapng file has a link type of its own, and nanoseconds
abbrev pub frame_of_packet : NgFrame → CapturedFrame
frame_of_packet frame =
    record { head = record { seconds = frame.head.seconds; fraction = frame.head.nanos }; link = frame.head.link; octets = frame.octets }

-- a libpcap file, by what it holds
abbrev pub by_pcap : Result Capture CaptureFault → Result CaptureFile FileFault
by_pcap (Err broken) = Err (fault.Pcap broken)
by_pcap (Ok capture) =
    Ok (record {
      format = format.Pcap capture.header.nanos;
      frames = map (frame_of_record capture.header.link) capture.frames;
      fault = option_map fault.Pcap capture.fault;
    })

-- a pcapng file, by its first block and by what it holds
abbrev pub by_pcapng : Result (Option NgBlock) NgFault → NgCapture → Result CaptureFile FileFault
by_pcapng (Err broken) capture = Err (fault.Pcapng broken)
by_pcapng (Ok block) capture =
    Ok (record { format = format.Pcapng; frames = map frame_of_packet capture.frames; fault = option_map fault.Pcapng capture.fault })

-- What a file holds: by its first four octets the one or the other format; or the fault of its beginning, which is a libpcap file's header or a
-- pcapng file's first section header.
abbrev pub capture_file : List ℕ → Result CaptureFile FileFault
capture_file file = if is_pcapng file then by_pcapng (block_at no_section 0 file) (ng_of file) else by_pcap (capture_of file)

-- the octets are a capture file: its beginning, and whole frames to the end
abbrev pub IsCaptureFile : List ℕ → CaptureFile → Type 0
IsCaptureFile octets file = (capture_file octets ≡ Ok file) × (file.fault ≡ None)
