-- What a flow reads: the frames of its capture that are judged, and what ends them in front of the capture's end.
use Rattle.std.specs.Prelude.{ℕ, List, [], map, take, Option, Some, None, Result, Ok, Err}
use Rattle.captures.specs.declared.packet_in.PacketIn.{PacketIn}
use Rattle.captures.specs.declared.format.CaptureFormat.{CaptureFormat}
use Rattle.captures.specs.declared.fault.FileFault.{FileFault}
use Rattle.captures.specs.Frame.{CapturedFrame, packet_in}
use Rattle.captures.specs.CaptureFile.{CaptureFile, capture_file}
use Rattle.call_report.specs.Lines.Capture.{capture_line}
use Rattle.call_report.specs.Event.{Event, capture_event}

-- the format of a capture that could be begun, its frames that may be judged, and the event behind them, if there is one
pub record FlowInput : Type 0 where
  pub format : Option CaptureFormat
  pub frames : List CapturedFrame
  pub event : Option Event

-- by what the file says: one whose beginning is broken has no frame, and its fault is the event
abbrev pub input_by : ℕ → ℕ → Result CaptureFile FileFault → FlowInput
input_by number most (Err fault) = record { format = None; frames = []; event = Some (record { status = 5; line = capture_line number fault }) }
input_by number most (Ok capture) = record { format = Some capture.format; frames = take most capture.frames; event = capture_event number most capture }

-- of the flow of this number, where so many packets may still be read; an absent file has neither a format nor an event
abbrev pub flow_input : ℕ → ℕ → Option (List ℕ) → FlowInput
flow_input number most None = record { format = None; frames = []; event = None }
flow_input number most (Some file) = input_by number most (capture_file file)

-- the packets of an input
abbrev pub packets_in : FlowInput → List PacketIn
packets_in input = map packet_in input.frames
