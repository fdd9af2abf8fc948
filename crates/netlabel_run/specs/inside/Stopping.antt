-- How a call ends whose reader has stopped.
use Rattle.std.specs.Prelude.{ℕ, List, []}
use Rattle.captures.specs.declared.fault.FileFault.TheVariants.{Pcap, Pcapng}
use Rattle.captures.specs.declared.fault.ReadStop.{ReadStop}
use Rattle.captures.specs.declared.fault.ReadStop.TheVariants as stop
use Rattle.call_report.specs.declared.status.Status.{Status}
use Rattle.call_report.specs.declared.status.Status.TheVariants.{WrongCapture, ReadFault, OutOfMemory}
use Rattle.call_report.specs.Lines.Capture.{capture_line}

abbrev pub stop_status : ReadStop → Status
stop_status (stop.Capture fault) = WrongCapture
stop_status (stop.Ng fault) = WrongCapture
stop_status stop.ReadFault = ReadFault
stop_status stop.OutOfMemory = OutOfMemory

-- the line of the event, where it is one
abbrev pub stop_line : ReadStop → List ℕ
stop_line (stop.Capture fault) = capture_line 1 (Pcap fault)
stop_line (stop.Ng fault) = capture_line 1 (Pcapng fault)
stop_line stop.ReadFault = []
stop_line stop.OutOfMemory = []
