-- `show`: a line for each frame of a capture.
use Rattle.std.specs.Prelude.{ℕ, ◌≡◌, ◌+◌, List, [], ◌∷◌, ◌++◌, length, take, map, Option, Some, None, Result, Ok, Err}
use Rattle.std.specs.List.{concat, range_with_len}
use Rattle.std.specs.Option.{option_map_or}
use Rattle.captures.specs.declared.fault.FileFault.{FileFault}
use Rattle.captures.specs.Frame.{CapturedFrame, packet_in}
use Rattle.captures.specs.CaptureFile.{CaptureFile, capture_file}
use Rattle.call_report.specs.Lines.Packet.{IsShown, shown_line, shown_end_line}
use Rattle.call_report.specs.Lines.Capture.{capture_line}
use Rattle.call_report.specs.Report.{Report, late_report}
use Rattle.call_report.specs.Event.{Event, packets_limit, capture_event}
use Rattle.call_report.specs.Says.{Says, reading_says}

-- the lines of frames, counted on from a number
abbrev pub AreShown : ℕ → List CapturedFrame → List (List ℕ) → Type 0
AreShown number [] [] = Unit {0}
AreShown number (frame ∷ frames) (line ∷ lines) = (text : List ℕ) × IsShown (packet_in frame) text × (line ≡ shown_line number text) × AreShown (number + 1) frames lines
AreShown number frames lines = ⊥

-- all that may stand in front of a next line: nothing, the first line, the first two, and so on
abbrev pub starts_of : List (List ℕ) → List (List ℕ)
starts_of lines = map (λ n. concat (take n lines)) (range_with_len 0 (length lines + 1))

-- the lines of packets, and behind them their number, or the event that ends the capture before its end
abbrev pub lines_report : List (List ℕ) → Option Event → Report
lines_report lines None = record { body = concat lines ++ shown_end_line (length lines); last = []; pauses = starts_of lines }
lines_report lines (Some event) = record { body = concat lines; last = event.line; pauses = starts_of lines }

-- the lines of as many packets as may be read, or the fault of the file's beginning
abbrev pub CaptureReport : Result CaptureFile FileFault → Report → Type 0
CaptureReport (Err fault) report = report ≡ late_report [] (capture_line 1 fault)
CaptureReport (Ok capture) report = (lines : List (List ℕ)) × AreShown 1 (take packets_limit capture.frames) lines × (report ≡ lines_report lines (capture_event 1 packets_limit capture))

-- by what its file holds: nothing of an absent one
abbrev pub ShowReport : Option (List ℕ) → Report → Type 0
ShowReport None report = report ≡ late_report [] []
ShowReport (Some octets) report = CaptureReport (capture_file octets) report

-- of a capture: that of its event, or 0 at its end
abbrev pub capture_status : Result CaptureFile FileFault → ℕ
capture_status (Err fault) = 5
capture_status (Ok capture) = option_map_or (λ event. event.status) (capture_event 1 packets_limit capture) 0

-- the status that is due by what the file holds, none where it is absent
abbrev pub ShowStatus : Option (List ℕ) → ℕ → Type 0
ShowStatus None status = ⊥
ShowStatus (Some octets) status = status ≡ capture_status (capture_file octets)

-- it reads one file, and prints while it reads
abbrev pub show_says : List ℕ → Says
show_says file = reading_says file ShowReport ShowStatus (Unit {0})
