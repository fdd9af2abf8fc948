-- Events that end a call before its input's end.
use Rattle.std.specs.Prelude.{ℕ, nat_lt, if◌then◌else◌, List, length, Option, Some}
use Rattle.std.specs.Option.{option_map}
use Rattle.captures.specs.declared.fault.FileFault.{FileFault}
use Rattle.captures.specs.Frame.{CapturedFrame}
use Rattle.captures.specs.CaptureFile.{CaptureFile}
use Rattle.call_report.specs.Lines.Fixed.{packets_limit_line}
use Rattle.call_report.specs.Lines.Capture.{capture_line}

-- the status, and the line that tells it
pub record Event : Type 0 where
  pub status : ℕ
  pub line : List ℕ

-- the most packets that one call reads
abbrev pub packets_limit : ℕ
packets_limit = 1048576

-- What ends the reading of a capture, the one with this number: that there are more frames than may be read, else its first fault.
abbrev pub records_event : ℕ → ℕ → List CapturedFrame → Option FileFault → Option Event
records_event number most frames fault =
    if nat_lt most (length frames) then Some (record { status = 7; line = packets_limit_line })
    else option_map (λ f. record { status = 5; line = capture_line number f }) fault

-- the first event of a capture of which so many packets may be read
abbrev pub capture_event : ℕ → ℕ → CaptureFile → Option Event
capture_event number most capture = records_event number most capture.frames capture.fault
