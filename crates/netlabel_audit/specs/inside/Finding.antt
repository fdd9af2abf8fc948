-- What is found of a report's files on the way, and what tells it.
use Rattle.std.specs.Prelude.{◌≡◌, ◌-◌, ℕ, IsSome, List, [], length, Option, Some, None, Result, Ok, Err}
use Rattle.net_io.specs.Sink.{SinkState}
use Rattle.label_commands.specs.declared.script.Script.{Script}
use Rattle.call_report.specs.declared.status.Status.{Status}
use Rattle.call_report.specs.declared.status.Status.TheVariants.{Done, WrongCapture, ReadFault, OutOfMemory, Limit}
use Rattle.call_report.specs.Event.{Event}
use Rattle.call_report.specs.Lines.Capture.{capture_line}
use Rattle.call_report.specs.Lines.Fixed.{packets_limit_line}
use Rattle.call_report.specs.Printing.{Printed}
use Rattle.call_report.specs.Report.{Folder}
use Rattle.call_report.specs.Status.{status_number}
use Rattle.captures.specs.declared.fault.ReadStop.{ReadStop}
use Rattle.captures.specs.declared.fault.ReadStop.TheVariants as read
use Rattle.captures.specs.declared.fault.FileFault.TheVariants.{Pcap, Pcapng}
use Rattle.net_io.specs.declared.fault.IoFault.{IoFault}
use Rattle.net_io.specs.declared.fault.IoFault.TheVariants as io
use Rattle.script_run.specs.flow_run.Input.{flow_input}
use Rattle.label_audit.specs.declared.audited.Audited.{Audited}
use Rattle.label_audit.specs.declared.audited.Audited.TheVariants.{Yes, NoLine}
use Rattle.netlabel_audit.specs.declared.asked.Audit.{Audit}
use Rattle.netlabel_audit.specs.declared.stop.AuditStop.{AuditStop}
use Rattle.netlabel_audit.specs.declared.stop.AuditStop.TheVariants as stop
use Rattle.netlabel_audit.specs.Lines.{yes_line, no_line, report_limit_line}
use Rattle.netlabel_audit.specs.Outcome.{AuditOutcome, answer_told, decided_by, ByReport}

-- ---- why a report isn't judged

-- why a capture of this number wasn't read on
abbrev pub stop_of_read : ℕ → ReadStop → AuditStop
stop_of_read flow (read.Capture fault) = stop.Broken flow (Pcap fault)
stop_of_read flow (read.Ng fault) = stop.Broken flow (Pcapng fault)
stop_of_read flow read.ReadFault = stop.Unread
stop_of_read flow read.OutOfMemory = stop.OutOfMemory

abbrev pub stop_of_fault : IoFault → AuditStop
stop_of_fault io.Failed = stop.Unread
stop_of_fault io.OutOfMemory = stop.OutOfMemory

-- the event, where it is one
abbrev pub event_of : AuditStop → Option Event
event_of stop.LongReport = Some (record { status = 7; line = report_limit_line })
event_of (stop.Broken flow fault) = Some (record { status = 5; line = capture_line flow fault })
event_of stop.TooMany = Some (record { status = 7; line = packets_limit_line })
event_of stop.Unread = None
event_of stop.OutOfMemory = None

-- ---- captures read to their ends

-- All of a capture was read, and so many packets may be read behind it.
pub record IsReadWhole (number most : ℕ) (held : Option (List ℕ)) (left : ℕ) : Type 0 where
  pub event : (flow_input number most held).event ≡ None
  pub format : IsSome (flow_input number most held).format
  pub count : left ≡ most - length (flow_input number most held).frames

-- or it ends by an event, or something was refused
abbrev pub IsReadTo : ℕ → ℕ → Option (List ℕ) → Result ℕ AuditStop → Type 0
IsReadTo number most held (Ok left) = IsReadWhole number most held left
IsReadTo number most held (Err why) = (event : Event) → event_of why ≡ Some event → (flow_input number most held).event ≡ Some event

-- ---- what is found

abbrev pub outcome_of : Audited → AuditOutcome
outcome_of Yes = answer_told 0 yes_line
outcome_of (NoLine line) = answer_told 8 (no_line line)

-- the outcome that is due behind the script, where nothing was refused
abbrev pub IsFound : Audit → Script → Folder → Result Audited AuditStop → Type 0
IsFound asked script held (Ok verdict) = ByReport script asked.workers held (held asked.report) (outcome_of verdict)
IsFound asked script held (Err why) = (event : Event) → event_of why ≡ Some event → ByReport script asked.workers held (held asked.report) (decided_by event.status event.line)

-- ---- what tells it

abbrev pub verdict_line : Audited → List ℕ
verdict_line Yes = yes_line
verdict_line (NoLine line) = no_line line

abbrev pub verdict_number : Audited → ℕ
verdict_number Yes = 0
verdict_number (NoLine line) = 8

-- the status of a call that was to end with `Done`, and has a number of its own for that
abbrev pub number_as : ℕ → Status → ℕ
number_as done Done = done
number_as done other = status_number other

-- the line was printed, or nothing was
abbrev pub IsToldStop : AuditStop → SinkState → SinkState → Status → Type 0
IsToldStop stop.LongReport before after status = Printed [] report_limit_line Limit status before after
IsToldStop (stop.Broken flow fault) before after status = Printed [] (capture_line flow fault) WrongCapture status before after
IsToldStop stop.TooMany before after status = Printed [] packets_limit_line Limit status before after
IsToldStop stop.Unread before after status = (status ≡ ReadFault) × (after ≡ before)
IsToldStop stop.OutOfMemory before after status = (status ≡ OutOfMemory) × (after ≡ before)

abbrev pub IsToldVerdict : Audited → SinkState → SinkState → ℕ → Type 0
IsToldVerdict verdict before after number = (status : Status) × (number ≡ number_as (verdict_number verdict) status) × Printed (verdict_line verdict) [] Done status before after

abbrev pub IsTold : Result Audited AuditStop → SinkState → SinkState → ℕ → Type 0
IsTold (Ok verdict) before after number = IsToldVerdict verdict before after number
IsTold (Err why) before after number = (status : Status) × (number ≡ status_number status) × IsToldStop why before after status
