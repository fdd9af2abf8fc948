-- The status of a call as the code has it, and its number.
use Rattle.std.specs.Prelude.{ℕ}
use Rattle.net_io.specs.declared.fault.IoFault.{IoFault}
use Rattle.net_io.specs.declared.fault.IoFault.TheVariants as io
use Rattle.call_report.specs.declared.status.Status.{Status}
use Rattle.call_report.specs.declared.status.Status.TheVariants.{Done, NoForm, WrongScript, ReadFault, WriteFault, WrongCapture, OutOfMemory, Limit}

abbrev pub status_number : Status → ℕ
status_number Done = 0
status_number NoForm = 1
status_number WrongScript = 2
status_number ReadFault = 3
status_number WriteFault = 4
status_number WrongCapture = 5
status_number OutOfMemory = 6
status_number Limit = 7

-- where a write was refused
abbrev pub write_status : IoFault → Status
write_status io.Failed = WriteFault
write_status io.OutOfMemory = OutOfMemory
