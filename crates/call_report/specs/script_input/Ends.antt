-- What a call leaves that has read the script which its words name, and one that gets none.
use Rattle.std.specs.Prelude.{ℕ, ◌≡◌, IsTrue, List, [], Some, Ok, Err}
use Rattle.net_io.specs.Faults.{Rose, SameCounts}
use Rattle.label_commands.specs.declared.script.Script.{Script}
use Rattle.label_commands.specs.declared.stop.ScriptStop.{ScriptStop}
use Rattle.label_commands.specs.declared.stop.ScriptStop.TheVariants as stop
use Rattle.call_report.specs.declared.status.Status.{Status}
use Rattle.call_report.specs.declared.status.Status.TheVariants.{WrongScript, ReadFault, OutOfMemory, Limit}
use Rattle.call_report.specs.Lines.Script.{script_stop_line}
use Rattle.call_report.specs.Outside.{Outside, IsOnlyRead}
use Rattle.call_report.specs.Printing.{Printed}
use Rattle.call_report.specs.script_input.ScriptFile.{script_read}

-- The file's text was read, and is a script.
pub record HasScript (file : List ℕ) (before after : Outside) (script : Script) : Type 0 where
  pub reads : IsOnlyRead before.folder after.folder
  pub counts : SameCounts before.folder.reads after.folder.reads
  pub stream : after.stream ≡ before.stream
  pub text : List ℕ
  pub holds : IsTrue before.folder.tells → before.folder.held file ≡ Some text
  pub is : script_read file text ≡ Ok script

-- the same with the text
pub record HasText (file : List ℕ) (before after : Outside) (script : Script) (text : List ℕ) : Type 0 where
  pub reads : IsOnlyRead before.folder after.folder
  pub counts : SameCounts before.folder.reads after.folder.reads
  pub stream : after.stream ≡ before.stream
  pub holds : IsTrue before.folder.tells → before.folder.held file ≡ Some text
  pub is : script_read file text ≡ Ok script

-- how a call is to end whose text is no script
abbrev pub script_due : ScriptStop → Status
script_due (stop.Fault fault) = WrongScript
script_due (stop.Limit what number) = Limit
script_due stop.OutOfMemory = OutOfMemory

-- Why a call has no script: its file's text is none, and the line was printed that says why, or couldn't be; or the file couldn't be read; or there was no memory, and nothing was printed.
pub data HasNoScript (file : List ℕ) (before after : Outside) (status : Status) : Type 0 where
  refused : (text : List ℕ) (why : ScriptStop) → (IsTrue before.folder.tells → before.folder.held file ≡ Some text) → script_read file text ≡ Err why
      → SameCounts before.folder.reads after.folder.reads → Printed [] (script_stop_line why) (script_due why) status before.stream after.stream → HasNoScript file before after status
  unread : status ≡ ReadFault → Rose (before.folder.reads file) (after.folder.reads file) → after.stream ≡ before.stream → HasNoScript file before after status
  without_memory : SameCounts before.folder.reads after.folder.reads → Printed [] [] OutOfMemory status before.stream after.stream → HasNoScript file before after status

-- How such a call has ended.
pub record IsScriptEnd (file : List ℕ) (before after : Outside) (status : Status) : Type 0 where
  pub reads : IsOnlyRead before.folder after.folder
  pub told : after.stream.tells ≡ before.stream.tells
  pub why : HasNoScript file before after status
