-- How the flows of a script end, with what was printed, what was made, and what was left as it was.
use Rattle.std.specs.Prelude.{ℕ, ◌≡◌, ◌≢◌, ◌≤◌, ◌⊎◌, ◌-◌, IsTrue, IsSome, List, [], ◌∷◌, length, take, All, Option, Some, None}
use Rattle.net_io.specs.Sink.{SinkState}
use Rattle.net_io.specs.Faults.{Rose, SameCounts}
use Rattle.label_commands.specs.declared.script.Script.{Script}
use Rattle.label_commands.specs.declared.flow_lines.flow.FlowLine.{FlowLine}
use Rattle.call_report.specs.declared.status.Status.{Status}
use Rattle.call_report.specs.declared.status.Status.TheVariants.{Done, NoForm, WrongScript, ReadFault, WriteFault, WrongCapture, OutOfMemory, Limit}
use Rattle.call_report.specs.Report.{Versions}
use Rattle.call_report.specs.Event.{Event, packets_limit}
use Rattle.call_report.specs.Outside.{Outside, NoneFailed, NoFileFailed, NoInputFailed, NoWriteFailed}
use Rattle.call_report.specs.Output.{IsBegun, IsMade}
use Rattle.call_report.specs.Printing.{Printed}
use Rattle.script_run.specs.flow_run.Run.{FlowRun}
use Rattle.label_flow.specs.flow_access.Valid.{plan_of}
use Rattle.script_run.specs.Runs.{AreRuns, IsLawfulRun, is_done, last_event}
use Rattle.script_run.specs.Report.{runs_report, pause_text, runs_outputs}

-- the last of the flows that were begun
abbrev pub last_of : List FlowLine → Option FlowLine
last_of [] = None
last_of (flow ∷ []) = Some flow
last_of (flow ∷ next ∷ flows) = last_of (next ∷ flows)

abbrev pub flow_in_hand : Script → Versions → Option FlowLine
flow_in_hand script seen = last_of (take (length seen) script.flows)

-- a read of the input of the flow in hand has failed, or the making of its output
pub record InputRose (flow : Option FlowLine) (before after : Outside) : Type 0 where
  pub of : FlowLine
  pub is : flow ≡ Some of
  pub rose : Rose (before.folder.reads of.input) (after.folder.reads of.input)
      ⊎ ((name : List ℕ) × (of.output ≡ Some name) × Rose (before.folder.creates name) (after.folder.creates name))

-- an append to its output has failed
pub record OutputRose (flow : Option FlowLine) (before after : Outside) : Type 0 where
  pub of : FlowLine
  pub is : flow ≡ Some of
  pub name : List ℕ
  pub makes : of.output ≡ Some name
  pub rose : Rose (before.folder.appends name) (after.folder.appends name)

-- no read and no making has failed, unless one of the flow in hand
abbrev pub HasInputs : Option FlowLine → Outside → Outside → Type 0
HasInputs flow before after = NoInputFailed before after ⊎ InputRose flow before after

-- What moved where the call ends with this status. A read or a making that failed decides only where no write and no append has failed, a write only where no
-- append has. Where a write or an append decides, or memory ran out, no read and no making has failed but of the flow in hand. Where a capture decides, no call of
-- the folder has failed.
abbrev pub IsCauseOf : Option FlowLine → Status → Outside → Outside → Type 0
IsCauseOf flow Done before after = NoneFailed before after
IsCauseOf flow NoForm before after = ⊥
IsCauseOf flow WrongScript before after = ⊥
IsCauseOf flow ReadFault before after = NoWriteFailed before after × InputRose flow before after
IsCauseOf flow WriteFault before after =
    ((SameCounts before.folder.appends after.folder.appends × Rose before.stream.faults after.stream.faults) ⊎ OutputRose flow before after) × HasInputs flow before after
IsCauseOf flow WrongCapture before after = IsSome flow × NoFileFailed before after
IsCauseOf flow OutOfMemory before after = NoWriteFailed before after × HasInputs flow before after
IsCauseOf flow Limit before after = IsSome flow × NoFileFailed before after

-- The last flow ends with this event's status.
pub record EndsBy (status : ℕ) (runs : List FlowRun) : Type 0 where
  pub event : Event
  pub is : last_event runs ≡ Some event
  pub has : event.status ≡ status

-- what ends the flows: their end, an event of a capture, a call of the folder that failed, or another refusal
abbrev pub IsDue : Script → List FlowRun → Option FlowLine → Outside → Outside → Status → Type 0
IsDue script runs flow before after Done = IsTrue (is_done script runs)
IsDue script runs flow before after NoForm = ⊥
IsDue script runs flow before after WrongScript = ⊥
IsDue script runs flow before after ReadFault = InputRose flow before after
IsDue script runs flow before after WriteFault = OutputRose flow before after
IsDue script runs flow before after WrongCapture = EndsBy 5 runs
IsDue script runs flow before after OutOfMemory = Unit {0}
IsDue script runs flow before after Limit = EndsBy 7 runs

-- what is printed in front of it: all that may stand there where a call of the folder failed, else the body of the report
abbrev pub due_body : Script → List FlowRun → Status → List ℕ
due_body script runs ReadFault = pause_text script runs
due_body script runs WriteFault = pause_text script runs
due_body script runs due = (runs_report script runs).body

-- and its line: that of an event
abbrev pub due_line : Script → List FlowRun → Status → List ℕ
due_line script runs WrongCapture = (runs_report script runs).last
due_line script runs Limit = (runs_report script runs).last
due_line script runs due = []

-- how it was printed: as it is by a call that is to end so; an append that has failed came first, and its status stands however the print ends
abbrev pub IsPrintedSo : List ℕ → List ℕ → Status → Status → SinkState → SinkState → Type 0
IsPrintedSo body line WriteFault status before after = (ending : Status) × (status ≡ WriteFault) × Printed body line WriteFault ending before after
IsPrintedSo body line due status before after = Printed body line due status before after

-- no call of the folder failed, and memory sufficed for the flows
abbrev pub HasFinished : Status → Type 0
HasFinished Done = Unit {0}
HasFinished WrongCapture = Unit {0}
HasFinished Limit = Unit {0}
HasFinished due = ⊥

-- What the flows have done, where the folder tells what it holds.
pub record HasRuns (script : Script) (workers : ℕ) (before after : Outside) (seen : Versions) (due status : Status) : Type 0 where
  pub runs : List FlowRun
  pub are : AreRuns (plan_of script) before.folder.held 1 packets_limit script.flows seen runs
  pub lawful : All (IsLawfulRun script workers) runs
  pub is_due : IsDue script runs (flow_in_hand script seen) before after due
  pub printed : IsPrintedSo (due_body script runs due) (due_line script runs due) due status before.stream after.stream
  pub begun : All (λ output. IsBegun output before.folder.held after.folder.held) (runs_outputs runs)
  -- with every status those of the flows in front of the one in hand hold all that they are to hold
  pub earlier : All (λ output. IsMade output before.folder.held after.folder.held) (runs_outputs (take (length seen - 1) runs))
  pub made : HasFinished due → All (λ output. IsMade output before.folder.held after.folder.held) (runs_outputs runs)
  pub others : (name : List ℕ) → All (λ run. run.flow.output ≢ Some name) runs → after.folder.held name ≡ before.folder.held name

-- How the flows of a script end.
pub record ScriptEnds (script : Script) (workers : ℕ) (before after : Outside) (seen : Versions) (status : Status) : Type 0 where
  pub begun : length seen ≤ length script.flows
  pub due : Status
  pub runs : IsTrue before.folder.tells → HasRuns script workers before after seen due status
  pub cause : IsCauseOf (flow_in_hand script seen) status before after
  -- no append has failed, unless one ends the flows
  pub appends : due ≢ WriteFault → SameCounts before.folder.appends after.folder.appends
  -- flows without outputs make nothing and append nothing
  pub still : All (λ flow. flow.output ≡ None) (take (length seen) script.flows)
      → SameCounts before.folder.creates after.folder.creates × SameCounts before.folder.appends after.folder.appends
  pub folder_told : after.folder.tells ≡ before.folder.tells
  pub stream_told : after.stream.tells ≡ before.stream.tells
