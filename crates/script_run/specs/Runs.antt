-- How far the flows of a script have run, under the versions of the tables that were printed.
use Rattle.std.specs.Prelude.{ℕ, ◌≡◌, ◌+◌, ◌-◌, ◌<◌, ◌⊎◌, ◌==◌, ◌&&◌, if◌then◌else◌, Bool, IsTrue, IsSome, List, [], ◌∷◌, length, take, All, Option, Some, None}
use Rattle.std.specs.List.{list_all}
use Rattle.label_commands.specs.declared.script.Script.{Script}
use Rattle.label_commands.specs.Script.{before, after}
use Rattle.label_commands.specs.declared.flow_lines.flow.FlowLine.{FlowLine}
use Rattle.shared_tables.specs.Plan.{PlanState}
use Rattle.label_flow.specs.Schedule.{AreLawful, versions_in}
use Rattle.captures.specs.declared.format.CaptureFormat.{CaptureFormat}
use Rattle.call_report.specs.Report.{Folder, Versions}
use Rattle.call_report.specs.Event.{Event}
use Rattle.label_flow.specs.flow_access.Valid.{plan_of}
use Rattle.script_run.specs.flow_run.Input.{flow_input, packets_in}
use Rattle.script_run.specs.flow_run.Run.{FlowRun, IsRun, is_judged, goes_on}

-- The first of these flows have run so, numbered from here on, where so many packets may be read: each that has versions, and no other, and each
-- but the last one up to its end, so that the next one came.
abbrev pub AreRuns : PlanState → Folder → ℕ → ℕ → List FlowLine → Versions → List FlowRun → Type 0
AreRuns plan held number most flows [] [] = Unit {0}
AreRuns plan held number most (flow ∷ flows) (lists ∷ seen) (run ∷ runs) =
    (run.number ≡ number) × (run.flow ≡ flow) × (run.input ≡ flow_input number most (held flow.input)) × IsRun plan run lists
    × (0 < length seen → IsTrue (goes_on run)) × AreRuns plan held (number + 1) (most - length lists) flows seen runs
AreRuns plan held number most flows seen runs = ⊥

-- all flows have run to their ends
abbrev pub is_done : Script → List FlowRun → Bool
is_done script runs = (length runs == length script.flows) && list_all goes_on runs

-- the event that ends the last of them, behind all its packets
abbrev pub last_event : List FlowRun → Option Event
last_event [] = None
last_event (run ∷ []) = if is_judged run then run.input.event else None
last_event (run ∷ next ∷ runs) = last_event (next ∷ runs)

-- Nothing is left out: all flows have run, or those up to the one whose capture ends the call, and each to its capture's end or to the event there.
pub record AreWholeRuns (script : Script) (runs : List FlowRun) : Type 0 where
  pub judged : All (λ run. IsTrue (is_judged run)) runs
  pub last : IsTrue (is_done script runs) ⊎ IsSome (last_event runs)

-- The versions of a flow's packets are lawful with so many workers: from those of the steps above the flow to those of the steps above the next one,
-- they fall neither along a packet's hops nor along a worker's packets.
abbrev pub IsLawfulRun : Script → ℕ → FlowRun → Type 0
IsLawfulRun script workers run =
    AreLawful (plan_of script) run.flow.hops workers run.flow.before (before script run.number) (take (length run.pairs) (packets_in run.input)) (versions_in run.pairs)

-- No step stands beside a flow: in front of the next one, or in all where it is the last one, are as many as above it.
abbrev pub HasNoneBeside : Script → Type 0
HasNoneBeside script = (flow : ℕ) → flow < length script.flows → after script flow ≡ before script flow

-- the status of an event, or else, behind an input that could be begun, what comes then; none where it is absent
abbrev pub StatusOr : Option Event → Option CaptureFormat → Type 0 → ℕ → Type 0
StatusOr (Some event) format behind status = status ≡ event.status
StatusOr None (Some format) behind status = behind
StatusOr None None behind status = ⊥

-- The status that is due when these flows run, numbered from here on, where so many packets may be read: that of the first event, 0 where none comes.
abbrev pub FlowsStatus : Folder → ℕ → ℕ → List FlowLine → ℕ → Type 0
FlowsStatus held number most [] status = status ≡ 0
FlowsStatus held number most (flow ∷ flows) status =
    let input = flow_input number most (held flow.input) in
    StatusOr input.event input.format (FlowsStatus held (number + 1) (most - length input.frames) flows status) status
