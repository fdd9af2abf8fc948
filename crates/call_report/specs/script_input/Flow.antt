-- The flow of a script, and the versions of its tables, that words name.
use Rattle.std.specs.Prelude.{ℕ, zero, suc, ◌≡◌, List, length, replicate, slice_get, Option, None, unwrap_or}
use Rattle.label_commands.specs.declared.script.Script.{Script}
use Rattle.label_commands.specs.Script.{before}
use Rattle.label_commands.specs.declared.flow_lines.flow.FlowLine.{FlowLine}
use Rattle.label_flow.specs.packet_walk.Walk.{Rises}

-- the flow of this number, counted from 1
abbrev pub flow_numbered : Script → ℕ → Option FlowLine
flow_numbered script zero = None
flow_numbered script (suc place) = slice_get script.flows place

-- the versions that the words name; else each hop has that of the commands above the flow
abbrev pub versions_for : FlowLine → Option (List ℕ) → List ℕ
versions_for flow named = unwrap_or named (replicate (length flow.hops) flow.before)

-- A packet of the flow of this number can have these versions: one for each hop, from that of the commands above the flow to that of those above the
-- next one, and none falls.
pub record AreVersionsOf (script : Script) (number : ℕ) (flow : FlowLine) (versions : List ℕ) : Type 0 where
  pub each : length versions ≡ length flow.hops
  pub rises : Rises flow.before (before script number) versions
