use Rattle.std.proofs.Common.{◌-◌, ◌≡◌, ◌≤◌, length, Ok}
use Rattle.std.specs.Prelude.{IsTrue}
use Rattle.label_commands.specs.Script.{before}
use Rattle.node_tables.specs.Steps.{tables_after}
use Rattle.label_audit.specs.inside.Reading.{HasRead, file_of}
use Rattle.label_audit.specs.inside.Flow.{Ready, inputs_of}
use Rattle.label_audit.proofs.AllFlows.{JudgedFlows}
use Rattle.label_audit.proofs.flow.judge_flows.Given as goal

-- so many flows were judged, and the others come
abbrev pub invariant-loop-flow : goal.invariant-loop-flow
invariant-loop-flow g l =
    let start = g.D.Depot.state l.initial.depot in
    let w = length l.initial.judge.tables.items in
    record {
      within : l.flow ≤ length l.script.flows;
      tables : Ready l.script w (before l.script l.flow) l.judge.tables.items;
      done : l.replies.done ≡ before l.script l.flow;
      network : l.replies.network ≡ tables_after (length l.script.nodes) l.script.steps (before l.script l.flow);
      read : HasRead {T = Unit {0}} (inputs_of l.script) (Ok tt) l.initial.report l.report start (g.D.Depot.state l.depot);
      judged : IsTrue start.tells → JudgedFlows l.script w start.held (file_of start l.initial.report) l.initial.at l.flow l.at;
    }

abbrev pub decreases-loop-flow : goal.decreases-loop-flow
decreases-loop-flow g l = length l.script.flows - l.flow
