use Rattle.std.proofs.Common.{◌≡◌, ◌≤◌, ◌-◌, length}
use Rattle.net_io.specs.Sink.{SinkState}
use Rattle.node_tables.specs.Steps.{tables_after}
use Rattle.label_commands.specs.Script.{before}
use Rattle.call_report.specs.Event.{packets_limit}
use Rattle.call_report.specs.Printing.{IsUnderWay}
use Rattle.script_run.specs.Report.{first_replies}
use Rattle.script_run.proofs.Underway.{AreUnderWay}
use Rattle.script_run.proofs.run.run_flows.Given as goal

abbrev pub decreases-loop-done : goal.decreases-loop-done
decreases-loop-done g l = length l.script.flows - l.done

-- so many flows have run, the next one begins with the tables of the steps above it, and no more packets may be read than one call reads
abbrev pub invariant-loop-done : goal.invariant-loop-done
invariant-loop-done g l = record {
  within : l.done ≤ length l.script.flows;
  few : l.left ≤ packets_limit;
  count : length l.seen.items ≡ l.done;
  tables : l.next.network ≡ tables_after (length l.script.nodes) l.script.steps (before l.script l.done);
  runs : (start : SinkState) → IsUnderWay (first_replies l.script) l.initial.next.report.waiting.items start (g.S.Sink.state l.initial.out)
      → AreUnderWay l.script l.workers (record { folder = g.D.Depot.state l.initial.depot; stream = start }) (record { folder = g.D.Depot.state l.depot; stream = g.S.Sink.state l.out })
      l.next.report.waiting.items l.left l.seen.items;
}
