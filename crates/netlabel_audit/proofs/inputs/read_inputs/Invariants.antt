use Rattle.std.proofs.Common.{◌≡◌, ◌≤◌, ◌+◌, List, ℕ, Ok, length, map}
use Rattle.std.specs.Prelude.{IsTrue, Contains}
use Rattle.label_commands.specs.declared.flow_lines.flow.FlowLine.{FlowLine}
use Rattle.call_report.specs.Event.{packets_limit}
use Rattle.label_audit.specs.Reads.{OnlyReadsAmong}
use Rattle.netlabel_audit.specs.Inputs.{inputs_end}
use Rattle.netlabel_audit.specs.declared.stop.AuditStop.TheVariants.{Unread}
use Rattle.netlabel_audit.proofs.inputs.read_inputs.Given as goal

abbrev pub decreases-loop-rest : goal.decreases-loop-rest
decreases-loop-rest g l = length l.rest

-- whatever ends the captures from here on ends all of them
abbrev pub invariant-loop-rest : goal.invariant-loop-rest
invariant-loop-rest g l =
    let start = g.D.Depot.state l.fn.depot in
    let names = map (λ (flow : FlowLine). flow.input) l.fn.flows in
    record {
      number : l.number + length l.rest ≡ 1 + length l.fn.flows;
      within : length l.rest ≤ length l.fn.flows;
      among : (name : List ℕ) → Contains (map (λ (flow : FlowLine). flow.input) l.rest) name → Contains names name;
      end : IsTrue start.tells → inputs_end start.held 1 packets_limit l.fn.flows ≡ inputs_end start.held l.number l.left l.rest;
      frame : OnlyReadsAmong {T = Unit {0}} Unread (Ok tt) names start (g.D.Depot.state l.depot);
    }
