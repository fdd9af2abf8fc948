use Rattle.std.proofs.Common.{◌≡◌, ◌≤◌, ◌-◌, length}
use Rattle.node_tables.specs.Steps.{tables_after}
use Rattle.script_run.proofs.Answering.{IsReplying}
use Rattle.script_run.proofs.replies.answer_steps.Given as goal

abbrev pub decreases-loop-place : goal.decreases-loop-place
decreases-loop-place g l = l.upto - l.place

-- the steps up to here were carried out, and their replies handed on
abbrev pub invariant-loop-place : goal.invariant-loop-place
invariant-loop-place g l = record {
  low : l.from ≤ l.place;
  within : l.place ≤ l.upto;
  tables : l.network ≡ tables_after (length l.names) l.steps l.place;
  replying : IsReplying l.names l.steps l.from (l.upto - l.from) l.initial.report.waiting.items (l.place - l.from) l.report.waiting.items (g.S.Sink.state l.initial.out) (g.S.Sink.state l.out);
}
