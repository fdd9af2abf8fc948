use Rattle.call_report.proofs.Law.{a_step_is_answered_at_its_node}
use Rattle.call_report.proofs.laws.a_step_is_answered_at_its_node.Goals as goal

pub returns : goal.returns
returns c = a_step_is_answered_at_its_node
