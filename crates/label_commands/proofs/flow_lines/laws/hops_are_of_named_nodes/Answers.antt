use Rattle.label_commands.proofs.flow_lines.Law.{hops_are_of_named_nodes}
use Rattle.label_commands.proofs.flow_lines.laws.hops_are_of_named_nodes.Goals as goal

pub returns : goal.returns
returns c = hops_are_of_named_nodes
