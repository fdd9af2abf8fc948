use Rattle.label_commands.proofs.flow_lines.Law.{hops_are_a_route}
use Rattle.label_commands.proofs.flow_lines.laws.hops_are_a_route.Goals as goal

pub returns : goal.returns
returns c = hops_are_a_route
