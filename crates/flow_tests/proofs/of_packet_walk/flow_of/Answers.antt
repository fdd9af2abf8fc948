use Rattle.label_commands.proofs.flow_lines.Law.{hops_are_of_named_nodes}
use Rattle.flow_tests.proofs.of_packet_walk.flow_of.Goals as goal

pub returns : goal.returns
returns g c = hops_are_of_named_nodes _ _ _ _ _ _ _ c.in-Ok.ensures.ok
