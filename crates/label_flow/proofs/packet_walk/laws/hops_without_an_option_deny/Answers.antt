use Rattle.label_flow.proofs.packet_walk.Law.{hops_without_an_option_deny}
use Rattle.label_flow.proofs.packet_walk.laws.hops_without_an_option_deny.Goals as goal

pub returns : goal.returns
returns c = hops_without_an_option_deny
