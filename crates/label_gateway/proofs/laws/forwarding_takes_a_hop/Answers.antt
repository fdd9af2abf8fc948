use Rattle.label_gateway.proofs.Law.{forwarding_takes_a_hop}
use Rattle.label_gateway.proofs.laws.forwarding_takes_a_hop.Goals as goal

pub returns : goal.returns
returns c = forwarding_takes_a_hop
