use Rattle.label_gateway.proofs.Law.{forwarded_packets_may_go_on}
use Rattle.label_gateway.proofs.laws.forwarded_packets_may_go_on.Goals as goal

pub returns : goal.returns
returns c = forwarded_packets_may_go_on
