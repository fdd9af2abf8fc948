use Rattle.label_gateway.proofs.Law.{forwarded_packets_keep_the_sum as law}
use Rattle.label_gateway.proofs.laws.forwarded_packets_keep_the_sum.Goals as goal

pub returns : goal.returns
returns c = law
