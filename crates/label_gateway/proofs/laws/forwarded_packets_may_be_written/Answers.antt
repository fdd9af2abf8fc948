use Rattle.label_gateway.proofs.Law.{forwarded_packets_may_be_written}
use Rattle.label_gateway.proofs.laws.forwarded_packets_may_be_written.Goals as goal

pub returns : goal.returns
returns c = forwarded_packets_may_be_written
