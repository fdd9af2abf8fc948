use Rattle.label_gateway.proofs.Law.{inexpressible_packets_have_no_way_on}
use Rattle.label_gateway.proofs.laws.inexpressible_packets_have_no_way_on.Goals as goal

pub returns : goal.returns
returns c = inexpressible_packets_have_no_way_on
