use Rattle.version_cross.proofs.Law.{crossed_packets_can_cross_back}
use Rattle.version_cross.proofs.laws.crossed_packets_can_cross_back.Goals as goal

pub returns : goal.returns
returns c = crossed_packets_can_cross_back
