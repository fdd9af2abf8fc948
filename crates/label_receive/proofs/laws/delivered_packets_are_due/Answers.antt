use Rattle.label_receive.proofs.Law.{delivered_packets_are_due as law}
use Rattle.label_receive.proofs.laws.delivered_packets_are_due.Goals as goal

pub returns : goal.returns
returns c = law
