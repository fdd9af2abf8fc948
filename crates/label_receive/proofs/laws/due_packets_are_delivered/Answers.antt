use Rattle.label_receive.proofs.Law.{due_packets_are_delivered as law}
use Rattle.label_receive.proofs.laws.due_packets_are_delivered.Goals as goal

pub returns : goal.returns
returns c = law
