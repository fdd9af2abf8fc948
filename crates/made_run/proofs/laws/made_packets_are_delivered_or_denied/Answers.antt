use Rattle.made_run.proofs.Law.{made_packets_are_delivered_or_denied}
use Rattle.made_run.proofs.laws.made_packets_are_delivered_or_denied.Goals as goal

pub returns : goal.returns
returns c = made_packets_are_delivered_or_denied
