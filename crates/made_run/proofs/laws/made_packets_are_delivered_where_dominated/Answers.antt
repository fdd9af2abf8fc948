use Rattle.made_run.proofs.Law.{made_packets_are_delivered_where_dominated}
use Rattle.made_run.proofs.laws.made_packets_are_delivered_where_dominated.Goals as goal

pub returns : goal.returns
returns c = made_packets_are_delivered_where_dominated
