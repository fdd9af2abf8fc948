use Rattle.netlabel_run.proofs.Law.{labels_are_delivered_exactly_where_granted as law}
use Rattle.netlabel_run.proofs.laws.labels_are_delivered_exactly_where_granted.Goals as goal

pub returns : goal.returns
returns c = law
