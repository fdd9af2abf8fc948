use Rattle.netlabel_run.proofs.Law.{agreement_is_told_where_neighbours_agree}
use Rattle.netlabel_run.proofs.laws.agreement_is_told_where_neighbours_agree.Goals as goal

pub returns : goal.returns
returns c = agreement_is_told_where_neighbours_agree
