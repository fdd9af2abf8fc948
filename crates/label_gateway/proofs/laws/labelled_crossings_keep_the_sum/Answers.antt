use Rattle.label_gateway.proofs.Law.{labelled_crossings_keep_the_sum as law}
use Rattle.label_gateway.proofs.laws.labelled_crossings_keep_the_sum.Goals as goal

pub returns : goal.returns
returns c = law
