use Rattle.version_cross.proofs.Law.{crossing_keeps_the_sum}
use Rattle.version_cross.proofs.laws.crossing_keeps_the_sum.Goals as goal

pub returns : goal.returns
returns c = crossing_keeps_the_sum
