use Rattle.version_cross.proofs.Law.{crossing_keeps_the_length}
use Rattle.version_cross.proofs.laws.crossing_keeps_the_length.Goals as goal

pub returns : goal.returns
returns c = crossing_keeps_the_length
