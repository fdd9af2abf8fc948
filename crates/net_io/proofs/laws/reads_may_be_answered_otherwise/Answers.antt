use Rattle.net_io.proofs.Law.{reads_may_be_answered_otherwise as law}
use Rattle.net_io.proofs.laws.reads_may_be_answered_otherwise.Goals as goal

pub returns : goal.returns
returns c d = law
