use Rattle.net_io.proofs.Law.{reads_go_on as law}
use Rattle.net_io.proofs.laws.reads_go_on.Goals as goal

pub returns : goal.returns
returns c d = law
