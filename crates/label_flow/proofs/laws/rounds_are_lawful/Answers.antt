use Rattle.label_flow.proofs.Law.{rounds_are_lawful as law}
use Rattle.label_flow.proofs.laws.rounds_are_lawful.Goals as goal

pub returns : goal.returns
returns c = law
