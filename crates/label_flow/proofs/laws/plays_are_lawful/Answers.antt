use Rattle.label_flow.proofs.Law.{plays_are_lawful as law}
use Rattle.label_flow.proofs.laws.plays_are_lawful.Goals as goal

pub returns : goal.returns
returns c = law
