use Rattle.label_receive.proofs.Law.{verdicts_are_determined as law}
use Rattle.label_receive.proofs.laws.verdicts_are_determined.Goals as goal

pub returns : goal.returns
returns c d = law
