use Rattle.label_flow.proofs.Law.{versions_without_steps_are_forced as law}
use Rattle.label_flow.proofs.laws.versions_without_steps_are_forced.Goals as goal

pub returns : goal.returns
returns c = law
