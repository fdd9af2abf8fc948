use Rattle.ripso_border.proofs.entering.enter.Goals as goal

pub enter_four-requires-clause-placed : goal.enter_four-requires-clause-placed
enter_four-requires-clause-placed c = (rw c.in-V4.is at c.requires.placed) (rw c.in-V4.is at c.requires.version)
