use Rattle.ripso_border_run.proofs.Short.{crossed_short}
use Rattle.ripso_border_run.proofs.course.verdict_of.Goals as goal

pub returns-in-Ok-clause-short : goal.returns-in-Ok-clause-short
returns-in-Ok-clause-short c = crossed_short _ _ _ _ _ _ c.cross.ensures
