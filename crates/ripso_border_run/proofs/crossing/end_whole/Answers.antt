use Rattle.ripso_border_run.proofs.crossing.end_whole.Goals as goal

pub returns-in-Ok : goal.returns-in-Ok
returns-in-Ok g c = rw c.in-Ok.ensures at c.end_crossed.ensures
