use Rattle.ripso_border_run.proofs.crossing.end_broken.Goals as goal

pub returns-in-Ok : goal.returns-in-Ok
returns-in-Ok g c = rw (c.deref.ensures.value, c.in-Ok.ensures.ok, c.new-line.ensures.items) at c.end_crossed.ensures
