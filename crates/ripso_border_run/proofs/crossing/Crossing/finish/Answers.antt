use Rattle.ripso_border_run.proofs.crossing.Crossing.finish.Goals as goal

pub returns-in-Whole : goal.returns-in-Whole
returns-in-Whole g c = rw c.in-Whole.is c.end_whole.ensures

pub returns-in-Broken : goal.returns-in-Broken
returns-in-Broken g c = rw c.in-Broken.is c.end_broken.ensures

pub returns-in-Full : goal.returns-in-Full
returns-in-Full g c = rw c.in-Full.is (rw c.packets_limit.ensures at c.end_crossed.ensures)
