use Rattle.ripso_border_run.proofs.Appending.{nothing_appended}
use Rattle.ripso_border_run.proofs.course.add_kept.Goals as goal

pub returns-in-Err : goal.returns-in-Err
returns-in-Err g c = rw c.in-Err.is (nothing_appended c.args.output.now c.args.waits.now.items (g.D.Depot.state c.args.depot.now) c.requires.there)
