use Rattle.std.proofs.Common.{refl}
use Rattle.ripso_border_run.specs.inside.Course.{appended, unappended}
use Rattle.ripso_border_run.proofs.crossing.end_crossed.Goals as goal

pub returns-in-Ok : goal.returns-in-Ok
returns-in-Ok g c = appended tt c.finish_capture.new.waits.items c.in-Ok.ensures.appended c.in-Ok.ensures.empty c.end.ensures

pub returns-in-Err : goal.returns-in-Err
returns-in-Err g c = unappended c.in-Err.fault c.finish_capture.new.waits.items c.in-Err.ensures.appended c.after_write.ensures refl
