use Rattle.call_report.specs.Outside.{Outside}
use Rattle.ripso_border_run.proofs.run.cross_frames.Goals as goal

pub loop-end-init : goal.loop-end-init
loop-end-init g c =
    let made = c.new-crossing.ensures in
    record {
      standing = rw (made.frames, made.counts) c.requires.standing;
      way = λ before begun. rw (made.frames, made.waits, made.waiting, made.counts) begun;
    }

pub returns-in-Err : goal.returns-in-Err
returns-in-Err g c before begun =
    let after : Outside = record { folder = g.D.Depot.state c.finish.new.depot; stream = g.S.Sink.state c.finish.new.out } in
    c.in-Err.ensures.crossing before (c.loop-end.invariant.way before begun) after c.finish.result (rw c.as_str.ensures at c.finish.ensures)

pub loop-end-preserved : goal.loop-end-preserved
loop-end-preserved g c = record {
  standing = c.in-Ok.ensures.standing;
  way = λ before begun. c.in-Ok.ensures.crossing before (c.loop-end.invariant.way before begun);
}
