use Rattle.std.proofs.Common.{◌-◌, []}
use Rattle.call_report.specs.Outside.{Outside}
use Rattle.ripso_border_run.specs.inside.Course.{IsStanding, IsCrossing, none_counted}
use Rattle.ripso_border_run.proofs.run.cross_frames.Given as goal

abbrev pub decreases-loop-end : goal.decreases-loop-end
decreases-loop-end g l = 1048577 - l.crossing.counts.packets

-- so many packets were dealt with, and the reader stands in front of the next
abbrev pub invariant-loop-end : goal.invariant-loop-end
invariant-loop-end g l =
    let start : Outside = record { folder = g.D.Depot.state l.fn.depot; stream = g.S.Sink.state l.fn.out } in
    let now : Outside = record { folder = g.D.Depot.state l.depot; stream = g.S.Sink.state l.out } in
    record {
      standing : IsStanding l.fn.task now.folder l.crossing.frames l.crossing.counts;
      way : (before : Outside) → IsCrossing l.fn.task l.fn.border.definition.now before start l.fn.first [] l.fn.begun.items [] none_counted
          → IsCrossing l.fn.task l.fn.border.definition.now before now l.crossing.frames [] l.crossing.waits.items l.crossing.report.waiting.items l.crossing.counts;
    }
