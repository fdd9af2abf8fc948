use Rattle.std.proofs.Common.{◌-◌}
use Rattle.captures.specs.Reader.{IsReadable}
use Rattle.call_report.specs.Outside.{Outside}
use Rattle.netlabel_run.proofs.Shown.{IsShowing}
use Rattle.netlabel_run.proofs.show.show.Given as goal

abbrev pub decreases-loop-head : goal.decreases-loop-head
decreases-loop-head g l = 1048577 - l.shown

-- so many packets were shown, and the reader stands in front of the next
abbrev pub invariant-loop-head : goal.invariant-loop-head
invariant-loop-head g l =
    let depot_of = g.D.Depot.state in
    let sink_of = g.S.Sink.state in
    let before : Outside = record { folder = depot_of l.fn.depot; stream = sink_of l.fn.out } in
    let now : Outside = record { folder = depot_of l.depot; stream = sink_of l.out } in
    record {
      showing : IsShowing l.fn.file before now l.reader l.report.waiting.items l.shown;
      ready : IsReadable now.folder l.reader;
    }
