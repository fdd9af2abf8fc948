use Rattle.std.proofs.Common.{◌≡◌, ◌+◌, ◌≤◌, None}
use Rattle.made_run.specs.made_capture.Maker.{Making}
use Rattle.made_run.specs.inside.File.{HasAppended}
use Rattle.made_run.specs.inside.Source.{packets_made, IsSentUpTo}
use Rattle.made_run.proofs.source.fill.Given as goal

-- so many packets were made
abbrev pub invariant-loop : goal.invariant-loop
invariant-loop g l =
    let first = l.fn.source.maker in
    record {
      within : l.counter ≤ l.fn.count;
      maker : ◌≡◌ {A = Making} l.source.maker (record { seed = first.seed; made = first.made + l.counter });
      packets : l.batch.items ≡ packets_made first.seed first.made l.counter;
      sent : IsSentUpTo l.source.maker l.waiting.items l.name (g.D.Depot.state l.depot);
      appended : HasAppended l.fn.name None (g.D.Depot.state l.fn.depot) (g.D.Depot.state l.depot);
    }
