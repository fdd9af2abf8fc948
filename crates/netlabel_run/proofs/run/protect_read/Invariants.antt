use Rattle.std.proofs.Common.{◌≡◌}
use Rattle.netlabel_run.proofs.run.protect_read.Given as goal

-- the folder stands as it stood
abbrev pub invariant-loop-flow : goal.invariant-loop-flow
invariant-loop-flow g l = record {
  same : g.D.Depot.state l.depot ≡ g.D.Depot.state l.fn.depot;
}
