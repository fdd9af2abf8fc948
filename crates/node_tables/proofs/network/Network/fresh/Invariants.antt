use Rattle.std.proofs.Common.{◌≡◌}
use Rattle.std.specs.Prelude.{replicate}
use Rattle.node_tables.specs.Tables.{fresh}
use Rattle.node_tables.proofs.network.Network.fresh.Given as goal

abbrev pub invariant-loop-node : goal.invariant-loop-node
invariant-loop-node l = l.tables.items ≡ replicate l._node fresh
