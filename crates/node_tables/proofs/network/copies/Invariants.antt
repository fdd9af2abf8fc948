use Rattle.std.proofs.Common.{◌≡◌, take}
use Rattle.node_tables.proofs.network.copies.Given as goal

abbrev pub invariant-loop-tables : goal.invariant-loop-tables
invariant-loop-tables l = l.copies.items ≡ take l.tables-index l.nodes
