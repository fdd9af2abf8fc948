use Rattle.std.proofs.Common.{◌≡◌, take}
use Rattle.doi_table.specs.Definition.{AreBelow}
use Rattle.doi_table.proofs.sorted.widened.Given as goal

abbrev pub invariant-loop-first : goal.invariant-loop-first
invariant-loop-first l = record {
  so_far : l.wide.items ≡ take l.first-index l.pairs;
  below : AreBelow 256 l.wide.items;
}
