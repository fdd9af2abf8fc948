use Rattle.std.proofs.Common.{◌≡◌, take}
use Rattle.doi_table.specs.Pairs.{flipped}
use Rattle.doi_table.proofs.sorted.turned.Given as goal

abbrev pub invariant-loop-first : goal.invariant-loop-first
invariant-loop-first l = l.back.items ≡ flipped (take l.first-index l.pairs)
