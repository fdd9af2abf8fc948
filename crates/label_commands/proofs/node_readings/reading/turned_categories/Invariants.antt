use Rattle.std.proofs.Common.{◌≡◌, take}
use Rattle.doi_table.specs.Pairs.{flipped}
use Rattle.label_commands.proofs.node_readings.reading.turned_categories.Given as goal

abbrev pub invariant-loop-category : goal.invariant-loop-category
invariant-loop-category l = l.turned.items ≡ flipped (take l.category-index l.cats)
