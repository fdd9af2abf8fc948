use Rattle.std.proofs.Common.{◌≡◌, take}
use Rattle.label_commands.proofs.node_readings.reading.widened_categories.Given as goal

abbrev pub invariant-loop-category : goal.invariant-loop-category
invariant-loop-category l = l.wide.items ≡ take l.category-index l.cats
