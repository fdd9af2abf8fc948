use Rattle.std.proofs.Common.{◌≡◌, take}
use Rattle.node_tables.proofs.ranges.copy_ranges.Given as goal

abbrev pub invariant-loop-place : goal.invariant-loop-place
invariant-loop-place l = l.copy.entries ≡ take l.place l.ranges.entries
