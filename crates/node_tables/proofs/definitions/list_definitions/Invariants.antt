use Rattle.std.proofs.Common.{◌≡◌, take}
use Rattle.node_tables.specs.Listing.{definition_lines}
use Rattle.node_tables.proofs.definitions.list_definitions.Given as goal

abbrev pub invariant-loop-i : goal.invariant-loop-i
invariant-loop-i l = l.lines ≡ definition_lines (take l.i l.dois) l.proto
