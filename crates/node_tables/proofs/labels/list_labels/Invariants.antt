use Rattle.std.proofs.Common.{◌≡◌, take}
use Rattle.node_tables.specs.Listing.{static_lines}
use Rattle.node_tables.proofs.labels.list_labels.Given as goal

abbrev pub invariant-loop-i : goal.invariant-loop-i
invariant-loop-i l = l.lines ≡ static_lines l.accepts (take l.i l.statics)
