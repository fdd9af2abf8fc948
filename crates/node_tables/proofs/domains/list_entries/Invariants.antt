use Rattle.std.proofs.Common.{◌≡◌, take}
use Rattle.std.specs.Prelude.{map}
use Rattle.domain_map.specs.Domains.{lines_of}
use Rattle.node_tables.specs.Listing.{domain_line}
use Rattle.node_tables.proofs.domains.list_entries.Given as goal

abbrev pub invariant-loop-i : goal.invariant-loop-i
invariant-loop-i l = l.lines ≡ map domain_line (take l.i (lines_of l.map))
