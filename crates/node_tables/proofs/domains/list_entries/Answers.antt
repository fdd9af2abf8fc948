use Rattle.std.proofs.Common.{[]}
use Rattle.std.specs.Prelude.{option_copied}
use Rattle.domain_map.specs.Domains.{lines_of}
use Rattle.node_tables.specs.Listing.{domain_line}
use Rattle.node_tables.proofs.Listings.{listed_next}
use Rattle.node_tables.proofs.Defined.{protocol_given}
use Rattle.node_tables.proofs.domains.list_entries.Goals as goal

pub push_entry-requires : goal.push_entry-requires
push_entry-requires c =
    let e = c.entry-prefix.result in
    protocol_given c.args.map.now c.loop-i.i (option_copied e.0, e.1, e.2) c.requires c.entry-prefix.ensures

pub loop-i-preserved : goal.loop-i-preserved
loop-i-preserved c =
    let e = c.entry-prefix.result in
    listed_next domain_line (lines_of c.args.map.now) c.loop-i.i (option_copied e.0, e.1, e.2) [] c.loop-i.lines c.push_entry.new.lines c.entry-prefix.ensures c.loop-i.invariant c.in_ok-push_entry.ensures
