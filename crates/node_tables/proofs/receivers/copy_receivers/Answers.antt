use Rattle.std.proofs.Common.{◌∙◌}
use Rattle.indexmap.specs.IndexMap.{insert_entry}
use Rattle.domain_map.specs.contracts.address_text.address.AddressPartialEq.TheImpl.{ghosts}
use Rattle.node_tables.proofs.Addresses.{address_eq_flips}
use Rattle.node_tables.proofs.Entries.{copied_next}
use Rattle.node_tables.proofs.receivers.copy_receivers.Goals as goal

pub loop-place-preserved : goal.loop-place-preserved
loop-place-preserved c =
    let entries = c.args.receivers.now.entries in
    let e = c.entry_at.result in
    c.in_ok-insert.ensures.entries
    ∙ (λ j. insert_entry ghosts.eq (c.loop-place.invariant j) e.0.now (c.in_ok-copy.ensures j))
    ∙ copied_next ghosts.eq address_eq_flips entries c.loop-place.place (e.0.now, e.1.now) c.len-place-end.ensures.unique c.entry_at.ensures
