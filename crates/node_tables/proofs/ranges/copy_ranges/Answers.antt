use Rattle.std.proofs.Common.{◌≡◌, ◌∙◌}
use Rattle.std.specs.Cmp.Lexicographic.{options_equiv}
use Rattle.std.proofs.lemmas.Cmp.{nat_list_eq_equiv}
use Rattle.indexmap.specs.IndexMap.{insert_entry}
use Rattle.domain_map.specs.Domains.{same_domain}
use Rattle.node_tables.proofs.Entries.{copied_next}
use Rattle.node_tables.proofs.ranges.copy_ranges.Goals as goal

pub loop-place-preserved : goal.loop-place-preserved
loop-place-preserved c =
    let entries = c.args.ranges.now.entries in
    let e = c.entry_at.result in
    let key : c.key_of.result ≡ e.0.now = c.key_of.ensures ∙ c.as_ref.ensures.value in
    c.in_ok-insert.ensures.entries
    ∙ (λ j. insert_entry same_domain (c.loop-place.invariant j) (key j) (c.in_ok-copy.ensures j))
    ∙ copied_next same_domain (options_equiv nat_list_eq_equiv).symm entries c.loop-place.place (e.0.now, e.1.now) c.len-place-end.ensures.unique c.entry_at.ensures
