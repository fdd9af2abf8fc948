use Rattle.std.proofs.Common.{arith, sym, ◌∙◌}
use Rattle.indexmap.specs.IndexMap.{insert_entry}
use Rattle.domain_map.specs.Domains.{same_domain}
use Rattle.node_tables.specs.declared.reply.Refusal.TheVariants.{RangeExists}
use Rattle.node_tables.proofs.Entries.{added_last}
use Rattle.node_tables.proofs.ranges.add_range.Goals as goal

pub returns-in-Ok : goal.returns-in-Ok
returns-in-Ok c =
    let entries = c.args.ranges.now.entries in
    added_last same_domain 64 RangeExists entries c.insert.new.self.entries c.args.interface.now c.args.range.now (sym c.if-contains_key.ensures) (omega (arith, c.len.ensures.len))
    (c.in-Ok.ensures.entries ∙ (λ i. insert_entry same_domain entries ((c.key_of.ensures ∙ c.as_ref.ensures.value) i) (c.in_ok-kept.ensures i)))
