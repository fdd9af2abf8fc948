use Rattle.std.proofs.Common.{◌≡◌, false, is_some, arith, sym, ◌∙◌}
use Rattle.std.specs.Map.{lookup}
use Rattle.indexmap.specs.IndexMap.{insert_entry}
use Rattle.domain_map.specs.address_text.Address.{same_address}
use Rattle.node_tables.specs.declared.reply.Refusal.TheVariants.{ReceiverExists}
use Rattle.node_tables.specs.Effect.{receiver_of}
use Rattle.node_tables.proofs.Addresses.{address_eq_is}
use Rattle.node_tables.proofs.Entries.{added_last}
use Rattle.node_tables.proofs.receivers.add_receiver.Goals as goal

pub returns-in-Ok : goal.returns-in-Ok
returns-in-Ok c =
    let entries = c.args.receivers.now.entries in
    let address = c.args.address.now in
    let absent : is_some (lookup (same_address address) entries) ≡ false = (λ i. is_some (lookup (λ a. sym (address_eq_is address a) i) entries)) ∙ sym c.if-contains_key.ensures in
    added_last same_address 256 ReceiverExists entries c.insert.new.self.entries address (receiver_of c.args.domain.now c.args.range.now) absent (omega (arith, c.len.ensures.len))
    (c.in-Ok.ensures.entries ∙ (λ i. insert_entry (λ a b. address_eq_is a b i) entries address (c.in_ok-receiver.ensures i)))
