use Rattle.std.proofs.Common.{◌≡◌, Ok, subst}
use Rattle.std.specs.Str.{bytes_eq}
use Rattle.node_tables.specs.declared.reply.Refusal.TheVariants.{PairUnknown}
use Rattle.node_tables.specs.Tables.{AddressPairs}
use Rattle.node_tables.specs.Change.{pair_deleted}
use Rattle.node_tables.proofs.Entries.{taken_at}
use Rattle.node_tables.proofs.Mirrored.{mirrored_remove}
use Rattle.node_tables.proofs.pairs.AddressPairs.del.Goals as goal

pub invariant_of-self : goal.invariant_of-self
invariant_of-self c =
    mirrored_remove c.self.inside.sixes.entries c.self.inside.fours.entries c.shift_remove_index.new.self.entries c.shift_remove_index-2.new.self.entries c.in-Some.place c.self.invariant c.shift_remove_index.ensures.entries c.shift_remove_index-2.ensures.entries

pub returns : goal.returns
returns c =
    let new = c.shift_remove_index.new.self.entries in
    subst (λ (pairs : AddressPairs). pair_deleted pairs c.args.four ≡ Ok new) c.self.view_is (taken_at bytes_eq PairUnknown c.self.inside.sixes.entries new c.args.four c.in-Some.place c.in-Some.ensures.index c.shift_remove_index.ensures.entries)
