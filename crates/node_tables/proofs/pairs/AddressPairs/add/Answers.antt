use Rattle.std.proofs.Common.{◌≡◌, ◌<◌, Ok, length, sym, ap, subst, ◌∙◌, arith}
use Rattle.std.specs.Str.{bytes_eq}
use Rattle.node_tables.specs.Tables.{AddressPairs, swapped}
use Rattle.node_tables.specs.Change.{pair_added}
use Rattle.node_tables.proofs.Entries.{inserted_last}
use Rattle.node_tables.proofs.Mirrored.{mirrored_push, pair_is_added, taken_back}
use Rattle.node_tables.proofs.pairs.AddressPairs.add.Goals as goal

pub invariant_of-self-in-Ok-insert : goal.invariant_of-self-in-Ok-insert
invariant_of-self-in-Ok-insert c =
    mirrored_push c.self.inside.sixes.entries c.self.inside.fours.entries c.insert.new.self.entries c.insert-2.new.self.entries c.args.four c.args.six c.self.invariant
    (sym c.if-contains_key.ensures) (sym c.if-contains_key-2.ensures) c.in-Ok.ensures.entries c.in-Ok-insert.ensures.entries

pub invariant_of-self-in-Err : goal.invariant_of-self-in-Err
invariant_of-self-in-Err c =
    let sixes = c.self.inside.sixes.entries in
    let one = c.in-Ok.ensures.entries ∙ inserted_last bytes_eq sixes c.args.four c.args.six (sym c.if-contains_key.ensures) in
    c.in-Err.ensures.err ∙ c.self.invariant ∙ ap swapped (sym (taken_back sixes c.insert.new.self.entries c.pop.new.self.entries (c.args.four, c.args.six) c.pop.result one c.pop.ensures.entries c.pop.ensures.found.1))

pub returns-in-Ok-insert : goal.returns-in-Ok-insert
returns-in-Ok-insert c =
    let new = c.insert.new.self.entries in
    let few : length c.self.inside.sixes.entries < 256 = omega (arith, c.len.ensures.len) in
    subst (λ (pairs : AddressPairs). pair_added pairs c.args.four c.args.six ≡ Ok new) c.self.view_is
    (pair_is_added c.self.inside.sixes.entries c.self.inside.fours.entries new c.args.four c.args.six c.self.invariant (sym c.if-contains_key.ensures) (sym c.if-contains_key-2.ensures) few c.in-Ok.ensures.entries)

pub returns-in-Err : goal.returns-in-Err
returns-in-Err c =
    let sixes = c.self.inside.sixes.entries in
    let one = c.in-Ok.ensures.entries ∙ inserted_last bytes_eq sixes c.args.four c.args.six (sym c.if-contains_key.ensures) in
    taken_back sixes c.insert.new.self.entries c.pop.new.self.entries (c.args.four, c.args.six) c.pop.result one c.pop.ensures.entries c.pop.ensures.found.1 ∙ c.self.view_is
