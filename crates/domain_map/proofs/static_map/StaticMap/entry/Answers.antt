use Rattle.std.proofs.Common.{◌≡◌, Some, ap, slice_get, arith, length}
use Rattle.std.proofs.lemmas.Option.{slice_get_read}
use Rattle.domain_map.proofs.Interfaces.{ordered_at}
use Rattle.domain_map.proofs.static_map.StaticMap.entry.Goals as goal

pub returns-clause-ordered : goal.returns-clause-ordered
returns-clause-ordered c =
    let entries = c.self.inside.entries.items in
    let e = c.index-entry.result.now in
    let there : slice_get entries c.args.i ≡ Some e = slice_get_read entries (length entries) c.args.i e (omega arith) (omega (arith, c.requires, ap length c.self.view_is)) c.index-entry.ensures in
    rw (c.label.ensures, c.label-2.ensures) (ordered_at entries c.args.i e there c.self.invariant.ordered)
