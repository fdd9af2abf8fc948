use Rattle.std.proofs.Common.{◌≡◌, ◌<◌, Some, ap, slice_get, arith, length}
use Rattle.std.proofs.lemmas.Option.{slice_get_read}
use Rattle.domain_map.proofs.Interfaces.{ordered_at}
use Rattle.domain_map.proofs.static_map.StaticMap.find.Goals as goal

pub returns-clause-ordered : goal.returns-clause-ordered
returns-clause-ordered c =
    let entries = c.self.inside.entries.items in
    let e = c.index-entry.result.now in
    let lt : c.in_ok-place.place < length entries = omega (arith, c.in_ok-place.ensures.1, ap length c.deref-2.ensures.value) in
    let there : slice_get entries c.in_ok-place.place ≡ Some e = slice_get_read entries (length entries) c.in_ok-place.place e (omega arith) lt c.index-entry.ensures in
    rw (c.label.ensures, c.label-2.ensures) (ordered_at entries c.in_ok-place.place e there c.self.invariant.ordered)
