use Rattle.std.proofs.Common.{◌≡◌, Some, sym, ap, ◌∙◌}
use Rattle.domain_map.specs.Statics.{static_place}
use Rattle.domain_map.proofs.Lookups.{within}
use Rattle.domain_map.proofs.Interfaces.{less_statics}
use Rattle.domain_map.proofs.static_map.StaticMap.del.Goals as goal

pub invariant_of-self : goal.invariant_of-self
invariant_of-self c =
    let entries = c.self.inside.entries.items in
    let there : static_place entries c.key_of-interface.result c.args.prefix ≡ Some c.in-Some.place =
    ap (λ es. static_place es c.key_of-interface.result c.args.prefix) (sym c.deref.ensures.value) ∙ sym c.in-Some.ensures in
    rw (c.remove.ensures.items, c.forget.ensures) (less_statics entries c.self.inside.order.items c.in-Some.place (within _ entries c.in-Some.place there) c.self.invariant)
