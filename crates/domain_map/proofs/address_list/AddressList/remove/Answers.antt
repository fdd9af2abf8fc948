use Rattle.domain_map.proofs.Longests.{less_ranked}
use Rattle.domain_map.proofs.address_list.AddressList.remove.Goals as goal

pub invariant_of-self : goal.invariant_of-self
invariant_of-self c =
    let within = rw (← c.self.view_is) at c.requires in
    rw (c.remove.ensures.items, c.forget.ensures) (less_ranked _ _ c.self.inside.entries.items c.self.inside.order.items c.args.at within c.self.invariant)
