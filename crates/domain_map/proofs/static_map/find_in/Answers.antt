use Rattle.std.proofs.Common.{sym, ap, ◌∙◌}
use Rattle.std.specs.Option.{option_copied}
use Rattle.domain_map.specs.Statics.{candidates}
use Rattle.domain_map.proofs.Interfaces.{of_interface, decided}
use Rattle.domain_map.proofs.Counted.{candidates_are}
use Rattle.domain_map.proofs.static_map.find_in.Goals as goal

pub returns : goal.returns
returns c =
    let entries = c.args.entries.now in
    decided (option_copied c.counting.result) c.args.address.now entries (candidates entries c.args.interface.now) c.args.order.now c.requires
    (candidates_are entries c.args.interface.now ∙ ap (of_interface entries) (sym c.counting.ensures)) c.first_holding.result c.first_holding.ensures
