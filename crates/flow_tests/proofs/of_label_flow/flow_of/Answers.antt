use Rattle.std.proofs.Common.{rules, ◌≡◌, length}
use Rattle.label_commands.proofs.flow_lines.Law.{hops_are_of_named_nodes}
use Rattle.flow_tests.proofs.of_label_flow.flow_of.Goals as goal

pub returns : goal.returns
returns g c =
    let one : length c.add.new.self ≡ 1 = search rules in
    rw one at (hops_are_of_named_nodes _ _ _ _ _ _ _ c.in-Ok.ensures.ok)
