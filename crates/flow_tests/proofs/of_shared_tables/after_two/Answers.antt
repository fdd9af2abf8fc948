use Rattle.std.proofs.Common.{◌≡◌, length, refl, ap, sym, ◌∙◌, rules, arith}
use Rattle.std.proofs.lemmas.Option.{slice_get_read}
use Rattle.node_tables.specs.Steps.{step_applied, tables_after}
use Rattle.node_tables.proofs.Law.{nodes_begin_fresh, steps_apply_one_by_one}
use Rattle.flow_tests.proofs.of_shared_tables.after_two.Goals as goal

pub returns : goal.returns
returns g c =
    let steps = c.args.steps.now in
    let first = c.first-item.result in
    let second = c.second-item.result in
    let none : c.expect-network.result ≡ tables_after 1 steps 0 = search (rules, sym (nodes_begin_fresh 1 steps)) in
    let one = (steps_apply_one_by_one 1 steps 0 first (slice_get_read steps (length steps) 0 first refl (omega (arith, c.requires.two)) c.first-item.is)).0 in
    let two = (steps_apply_one_by_one 1 steps 1 second (slice_get_read steps (length steps) 1 second refl (omega (arith, c.requires.two)) c.second-item.is)).0 in
    c.advanced.ensures ∙ ap (λ n. step_applied n second) (c.advanced-network.ensures ∙ ap (λ n. step_applied n first) none ∙ sym one) ∙ sym two
