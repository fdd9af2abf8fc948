use Rattle.std.proofs.Common.{◌≡◌, ◌<◌, length, arith, ap, refl, sym, ◌∙◌, Some}
use Rattle.std.specs.Prelude.{slice_get}
use Rattle.std.proofs.lemmas.Option.{slice_get_read}
use Rattle.node_tables.specs.Steps.{step_applied}
use Rattle.node_tables.proofs.Law.{nodes_keep_their_number, steps_apply_one_by_one}
use Rattle.label_flow.specs.packet_walk.Stepping.{TablesAt}
use Rattle.label_flow.proofs.packet_walk.step_tables.StepTables.step.Goals as goal

pub advance-requires : goal.advance-requires
advance-requires c =
    omega (
      arith,
      c.self.invariant.2 c.self.inside.version c.index-steps-version.result (omega (arith, c.requires, ap (λ (t : TablesAt). t.version) c.self.view_is, ap (λ (t : TablesAt). length t.plan.steps) c.self.view_is)),
      ap length c.self.invariant.3,
      nodes_keep_their_number c.self.inside.nodes c.self.inside.steps.now c.self.inside.version,
    )

pub invariant_of-self-2 : goal.invariant_of-self-2
invariant_of-self-2 c =
    let steps = c.self.inside.steps.now in
    let step = c.index-steps-version.result in
    let within : c.self.inside.version < length steps = omega (arith, c.requires, ap (λ (t : TablesAt). t.version) c.self.view_is, ap (λ (t : TablesAt). length t.plan.steps) c.self.view_is) in
    let at : slice_get steps c.self.inside.version ≡ Some step = slice_get_read steps (length steps) c.self.inside.version step refl within c.index-steps-version.is in
    let one = steps_apply_one_by_one c.self.inside.nodes steps c.self.inside.version step at in
    (omega (arith, within), c.self.invariant.1, c.self.invariant.2, c.in_ok-advance.ensures.tables ∙ ap (λ s. step_applied c.self.inside.network s) (sym c.index-steps-version.is) ∙ ap (λ network. step_applied network step) c.self.invariant.3 ∙ sym one.0)
