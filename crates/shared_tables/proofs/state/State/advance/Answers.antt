use Rattle.std.proofs.Common.{arith, ◌≡◌, length, slice_get, Some, sym, ◌∙◌, ap}
use Rattle.std.specs.Arc.{arc_value}
use Rattle.shared_tables.specs.Plan.{PlanState}
use Rattle.node_tables.specs.Steps.{step_applied}
use Rattle.node_tables.proofs.Law.{steps_apply_one_by_one, nodes_keep_their_number}
use Rattle.shared_tables.proofs.state.State.advance.Goals as goal

pub advance-requires : goal.advance-requires
advance-requires c =
    let p : PlanState = arc_value c.args.self.now.plan in
    omega (arith, c.step.ensures.inside, nodes_keep_their_number p.nodes p.steps c.args.self.now.version, ap length c.args.self.now.is_after, ap (λ (p : PlanState). p.nodes) c.deref.ensures)

pub overflow_add-version : goal.overflow_add-version
overflow_add-version c = omega (arith, c.requires, c.step.ensures.few, ap (λ (p : PlanState). length p.steps) c.deref.ensures)

pub invariant_of-self-2 : goal.invariant_of-self-2
invariant_of-self-2 c =
    let p : PlanState = arc_value c.args.self.now.plan in
    let k = c.args.self.now.version in
    let s = c.step.result.now in
    let at : slice_get p.steps k ≡ Some s = ap (λ (p : PlanState). slice_get p.steps k) (sym c.deref.ensures) ∙ c.step.ensures.step in
    record {
      within = omega (arith, c.requires);
      is_after = c.in_ok-advance.ensures.tables ∙ ap (λ n. step_applied n s) c.args.self.now.is_after ∙ sym (steps_apply_one_by_one p.nodes p.steps k s at).0;
    }
