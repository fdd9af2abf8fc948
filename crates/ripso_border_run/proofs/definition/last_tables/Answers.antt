use Rattle.std.proofs.Common.{◌≡◌, length, refl, sym, ap, ◌∙◌, arith, Some, replicate}
use Rattle.std.specs.Prelude.{slice_get}
use Rattle.std.proofs.lemmas.Option.{slice_get_read}
use Rattle.node_tables.specs.Tables.{fresh}
use Rattle.node_tables.specs.Steps.{step_applied}
use Rattle.node_tables.proofs.Law.{nodes_begin_fresh, steps_apply_one_by_one}
use Rattle.ripso_border_run.proofs.Tables.{step_within}
use Rattle.ripso_border_run.proofs.definition.last_tables.Goals as goal

pub loop-done-init : goal.loop-done-init
loop-done-init c = record {
  within = omega arith;
  network = c.in_ok-network.ensures ∙ ap (λ n. replicate n fresh) c.len.ensures ∙ sym (nodes_begin_fresh (length c.args.script.now.nodes) c.as_slice-steps.result.now);
}

pub advance-requires : goal.advance-requires
advance-requires c =
    let head = c.loop-done in
    step_within (length c.args.script.now.nodes) c.as_slice-steps.result.now c.index-steps-done.result head.done head.network head.invariant.network (rw c.as_slice-steps.ensures c.requires) (sym c.index-steps-done.is) (omega (arith, c.loop-done-test.true))

pub loop-done-preserved : goal.loop-done-preserved
loop-done-preserved c =
    let head = c.loop-done in
    let steps = c.as_slice-steps.result.now in
    let step = c.index-steps-done.result in
    let at : slice_get steps head.done ≡ Some step = slice_get_read steps (length steps) head.done step refl (omega (arith, c.loop-done-test.true)) c.index-steps-done.is in
    record {
      within = omega (arith, c.loop-done-test.true);
      network = c.in_ok-advance.ensures.tables ∙ ap (λ n. step_applied n step) head.invariant.network ∙ sym (steps_apply_one_by_one (length c.args.script.now.nodes) steps head.done step at).0;
    }
