use Rattle.std.proofs.Common.{arith, ◌∙◌}
use Rattle.net_io.specs.declared.fault.IoFault.TheVariants.{Failed}
use Rattle.net_io.proofs.Frames.{appends_on, appends_any}
use Rattle.net_io.proofs.Parts.{appended_more}
use Rattle.net_io.proofs.writing.append_all.Goals as goal

pub loop-done-preserved : goal.loop-done-preserved
loop-done-preserved g c =
    let so_far = c.loop-done.invariant in
    let name = c.args.name.now in
    record {
      within = omega (arith, c.in_ok-done.ensures.part.0);
      holds = λ told. appended_more name c.args.bytes.now c.loop-done.done c.in_ok-done.field-0 _ _ _ (so_far.holds told) (c.in_ok-done.ensures.ok (so_far.frame.told ∙ told));
      frame = appends_any Failed _ 0 name _ _ (appends_on Failed 0 _ name _ _ _ so_far.frame c.in_ok-done.ensures.frame);
    }
