use Rattle.std.proofs.Common.{arith, sym, ◌∙◌}
use Rattle.ip_headers.proofs.Layouts.{measured_first, measured_more, measured_all}
use Rattle.ip_headers.proofs.layout.kept_end.Goals as goal

pub loop-size-init : goal.loop-size-init
loop-size-init c = measured_first c.args.version c.args.area.now c.args.free _ c.requires.whole c.requires.small c.first_place-at.ensures

pub loop-size-preserved : goal.loop-size-preserved
loop-size-preserved c =
    measured_more c.args.version c.args.area.now c.args.free c.loop-size.at c.loop-size.rest.now c.loop-size.end c.in-Option.size c.split_at.result.0.now c.split_at.result.1.now c.end_after-end.result
    c.loop-size.invariant (sym c.step.ensures ∙ c.in-Option.is) c.split_at.ensures.front c.split_at.ensures.back c.end_after-end.ensures.value c.end_after-end.ensures.bound

pub returns : goal.returns
returns c = record { bound = omega (arith, c.loop-size.invariant.bound); value = measured_all c.args.version c.args.area.now c.args.free c.loop-size.at c.loop-size.rest.now c.loop-size.end _ c.loop-size.invariant c.step.ensures c.in_default.not-Option }
