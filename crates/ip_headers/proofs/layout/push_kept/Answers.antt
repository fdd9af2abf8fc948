use Rattle.std.proofs.Common.{sym, ◌∙◌}
use Rattle.ip_headers.proofs.Layouts.{laid_first, laid_more, laid_all}
use Rattle.ip_headers.proofs.layout.push_kept.Goals as goal

pub loop-size-init : goal.loop-size-init
loop-size-init c = laid_first c.args.version c.args.area.now c.args.out.now.items _ c.requires.whole c.requires.small c.first_place-at.ensures

pub loop-size-preserved : goal.loop-size-preserved
loop-size-preserved c =
    laid_more c.args.version c.args.area.now c.args.out.now.items c.loop-size.at c.loop-size.rest.now c.loop-size.out.items c.in-Option.size c.split_at.result.0.now c.split_at.result.1.now c.push_option.new.out.items
    c.loop-size.invariant (sym c.step.ensures ∙ c.in-Option.is) c.split_at.ensures.front c.split_at.ensures.back c.in_ok-push_option.ensures

pub returns : goal.returns
returns c = laid_all c.args.version c.args.area.now c.args.out.now.items c.loop-size.at c.loop-size.rest.now c.loop-size.out.items _ c.loop-size.invariant c.step.ensures c.in_default.not-Option
