use Rattle.std.proofs.Common.{sym, ◌∙◌}
use Rattle.ip_headers.proofs.Walks.{IsSoFar-more, walked, breaks}
use Rattle.ip_headers.proofs.walk.walk_from.Goals as goal

pub loop-found-preserved : goal.loop-found-preserved
loop-found-preserved c =
    IsSoFar-more c.args.version c.args.area.now c.args.first c.loop-found.found c.loop-found.at c.loop-found.rest.now c.in-Option.size c.split_at.result.0.now c.split_at.result.1.now c.with_option-found.result
    c.loop-found.invariant (sym c.step.ensures ∙ c.in-Option.is) c.split_at.ensures.front c.split_at.ensures.back c.with_option-found.ensures

pub returns-in-End-clause-ok : goal.returns-in-End-clause-ok
returns-in-End-clause-ok c = walked c.args.version c.args.area.now c.args.first c.loop-found.found c.loop-found.at c.loop-found.rest.now c.loop-found.invariant (sym c.step.ensures ∙ c.in-End.is)

pub returns-in-Broken-clause-err : goal.returns-in-Broken-clause-err
returns-in-Broken-clause-err c =
    breaks c.args.version c.args.area.now c.args.first c.loop-found.found c.loop-found.at c.loop-found.rest.now c.fault.result c.loop-found.invariant (sym c.step.ensures ∙ c.in-Broken.is) c.fault.ensures
