use Rattle.std.proofs.Common.{rules, refl, ap, None, Some, arith}
use Rattle.made_run.specs.made_capture.Maker.{Making}
use Rattle.made_run.proofs.Making.{new_feed, captures_so, captures_from}
use Rattle.made_run.proofs.run.make_capture.Goals as goal

pub make_all-made-requires-after_bounds : goal.make_all-made-requires-after_bounds
make_all-made-requires-after_bounds g c κs within =
    new_feed g.D.Depot.state _ (g.D.Depot.state c.args.depot.now) c.in-Ok.ensures.begun _ c.new.ensures c.in-Ok.ensures.head (omega (arith, c.ranges.count.fits)) refl refl refl refl

pub returns-in-Ok-made-clause-capture : goal.returns-in-Ok-made-clause-capture
returns-in-Ok-made-clause-capture g c =
    captures_so c.args.seed c.args.count c.args.name.now None _ (g.D.Depot.state c.end_loan.new._depot) _ (search (rules, c.make_all-made.ensures.loan))
    (captures_so c.args.seed c.args.count c.args.name.now None _ _ _ c.end_loan.ensures
    (captures_from g.D.Depot.state None _ _ c.args.seed (g.D.Depot.state c.args.depot.now) (ap (λ (m : Making). m.seed) c.new.ensures) c.in-Ok.ensures.begun c.in-Ok-made.ensures))

pub returns-clause-capture : goal.returns-clause-capture
returns-clause-capture g c =
    let stop = c.in-Err-made.stop in
    captures_so c.args.seed c.args.count c.args.name.now (Some stop) _ (g.D.Depot.state c.end_loan.new._depot) _ (search (rules, c.make_all-made.ensures.loan))
    (captures_so c.args.seed c.args.count c.args.name.now (Some stop) _ _ _ c.end_loan.ensures
    (captures_from g.D.Depot.state (Some stop) _ _ c.args.seed (g.D.Depot.state c.args.depot.now) (ap (λ (m : Making). m.seed) c.new.ensures) c.in-Ok.ensures.begun c.in-Err-made.ensures))
