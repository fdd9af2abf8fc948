use Rattle.std.proofs.Common.{rules}
use Rattle.script_run.proofs.flow_run.Ending.{behind_so}
use Rattle.script_run.proofs.flow_run.run.run_source.Goals as goal

pub returns : goal.returns
returns g c =
    behind_so c.args.place.now _ _ _ _ (g.D.Depot.state c.end_loans.new._depot) _ (g.S.Sink.state c.end_loans.new._out) _ c.end_loans.new._report.waiting.items _ _ _
    (search (rules, c.run_read-end.ensures.same.0)) (search (rules, c.run_read-end.ensures.same.1)) (search (rules, c.run_read-end.ensures.same.2))
    (behind_so c.args.place.now _ _ _ _ _ _ _ _ _ _ _ _ c.end_loans.ensures.depot c.end_loans.ensures.out c.end_loans.ensures.report c.run_read-end.ensures.ends)
