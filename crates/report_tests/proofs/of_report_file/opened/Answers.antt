use Rattle.report_tests.proofs.of_report_file.opened.Goals as goal

pub returns : goal.returns
returns g c = c.in-Ok.ensures.keeps (g.D.Depot.state c.args.depot.now)
