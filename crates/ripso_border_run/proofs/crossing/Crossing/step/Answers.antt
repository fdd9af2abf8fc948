use Rattle.ripso_border_run.proofs.crossing.Crossing.step.Goals as goal

pub returns-in-Err-clause-crossing : goal.returns-in-Err-clause-crossing
returns-in-Err-clause-crossing g c before crossing =
    c.in-Err.ensures.crossing c.args.task.now c.args.border.now.definition.now before (g.S.Sink.state c.args.out.now) c.requires.standing crossing
