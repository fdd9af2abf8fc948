use Rattle.ripso_border.proofs.InSteps.{says_nothing, label_absent}
use Rattle.ripso_border.proofs.entering.local_option.Goals as goal

pub returns-in-Err-clause-err : goal.returns-in-Err-clause-err
returns-in-Err-clause-err c =
    says_nothing c.args.border.now.definition.now c.args.border.now.doi c.args.view.now c.in-Err.why (label_absent c.args.view.now.label (rw c.in_default.is at c.requires.place)) c.in-Err.ensures
