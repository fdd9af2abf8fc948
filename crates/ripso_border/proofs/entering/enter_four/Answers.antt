use Rattle.ripso_border.proofs.InSteps.{in_answers}
use Rattle.ripso_border.proofs.entering.enter_four.Goals as goal

pub returns-in-Ok : goal.returns-in-Ok
returns-in-Ok c =
    in_answers c.args.border.now.definition.now c.args.border.now.doi c.args.view.now c.local_option.new.option.items c.deref.result.now c.swap.result c.swap.new.out.items
    c.requires.version c.in-Ok.ensures.ok c.deref.ensures.0 c.swap.ensures
