use Rattle.ripso_border.proofs.InSteps.{has_option, has_no_number}
use Rattle.ripso_border.proofs.entering.option_for.Goals as goal

pub returns-in-Ok-write_option-clause-ok : goal.returns-in-Ok-write_option-clause-ok
returns-in-Ok-write_option-clause-ok c =
    has_option c.args.border.now.definition.now c.args.border.now.doi c.args.view.now c.args.room.now.wire c.translate.new.local c.write_option.new.option.items c.requires.free c.requires.said c.in-Ok.ensures
    c.in-Ok-write_option.ensures.ok

pub returns-in-Err-clause-err : goal.returns-in-Err-clause-err
returns-in-Err-clause-err c = has_no_number c.args.border.now.definition.now c.args.border.now.doi c.args.view.now c.args.room.now.wire c.in-Err.why c.requires.free c.requires.said c.in-Err.ensures
