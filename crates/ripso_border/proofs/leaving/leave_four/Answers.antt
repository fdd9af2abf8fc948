use Rattle.packet_label.specs.Wire.{wire_with}
use Rattle.ripso_border.proofs.OutSteps.{out_answers}
use Rattle.ripso_border.proofs.leaving.leave_four.Goals as goal

pub returns-in-Ok : goal.returns-in-Ok
returns-in-Ok c =
    out_answers c.args.border.now.definition.now c.args.border.now.doi c.args.view.now (wire_with c.args.mark c.args.label.now) c.wire_option.new.option.items c.deref.result.now c.swap.result c.swap.new.out.items
    c.requires.version c.in-Ok.ensures.ok c.deref.ensures.0 c.swap.ensures
