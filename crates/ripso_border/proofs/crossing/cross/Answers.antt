use Rattle.ripso_border.proofs.OutSteps.{not_ip}
use Rattle.ripso_border.proofs.crossing.cross.Goals as goal

pub returns-in_default : goal.returns-in_default
returns-in_default c =
    rw (c.in_default.is, c.denied.ensures.stop) (not_ip c.args.border.now.way c.args.border.now.definition.now c.args.border.now.doi c.denied.new.out.items c.denied.ensures.empty)
