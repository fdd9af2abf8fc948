use Rattle.std.proofs.Common.{sym}
use Rattle.ripso_border.proofs.Back.{found_fits}
use Rattle.ripso_border.proofs.InSteps.{tagged}
use Rattle.ripso_border.proofs.entering.write_option.Goals as goal

pub write_cipso-requires-clause-fits : goal.write_cipso-requires-clause-fits
write_cipso-requires-clause-fits c = found_fits c.tags.result.now c.args.label.now c.in-Some.tag (sym c.in-Some.ensures)

pub returns-clause-ok : goal.returns-clause-ok
returns-clause-ok c =
    let first = rw c.tags.ensures at (sym c.in-Some.ensures) in
    tagged c.args.definition.now.tags c.args.doi c.args.label.now c.in-Some.tag c.write_cipso.new.out.items c.requires.doi c.ranges.doi.fits c.is_label.ensures first c.write_cipso.ensures
