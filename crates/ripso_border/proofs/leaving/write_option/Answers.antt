use Rattle.std.proofs.Common.{sym, ◌∙◌}
use Rattle.ripso_border.proofs.OutSteps.{wire_text_of}
use Rattle.ripso_border.proofs.leaving.write_option.Goals as goal

pub returns-clause-ok : goal.returns-clause-ok
returns-clause-ok c =
    wire_text_of c.args.definition.now c.args.label.now c.to_wire_into.new.into c.write_ripso.new.out.items c.in-Ok.ensures.ok (sym c.ripso_can_express.ensures ∙ c.if-not-ripso_can_express.false)
    c.is_label.ensures c.write_ripso.ensures
