use Rattle.std.proofs.Common.{◌≡◌, Some, ap, ◌∙◌}
use Rattle.packet_label.specs.declared.packet.Mark.TheVariants as mark
use Rattle.ripso_border.proofs.OutSteps.{is_marked_other}
use Rattle.ripso_border.proofs.leaving.wire_option.Goals as goal

pub returns-in-Err-clause-err : goal.returns-in-Err-clause-err
returns-in-Err-clause-err c =
    let m = c.in-Cipso in
    let given : c.args.mark ≡ Some c.in-Some.said = c.in-Some.is in
    let kind : c.in-Some.said ≡ mark.Cipso m.at m.doi m.tag = m.is in
    is_marked_other c.args.border.now.definition.now c.args.border.now.doi c.args.view.now c.args.mark c.args.label.now m.at m.doi m.tag c.in-Err.why (given ∙ ap Some kind) c.in_ok-is_free.ensures c.in-Err.ensures
