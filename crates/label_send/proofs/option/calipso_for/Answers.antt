use Rattle.std.proofs.Common.{sym, subst, ◌∙◌}
use Rattle.mls_label.specs.Label.{IsLabel}
use Rattle.packet_label.specs.declared.packet.Wire.TheVariants as wire
use Rattle.label_send.proofs.Options.{in_words, not_in_words, calipso_goes, calipso_stays}
use Rattle.label_send.proofs.option.calipso_for.Goals as goal

pub returns-then-not-can_express-clause-err : goal.returns-then-not-can_express-clause-err
returns-then-not-can_express-clause-err c =
    let out = c.numbers_of-wire.result.now in
    rw (sym c.numbers_of-wire.ensures) at c.in-Some.ensures.said ∙ calipso_stays c.args.doi out (not_in_words out c.can_express.result c.if-not-can_express.true c.can_express.ensures)

pub returns-clause-ok : goal.returns-clause-ok
returns-clause-ok c =
    let out = c.numbers_of-wire.result.now in
    let can = c.can_express.ensures.0 c.if-not-can_express.false in
    record {
      said = wire.Calipso 42 c.args.doi out;
      is = rw (sym c.numbers_of-wire.ensures) at c.in-Some.ensures.said ∙ calipso_goes c.args.doi out (in_words out can);
      can = (c.in-Some.ensures.named, c.ranges.doi.fits, subst IsLabel (sym c.numbers_of-wire.ensures) c.in-Some.ensures.whole, can);
      text = c.write_calipso.ensures;
    }
