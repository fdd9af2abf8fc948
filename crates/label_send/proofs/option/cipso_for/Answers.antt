use Rattle.std.proofs.Common.{sym, subst, ap, ◌∙◌}
use Rattle.mls_label.specs.Label.{IsLabel}
use Rattle.packet_label.specs.declared.packet.Wire.TheVariants as wire
use Rattle.label_send.specs.Outgoing.{cipso_with}
use Rattle.label_send.proofs.Options.{tag_fits}
use Rattle.label_send.proofs.option.cipso_for.Goals as goal

pub write_cipso-requires-clause-fits : goal.write_cipso-requires-clause-fits
write_cipso-requires-clause-fits c = tag_fits c.tags.result.now c.numbers_of-wire.result.now c.in-Some-first_tag.tag (sym c.in-Some-first_tag.ensures)

pub returns-clause-ok : goal.returns-clause-ok
returns-clause-ok c =
    let out = c.numbers_of-wire.result.now in
    let tag = c.in-Some-first_tag.tag in
    let plan = c.in-Some.def.now in
    let first = rw c.tags.ensures at (sym c.in-Some-first_tag.ensures) in
    record {
      said = wire.Cipso 20 c.args.doi tag out;
      is = rw (sym c.numbers_of-wire.ensures) at c.in-Some.ensures.said ∙ ap (cipso_with c.args.doi out) first;
      can = (c.in-Some.ensures.named, c.ranges.doi.fits, subst IsLabel (sym c.numbers_of-wire.ensures) c.in-Some.ensures.whole, tag_fits plan.tags out tag first);
      text = c.write_cipso.ensures;
    }
