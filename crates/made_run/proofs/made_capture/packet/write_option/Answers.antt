use Rattle.std.proofs.Common.{sym, subst}
use Rattle.mls_label.specs.declared.label.Label.{Label}
use Rattle.mls_label.specs.declared.label.Tag.TheVariants.{One}
use Rattle.cipso_tags.specs.Text.{Fits}
use Rattle.made_run.proofs.made_capture.Labels.{fits_one}
use Rattle.made_run.proofs.made_capture.packet.write_option.Goals as goal

pub write_cipso-requires-clause-fits : goal.write_cipso-requires-clause-fits
write_cipso-requires-clause-fits c = subst (λ (label : Label). Fits One label) (sym c.fill_label.ensures) (fits_one c.args.number)
