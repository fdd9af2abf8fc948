use Rattle.std.proofs.Common.{rules, subst, arith}
use Rattle.mls_label.specs.declared.label.Tag.TheVariants.{One}
use Rattle.cipso_tags.specs.Text.{Fits}
use Rattle.cipso_tags.proofs.Fitting.{bits_need}
use Rattle.cipso_tags.proofs.write.append_body.Goals as goal

pub write_bitmap-requires : goal.write_bitmap-requires
write_bitmap-requires g c =
    let label = c.args.label.now in
    let fit : Fits One label = subst (λ tag. Fits tag label) c.in-One.is c.requires.fits in
    let few = bits_need label.cats fit in
    (search rules, (omega (arith, few, c.octets_of.ensures), omega (arith, few, c.octets_of.ensures, c.requires.room)))
