use Rattle.std.proofs.Common.{◌↔◌, nat_le, IsTrue, sym, subst, arith}
use Rattle.std.proofs.lemmas.Bool.{le-leb, leb-true}
use Rattle.cipso_tags.specs.Text.{Fits}
use Rattle.cipso_tags.proofs.Fitting.{bits_fit, bits_need}
use Rattle.cipso_tags.proofs.write.can_express.Goals as goal

pub returns-in-One : goal.returns-in-One
returns-in-One c =
    let label = c.args.label.now in
    let needed = c.octets_of.result in
    subst (λ tag. IsTrue (nat_le needed 30) ↔ Fits tag label) (sym c.in-One.is) (
      λ t. bits_fit label.cats (omega (arith, leb-true needed 30 t, c.octets_of.ensures)),
      λ f. le-leb needed 30 (omega (arith, bits_need label.cats f, c.octets_of.ensures)),
    )
