use Rattle.std.proofs.Common.{arith}
use Rattle.std.proofs.lemmas.Bool.{le-leb, leb-true}
use Rattle.calipso_option.proofs.Words.{octets_express, express_octets}
use Rattle.calipso_option.proofs.write.can_express.Goals as goal

pub returns : goal.returns
returns c =
    let label = c.args.label.now in
    let needed = c.octets_of.result in (
      λ t. octets_express label (omega (arith, leb-true needed 244 t, c.octets_of.ensures)),
      λ fits. le-leb needed 244 (omega (arith, express_octets label fits, c.octets_of.ensures)),
    )
