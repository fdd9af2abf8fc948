use Rattle.label_receive.proofs.Law.{octets_have_a_verdict as law}
use Rattle.label_receive.proofs.laws.octets_have_a_verdict.Goals as goal

pub returns : goal.returns
returns c d = law
