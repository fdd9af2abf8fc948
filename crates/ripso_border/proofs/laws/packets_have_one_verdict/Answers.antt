use Rattle.ripso_border.proofs.Law.{packets_have_one_verdict}
use Rattle.ripso_border.proofs.laws.packets_have_one_verdict.Goals as goal

pub returns : goal.returns
returns c = packets_have_one_verdict
