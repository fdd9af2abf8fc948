use Rattle.label_gateway.proofs.Law.{forwarding_denies_no_version as law}
use Rattle.label_gateway.proofs.laws.forwarding_denies_no_version.Goals as goal

pub returns : goal.returns
returns c = law
