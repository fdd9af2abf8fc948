use Rattle.label_receive.proofs.Law.{lowest_ends_deny_nothing as law}
use Rattle.label_receive.proofs.laws.lowest_ends_deny_nothing.Goals as goal

pub returns : goal.returns
returns c = law
