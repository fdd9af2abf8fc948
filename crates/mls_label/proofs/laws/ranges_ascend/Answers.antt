use Rattle.mls_label.proofs.Law.{ranges_ascend}
use Rattle.mls_label.proofs.laws.ranges_ascend.Goals as goal

pub returns : goal.returns
returns c = ranges_ascend
