use Rattle.ripso_option.proofs.Law.{one_value_for_each_option}
use Rattle.ripso_option.proofs.laws.one_value_for_each_option.Goals as goal

pub returns : goal.returns
returns c = one_value_for_each_option
