use Rattle.ripso_border_run.proofs.Law.{origin_is_what_option_130_said}
use Rattle.ripso_border_run.proofs.laws.origin_is_what_option_130_said.Goals as goal

pub returns : goal.returns
returns c = origin_is_what_option_130_said
