use Rattle.cipso_option.proofs.Law.{options_have_10_to_40_octets}
use Rattle.cipso_option.proofs.laws.options_have_10_to_40_octets.Goals as goal

pub returns : goal.returns
returns c = options_have_10_to_40_octets
