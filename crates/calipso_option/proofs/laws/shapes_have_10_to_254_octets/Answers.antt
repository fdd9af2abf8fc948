use Rattle.calipso_option.proofs.Law.{shapes_have_10_to_254_octets}
use Rattle.calipso_option.proofs.laws.shapes_have_10_to_254_octets.Goals as goal

pub returns : goal.returns
returns c = shapes_have_10_to_254_octets
