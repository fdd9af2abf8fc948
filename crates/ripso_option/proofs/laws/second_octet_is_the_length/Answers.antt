use Rattle.ripso_option.proofs.Law.{second_octet_is_the_length}
use Rattle.ripso_option.proofs.laws.second_octet_is_the_length.Goals as goal

pub returns : goal.returns
returns c = second_octet_is_the_length
