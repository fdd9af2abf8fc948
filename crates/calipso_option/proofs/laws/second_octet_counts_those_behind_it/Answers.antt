use Rattle.calipso_option.proofs.Law.{second_octet_counts_those_behind_it}
use Rattle.calipso_option.proofs.laws.second_octet_counts_those_behind_it.Goals as goal

pub returns : goal.returns
returns c = second_octet_counts_those_behind_it
