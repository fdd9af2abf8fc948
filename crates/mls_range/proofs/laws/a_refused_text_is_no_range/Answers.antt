use Rattle.mls_range.proofs.Law.{a_refused_text_is_no_range}
use Rattle.mls_range.proofs.laws.a_refused_text_is_no_range.Goals as goal

pub returns : goal.returns
returns c = a_refused_text_is_no_range
