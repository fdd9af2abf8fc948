use Rattle.mls_range.proofs.Law.{a_text_has_one_label}
use Rattle.mls_range.proofs.laws.a_text_has_one_label.Goals as goal

pub returns : goal.returns
returns c = a_text_has_one_label
