use Rattle.label_receive.proofs.Law.{missing_labels_have_six_reasons as law}
use Rattle.label_receive.proofs.laws.missing_labels_have_six_reasons.Goals as goal

pub returns : goal.returns
returns c = law
