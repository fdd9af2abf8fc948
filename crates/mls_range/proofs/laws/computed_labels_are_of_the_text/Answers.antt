use Rattle.mls_range.proofs.Law.{computed_labels_are_of_the_text}
use Rattle.mls_range.proofs.laws.computed_labels_are_of_the_text.Goals as goal

pub returns : goal.returns
returns c = computed_labels_are_of_the_text
