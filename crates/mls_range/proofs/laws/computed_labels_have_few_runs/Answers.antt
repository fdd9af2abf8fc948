use Rattle.mls_range.proofs.Law.{computed_labels_have_few_runs as law}
use Rattle.mls_range.proofs.laws.computed_labels_have_few_runs.Goals as goal

pub returns : goal.returns
returns c = record { label = law.label; range = law.range }
