use Rattle.mls_range.proofs.Law.{labels_are_ranges}
use Rattle.mls_range.proofs.laws.labels_are_ranges.Goals as goal

pub returns : goal.returns
returns c = labels_are_ranges
