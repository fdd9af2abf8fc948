use Rattle.mls_label.proofs.category_bitmap.Law.{octets_suffice_for_low_categories}
use Rattle.mls_label.proofs.category_bitmap.laws.octets_suffice_for_low_categories.Goals as goal

pub returns : goal.returns
returns c = octets_suffice_for_low_categories
