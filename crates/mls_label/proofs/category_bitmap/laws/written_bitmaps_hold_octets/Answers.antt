use Rattle.mls_label.proofs.category_bitmap.Law.{written_bitmaps_hold_octets}
use Rattle.mls_label.proofs.category_bitmap.laws.written_bitmaps_hold_octets.Goals as goal

pub returns : goal.returns
returns c = written_bitmaps_hold_octets
