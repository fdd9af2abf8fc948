use Rattle.mls_label.proofs.category_bitmap.Law.{written_bitmap_reads_back}
use Rattle.mls_label.proofs.category_bitmap.laws.written_bitmap_reads_back.Goals as goal

pub returns : goal.returns
returns c = written_bitmap_reads_back
