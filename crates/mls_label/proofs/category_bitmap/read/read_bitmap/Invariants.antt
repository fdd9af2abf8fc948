use Rattle.std.proofs.Common.{◌≡◌, ◌-◌, ◌*◌, ◌%◌, length}
use Rattle.mls_label.specs.category_bitmap.inside.Read.{IsRead}
use Rattle.mls_label.proofs.category_bitmap.read.read_bitmap.Given as goal

abbrev pub invariant-loop-at : goal.invariant-loop-at
invariant-loop-at l = record {
  words : l.at % 4 ≡ 0;
  read : IsRead l.bitmap l.cats l.begun (8 * l.at);
}

abbrev pub decreases-loop-at : goal.decreases-loop-at
decreases-loop-at l = length l.bitmap - l.at
