-- The laws of src/laws.rt under their names, for the crates above.
use Rattle.std.proofs.Common.{◌≡◌, ◌↔◌, ℕ, ◌/◌, ◌<◌, ◌≤◌, List, IsTrue, arith}
use Rattle.mls_label.specs.octet_grammar.Octets.{IsOctets}
use Rattle.mls_label.specs.Cats.{has, IsCats}
use Rattle.mls_label.specs.category_bitmap.Bitmap.{bitmap_cats, octets_needed, bitmap_of}
use Rattle.mls_label.proofs.category_bitmap.Written.{needs_at_most, needs_each, bitmap_octets, written_reads_back}

pub written_bitmap_reads_back : (cats : List ℕ) (n : ℕ) → IsCats cats → octets_needed cats ≤ n → bitmap_cats (bitmap_of cats n) ≡ cats
written_bitmap_reads_back = written_reads_back

pub written_bitmaps_hold_octets : (cats : List ℕ) (n : ℕ) → IsOctets (bitmap_of cats n)
written_bitmaps_hold_octets = bitmap_octets

pub octets_suffice_for_low_categories : (cats : List ℕ) (n : ℕ) → (octets_needed cats ≤ n) ↔ ((c : ℕ) → IsTrue (has cats c) → c / 8 < n)
octets_suffice_for_low_categories cats n =
    (λ few c is. omega (arith, few, needs_each cats c is), λ low. needs_at_most cats n low)
