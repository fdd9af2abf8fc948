-- A written option is an option with the DOI and label that it was written from.
use Rattle.std.proofs.Common.{ℕ, ◌*◌, ◌^◌, ◌<◌, refl, sym, arith}
use Rattle.mls_label.specs.declared.label.Label.{Label}
use Rattle.mls_label.specs.Cats.{IsCats}
use Rattle.std.proofs.lemmas.List.FromFn.{length-map-range_with_len}
use Rattle.mls_label.specs.category_bitmap.Bitmap.{bitmap_of, octet_of}
use Rattle.mls_label.proofs.category_bitmap.Law.{written_bitmap_reads_back, written_bitmaps_hold_octets}
use Rattle.calipso_option.specs.Crc.{crc_of}
use Rattle.calipso_option.specs.Calipso.{IsCalipsoShape, IsCalipso}
use Rattle.calipso_option.specs.Text.{IsExpressible, words_needed, text_with, calipso_text}
use Rattle.calipso_option.proofs.Checks.{crc_small}
use Rattle.calipso_option.proofs.Shapes.{octets_laid}
use Rattle.calipso_option.proofs.Words.{words_are, words_few}

text_shape : (doi : ℕ) (label : Label) (checksum : ℕ) → 0 < doi → doi < 2 ^ 32 → label.level < 256 → IsCats label.cats → IsExpressible label → checksum < 2 ^ 16 → IsCalipsoShape (text_with doi label checksum) (record { doi = doi; label = label }, checksum)
text_shape doi label checksum named fits level cats express stored =
    let words = words_needed label.cats in
    let bitmap = bitmap_of label.cats (4 * words) in
    record {
      words = words;
      bitmap = bitmap;
      is = refl;
      long = length-map-range_with_len (octet_of label.cats) 0 (4 * words);
      room = words_few label express;
      octets = octets_laid doi words label.level checksum bitmap (words_few label express) level (written_bitmaps_hold_octets label.cats (4 * words));
      named = named;
      fits = fits;
      stored = stored;
      carries = sym (written_bitmap_reads_back label.cats (4 * words) cats (omega (arith, words_are label.cats)));
    }

pub option_member : (doi : ℕ) (label : Label) → 0 < doi → doi < 2 ^ 32 → label.level < 256 → IsCats label.cats → IsExpressible label → IsCalipso (calipso_text doi label) (record { doi = doi; label = label })
option_member doi label named fits level cats express =
    let checksum = crc_of (text_with doi label 0) in
    record {
      stored = checksum;
      shape = text_shape doi label checksum named fits level cats express (crc_small (text_with doi label 0));
      valid = refl;
    }
