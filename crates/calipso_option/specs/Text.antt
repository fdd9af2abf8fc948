-- The one written form of a label as an option, and the labels that an option can express.
use Rattle.std.specs.Prelude.{ℕ, ◌+◌, ◌*◌, ◌/◌, ◌≤◌, max, List, [], ◌∷◌, IsTrue}
use Rattle.mls_label.specs.declared.label.Label.{Label}
use Rattle.mls_label.specs.Cats.{has}
use Rattle.mls_label.specs.category_bitmap.Bitmap.{bitmap_of}
use Rattle.calipso_option.specs.declared.bounds.TheConstants.{HIGHEST_CATEGORY}
use Rattle.calipso_option.specs.Crc.{crc_of}
use Rattle.calipso_option.specs.Calipso.{option_octets}

-- no category is above 1951, the last one of 61 words
abbrev pub IsExpressible : Label → Type 0
IsExpressible label = (c : ℕ) → IsTrue (has label.cats c) → c ≤ HIGHEST_CATEGORY

-- the fewest words that hold a set: category c stands in word c / 32, counted from 0
abbrev pub words_needed : List ℕ → ℕ
words_needed [] = 0
words_needed (c ∷ cats) = max (c / 32 + 1) (words_needed cats)

-- the octets with any number in the place of the checksum
abbrev pub text_with : ℕ → Label → ℕ → List ℕ
text_with doi label checksum =
    let words = words_needed label.cats in
    option_octets doi words label.level checksum (bitmap_of label.cats (4 * words))

-- the option with its checksum, which is counted with 0 in its own place
abbrev pub calipso_text : ℕ → Label → List ℕ
calipso_text doi label = text_with doi label (crc_of (text_with doi label 0))
