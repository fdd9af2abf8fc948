-- The CALIPSO option of IPv6: the set of whole octet strings that are one, each with its DOI and label (RFC 5570,
-- section 5.1).
use Rattle.std.specs.Prelude.{ℕ, ◌≡◌, ◌+◌, ◌*◌, ◌^◌, ◌<◌, ◌≤◌, List, ◌∷◌, ◌++◌, length, take, drop}
use Rattle.std.specs.Int.{w16, w32, to_be_bytes, to_le_bytes}
use Rattle.mls_label.specs.octet_grammar.Octets.{IsOctets}
use Rattle.mls_label.specs.category_bitmap.Bitmap.{bitmap_cats}
use Rattle.calipso_option.specs.declared.bounds.TheConstants.{OPTION_TYPE, MOST_WORDS}
use Rattle.calipso_option.specs.declared.calipso.Calipso.{Calipso}
use Rattle.calipso_option.specs.Crc.{crc_of}

-- type 7, how many octets follow the second, the DOI in network order, the words of the bitmap, the level, the checksum
-- with its less significant octet first, the bitmap
abbrev pub option_octets : ℕ → ℕ → ℕ → ℕ → List ℕ → List ℕ
option_octets doi words level checksum bitmap =
    OPTION_TYPE ∷ (8 + 4 * words) ∷ (to_be_bytes w32 doi ++ words ∷ level ∷ (to_le_bytes w16 checksum ++ bitmap))

-- an option whose stored checksum may be any number of two octets: at most 61 words of four octets, a DOI that isn't 0
pub record IsCalipsoShape (bytes : List ℕ) (value : Calipso × ℕ) : Type 0 where
  pub words : ℕ
  pub bitmap : List ℕ
  pub is : bytes ≡ option_octets value.0.doi words value.0.label.level value.1 bitmap
  pub long : length bitmap ≡ 4 * words
  pub room : words ≤ MOST_WORDS
  pub octets : IsOctets bytes
  pub named : 0 < value.0.doi
  pub fits : value.0.doi < 2 ^ 32
  pub stored : value.1 < 2 ^ 16
  pub carries : value.0.label.cats ≡ bitmap_cats bitmap

-- the checksum of a whole option, taken with zeros in its own place, octets 8 and 9
abbrev pub checksum_of : List ℕ → ℕ
checksum_of bytes = crc_of (take 8 bytes ++ 0 ∷ 0 ∷ drop 10 bytes)

-- an option whose stored checksum is the computed one
pub record IsCalipso (bytes : List ℕ) (value : Calipso) : Type 0 where
  pub stored : ℕ
  pub shape : IsCalipsoShape bytes (value, stored)
  pub valid : stored ≡ checksum_of bytes
