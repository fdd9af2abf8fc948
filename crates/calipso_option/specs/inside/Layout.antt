-- The fixed places of an option: what stands there.
use Rattle.std.specs.Prelude.{ℕ, ◌≡◌, ◌+◌, ◌-◌, ◌*◌, ◌/◌, ◌%◌, ◌<◌, ◌≤◌, List, [], ◌∷◌, length, slice_index}
use Rattle.std.specs.Int.{w16, from_le_bytes}
use Rattle.mls_label.specs.octet_grammar.Numbers.{u32_at}
use Rattle.calipso_option.specs.declared.bounds.TheConstants.{OPTION_TYPE, MOST_WORDS}
use Rattle.calipso_option.specs.declared.fault.CalipsoFault.{CalipsoFault}
use Rattle.calipso_option.specs.declared.fault.CalipsoFault.TheVariants.{Wire, BadChecksum}
use Rattle.calipso_option.specs.Calipso.{checksum_of}

-- the length octet of an option of up to 61 words
pub record IsLength (octet : ℕ) : Type 0 where
  pub low : 8 ≤ octet
  pub high : octet ≤ 8 + 4 * MOST_WORDS
  pub whole : octet % 4 ≡ 0

-- an option of n octets stands at the front, whatever its checksum
pub record IsLaidOut (s : List ℕ) (n : ℕ) : Type 0 where
  pub within : n ≤ length s
  pub type : slice_index s 0 ≡ OPTION_TYPE
  pub size : IsLength (slice_index s 1)
  pub octets : n ≡ 2 + slice_index s 1
  pub named : 0 < u32_at s 2
  pub words : slice_index s 6 ≡ (slice_index s 1 - 8) / 4

-- the number of octets 8 and 9, the less significant octet first
abbrev pub checksum_at : List ℕ → ℕ
checksum_at s = from_le_bytes w16 (slice_index s 8 ∷ slice_index s 9 ∷ [])

-- the checksum of a whole option isn't the computed one
abbrev pub IsFalseChecksum : List ℕ → CalipsoFault → Type 0
IsFalseChecksum s (BadChecksum stored computed) = (stored ≡ checksum_at s) × (computed ≡ checksum_of s) × (stored ≡ computed → ⊥)
IsFalseChecksum s (Wire fault) = ⊥
