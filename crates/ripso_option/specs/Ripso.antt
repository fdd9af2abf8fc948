-- The Basic Security Option of IPv4: the set of whole octet strings that are one, each with its label. The layout is this
-- project's own choice after RFC 1108.
use Rattle.std.specs.Prelude.{ℕ, ◌≡◌, ◌+◌, ◌≤◌, List, [], ◌∷◌, length, IsTrue}
use Rattle.mls_label.specs.octet_grammar.Octets.{IsOctets}
use Rattle.mls_label.specs.declared.label.Label.{Label}
use Rattle.ripso_option.specs.declared.bounds.TheConstants.{OPTION_TYPE, HEADER_OCTETS, MOST_FLAG_OCTETS}
use Rattle.ripso_option.specs.Rules.{is_class, is_flag_octet}
use Rattle.ripso_option.specs.Flags.{flags_of}

-- type 130, the length of the whole option, the classification level, the octets of flags
abbrev pub ripso_octets : ℕ → List ℕ → List ℕ
ripso_octets class flags = OPTION_TYPE ∷ (HEADER_OCTETS + length flags) ∷ class ∷ flags

-- each octet of flags says whether another follows
abbrev pub AreFlagOctets : List ℕ → Type 0
AreFlagOctets [] = Unit {0}
AreFlagOctets (octet ∷ behind) = IsTrue (is_flag_octet (length behind) octet) × AreFlagOctets behind

-- an option: its classification level is the label's level, its flags are the label's categories
pub record IsRipso (bytes : List ℕ) (label : Label) : Type 0 where
  pub flags : List ℕ
  pub is : bytes ≡ ripso_octets label.level flags
  pub room : length flags ≤ MOST_FLAG_OCTETS
  pub octets : IsOctets flags
  pub class : IsTrue (is_class label.level)
  pub ends : AreFlagOctets flags
  pub carries : label.cats ≡ flags_of flags
