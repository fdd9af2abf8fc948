-- Which octet may stand where in a Basic Security Option: a rule for each field, in a layout after RFC 1108.
use Rattle.std.specs.Prelude.{ℕ, ◌%◌, Bool, ◌&&◌, List, [], ◌∷◌, nat_eq, nat_lt, nat_le, ◌==◌}
use Rattle.std.specs.List.{list_any}
use Rattle.std.specs.Int.{from_bool}
use Rattle.ripso_option.specs.declared.bounds.TheConstants.{OPTION_TYPE, HEADER_OCTETS, MOST_OCTETS}

-- the option type
abbrev pub is_ripso_type : ℕ → Bool
is_ripso_type octet = octet == OPTION_TYPE

-- the length of the whole option, with none to four octets of flags
abbrev pub is_ripso_length : ℕ → Bool
is_ripso_length octet = nat_le HEADER_OCTETS octet && nat_le octet MOST_OCTETS

-- the classification levels: Reserved 4 (00000001), Top Secret (00111101), Secret (01011010), Confidential (10010110),
-- Reserved 3 (01100110), Reserved 2 (11001100), Unclassified (10101011), Reserved 1 (11110001)
abbrev pub class_octets : List ℕ
class_octets = 1 ∷ 61 ∷ 90 ∷ 150 ∷ 102 ∷ 204 ∷ 171 ∷ 241 ∷ []

abbrev pub is_class : ℕ → Bool
is_class octet = list_any (nat_eq octet) class_octets

-- An octet of flags that has so many behind it in the option: its field termination indicator, the least significant bit, is 1
-- exactly where another octet follows.
abbrev pub is_flag_octet : ℕ → ℕ → Bool
is_flag_octet behind octet = octet % 2 == from_bool (nat_lt 0 behind)
