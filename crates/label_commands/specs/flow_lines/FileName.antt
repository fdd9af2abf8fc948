-- Names of files, as a script's words spell them.
use Rattle.std.specs.Prelude.{ℕ, Bool, false, not, ◌&&◌, ◌||◌, nat_eq, nat_le, List, [], ◌∷◌, length, Option, Some, None, if◌then◌else◌}
use Rattle.std.specs.List.{list_all}

-- printable ASCII but the space
abbrev pub is_file_octet : ℕ → Bool
is_file_octet octet = nat_le 33 octet && nat_le octet 126

-- 1 to 127 of them, and neither `-` nor `#` in front
abbrev pub is_file_name : List ℕ → Bool
is_file_name [] = false
is_file_name (first ∷ octets) = not (nat_eq first 45 || nat_eq first 35) && nat_le (length octets) 126 && list_all is_file_octet (first ∷ octets)

-- a file name is its text
abbrev pub file_name_of_text : List ℕ → Option (List ℕ)
file_name_of_text text = if is_file_name text then Some text else None
