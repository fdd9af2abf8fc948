-- Names of nodes, domains and interfaces.
use Rattle.std.specs.Prelude.{ℕ, Bool, ◌&&◌, ◌||◌, nat_eq, nat_le, List, length, IsTrue, Option, Some, None, if◌then◌else◌}
use Rattle.std.specs.List.{list_all}

-- a letter, a digit, `_`, `-` or `.`
abbrev pub is_name_octet : ℕ → Bool
is_name_octet c = (nat_le 97 c && nat_le c 122) || (nat_le 65 c && nat_le c 90) || (nat_le 48 c && nat_le c 57)
    || nat_eq c 95 || nat_eq c 45 || nat_eq c 46

-- 1 to 63 of them
abbrev pub is_name : List ℕ → Bool
is_name text = nat_le 1 (length text) && nat_le (length text) 63 && list_all is_name_octet text

abbrev pub IsNameText : List ℕ → Type 0
IsNameText text = IsTrue (is_name text)

-- a name is its text
abbrev pub name_of_text : List ℕ → Option (List ℕ)
name_of_text text = if is_name text then Some text else None
