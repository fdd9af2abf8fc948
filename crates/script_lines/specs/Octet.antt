-- The octets of a script's lines.
use Rattle.std.specs.Prelude.{ℕ, Bool, ◌&&◌, ◌||◌, nat_eq, nat_le}

-- an octet that a line may hold: a tab, or printable ASCII from the space to `~`
abbrev pub is_plain : ℕ → Bool
is_plain octet = nat_eq octet 9 || (nat_le 32 octet && nat_le octet 126)

-- a space or a tab
abbrev pub is_blank : ℕ → Bool
is_blank octet = nat_eq octet 32 || nat_eq octet 9
