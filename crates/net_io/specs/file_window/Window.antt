-- Octets of a file that a reader keeps.
use Rattle.std.specs.Prelude.{◌≡◌, ℕ, List, length, take, drop}

-- these octets stand in a file from the octet `at` on
abbrev pub IsFrom : List ℕ → ℕ → List ℕ → Type 0
IsFrom file at octets = take (length octets) (drop at file) ≡ octets
