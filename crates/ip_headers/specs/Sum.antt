-- The one's complement sum of words of 16 bits (RFC 791, section 3.1; RFC 1071).
use Rattle.std.specs.Prelude.{ℕ, ◌+◌, ◌-◌, List, [], ◌∷◌, fold, nat_lt, if◌then◌else◌}
use Rattle.std.specs.Int.{w16, from_be_bytes}

-- the words of 16 bits; a last octet with no partner is followed by zero
abbrev pub words_of : List ℕ → List ℕ
words_of [] = []
words_of (a ∷ []) = from_be_bytes w16 (a ∷ 0 ∷ []) ∷ []
words_of (a ∷ b ∷ octets) = from_be_bytes w16 (a ∷ b ∷ []) ∷ words_of octets

-- the one's complement sum of two words: a carry out of the 16 bits comes in again below
abbrev pub ones_add : ℕ → ℕ → ℕ
ones_add a b = if nat_lt (a + b) 65536 then a + b else a + b - 65535

-- the one's complement sum of the words, one after another
unfoldable pub ones_sum : List ℕ → ℕ
ones_sum octets = fold ones_add 0 (words_of octets)
