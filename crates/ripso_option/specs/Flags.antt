-- Protection authority flags (RFC 1108): seven in each octet, and behind them the field termination indicator.
use Rattle.std.specs.Prelude.{ℕ, ◌+◌, ◌-◌, ◌*◌, ◌/◌, ◌%◌, ◌==◌, Bool, max, List, [], ◌∷◌, map, filter, nat_lt, slice_index}
use Rattle.std.specs.List.{range_with_len}
use Rattle.std.specs.Int.{bit_at, from_bool}
use Rattle.mls_label.specs.Cats.{has}

-- flag f is bit f mod 7 of octet f / 7, where bit 0 is the most significant one
abbrev pub has_flag : List ℕ → ℕ → Bool
has_flag octets f = bit_at (slice_index octets (f / 7)) (7 - f % 7) == 1

-- those of the 28 flags that are set
unfoldable pub flags_of : List ℕ → List ℕ
flags_of octets = filter (has_flag octets) (range_with_len 0 28)

-- the octets that a set of flags needs: its highest flag stands in the last of them
abbrev pub flag_octets_needed : List ℕ → ℕ
flag_octets_needed [] = 0
flag_octets_needed (f ∷ flags) = max (f / 7 + 1) (flag_octets_needed flags)

-- seven flags from this one on, each with its weight, and the indicator
abbrev pub flag_octet : List ℕ → ℕ → Bool → ℕ
flag_octet flags first follows =
    let weighs = λ (weight f : ℕ). weight * from_bool (has flags (first + f)) in
    weighs 128 0 + weighs 64 1 + weighs 32 2 + weighs 16 3 + weighs 8 4 + weighs 4 5 + weighs 2 6 + from_bool follows

-- a set of flags in n octets, each but the last followed by another
abbrev pub flags_text : List ℕ → ℕ → List ℕ
flags_text flags n = map (λ i. flag_octet flags (7 * i) (nat_lt (i + 1) n)) (range_with_len 0 n)
