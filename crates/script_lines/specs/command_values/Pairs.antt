-- Pairs of numbers with an equals sign between: a node's own number and what stands for it.
use Rattle.std.specs.Prelude.{ℕ, ◌≤◌, ◌==◌, List, ◌∷◌, ◌++◌, Option, option_map, option_and_then}
use Rattle.std.specs.Fmt.{decimal}
use Rattle.std.specs.List.{after_first, before_first}
use Rattle.domain_map.specs.address_text.Number.{number_of_text}

-- the numbers in front of the first equals sign and behind it, each up to its bound
abbrev pub pair_of_text : ℕ → ℕ → List ℕ → Option (ℕ × ℕ)
pair_of_text first second text =
    option_and_then (λ l. option_map (λ r. (l, r)) (number_of_text second (after_first (λ c. c == 61) text)))
    (number_of_text first (before_first (λ c. c == 61) text))

-- a pair as it is written: its numbers with `=` between them
abbrev pub pair_text : ℕ × ℕ → List ℕ
pair_text pair = decimal pair.0 ++ 61 ∷ decimal pair.1

-- each number is up to its bound
abbrev pub IsPairWithin : ℕ → ℕ → ℕ × ℕ → Type 0
IsPairWithin first second pair = (pair.0 ≤ first) × (pair.1 ≤ second)
