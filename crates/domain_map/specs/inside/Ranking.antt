-- Lists of what has a prefix, with their order by descending mask.
use Rattle.std.specs.Prelude.{◌≡◌, ◌⊎◌, ℕ, ◌≤◌, Bool, false, List, [], ◌∷◌, length, map, slice_get}
use Rattle.std.specs.Option.{option_map_or}
use Rattle.domain_map.specs.declared.order.Ranked.{Ranked}
use Rattle.domain_map.specs.inside.Order.{IsOrder}

abbrev pub Has : {X : Type 0} → List X → X → Type 0
Has [] x = ⊥
Has (y ∷ ys) x = (y ≡ x) ⊎ Has ys x

-- at most 256, no two with one key, and their order
pub record IsRanked {X K : Type 0} (key : X → K) (bits_of : X → ℕ) (entries : List X) (ranks : List Ranked) : Type 0 where
  pub order : IsOrder (map bits_of entries) ranks
  pub apart : (x y : X) → Has entries x → Has entries y → key x ≡ key y → x ≡ y
  pub few : length entries ≤ 256

-- the one at the place passes
abbrev pub passes_at : {X : Type 0} → (X → Bool) → List X → ℕ → Bool
passes_at passes entries place = option_map_or passes (slice_get entries place) false
