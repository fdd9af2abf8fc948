-- The order by descending mask: which place of a list of prefixes comes first.
use Rattle.std.specs.Prelude.{◌≡◌, ℕ, ◌+◌, ◌-◌, ◌<◌, ◌≤◌, List, [], ◌∷◌, length, Some, slice_get, insert, map, filter, not, cond, nat_eq, nat_lt, if◌then◌else◌}
use Rattle.std.specs.List.{position_or_len}
use Rattle.domain_map.specs.declared.order.Ranked.{Ranked}

-- each has at most as many bits as the one in front of it
abbrev pub Descends : ℕ → List Ranked → Type 0
Descends upper [] = Unit {0}
Descends upper (r ∷ rs) = (r.bits ≤ upper) × Descends r.bits rs

-- each is a place of the list, with its bits
abbrev pub Tells : List ℕ → List Ranked → Type 0
Tells bits [] = Unit {0}
Tells bits (r ∷ rs) = (slice_get bits r.place ≡ Some r.bits) × Tells bits rs

-- how often a place is there
abbrev pub times : ℕ → List Ranked → ℕ
times k [] = 0
times k (r ∷ rs) = cond (nat_eq r.place k) (1 + times k rs) (times k rs)

-- Each place of the list of bits is there once, with its bits, and the bits descend.
pub record IsOrder (bits : List ℕ) (order : List Ranked) : Type 0 where
  pub size : length order ≡ length bits
  pub tells : Tells bits order
  pub once : (k : ℕ) → k < length bits → times k order ≡ 1
  pub down : Descends 255 order

-- behind all that have as many bits
abbrev pub ranked_in : Ranked → List Ranked → List Ranked
ranked_in r order = insert order (position_or_len (λ (s : Ranked). nat_lt s.bits r.bits) order) r

-- a place is gone, and those behind it move up
abbrev pub lowered : ℕ → Ranked → Ranked
lowered place r = record { bits = r.bits; place = if nat_lt place r.place then r.place - 1 else r.place }

abbrev pub without : ℕ → List Ranked → List Ranked
without place order = map (lowered place) (filter (λ (r : Ranked). not (nat_eq r.place place)) order)
