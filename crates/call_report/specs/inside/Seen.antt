-- The versions of a flow's packets, kept in one list.
use Rattle.std.specs.Prelude.{ℕ, zero, suc, ◌≡◌, ◌+◌, ◌-◌, ◌≤◌, get_or, List, [], ◌∷◌, take, drop}

-- the pieces of a list from a place on, each up to the next end
abbrev pub pieces_of : List ℕ → ℕ → List ℕ → List (List ℕ)
pieces_of list start [] = []
pieces_of list start (stop ∷ stops) = take (stop - start) (drop start list) ∷ pieces_of list stop stops

-- where the piece at a place starts
abbrev pub start_at : ℕ → List ℕ → ℕ → ℕ
start_at start stops zero = start
start_at start stops (suc place) = get_or stops place 0

-- Ends rise from a place to a length, by 16 at most.
abbrev pub Reach : ℕ → ℕ → List ℕ → Type 0
Reach size start [] = start ≡ size
Reach size start (stop ∷ stops) = (start ≤ stop) × (stop ≤ start + 16) × (stop ≤ size) × Reach size stop stops
