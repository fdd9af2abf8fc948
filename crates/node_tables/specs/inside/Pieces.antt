-- Lines kept as one text, with the place where each ends.
use Rattle.std.specs.Prelude.{◌≡◌, ℕ, ◌≤◌, List, [], ◌∷◌, slice_range}

-- the pieces of a text from one end to the next
abbrev pub pieces : ℕ → List ℕ → List ℕ → List (List ℕ)
pieces from [] text = []
pieces from (end ∷ ends) text = slice_range text from end ∷ pieces end ends text

-- the ends don't fall, and the last is the text's
abbrev pub AreEnds : ℕ → List ℕ → ℕ → Type 0
AreEnds from [] last = from ≡ last
AreEnds from (end ∷ ends) last = (from ≤ end) × AreEnds end ends last
