-- Names at the front of a hop's text.
use Rattle.std.specs.Prelude.{ℕ, ◌≡◌, true, false, List, [], ◌∷◌}
use Rattle.label_commands.specs.flow_lines.HopText.{comma_parts, are_names}

-- the first three parts of the text are these names, and the rest stands behind them
pub record HasThreeNames (text first second third rest : List ℕ) : Type 0 where
  pub are : comma_parts text ≡ first ∷ second ∷ third ∷ comma_parts rest
  pub names : are_names (first ∷ second ∷ third ∷ []) ≡ true

-- no text has names as its first three parts and more behind them
abbrev pub LacksThreeNames : List ℕ → Type 0
LacksThreeNames text = (first second third part : List ℕ) (parts : List (List ℕ)) → comma_parts text ≡ first ∷ second ∷ third ∷ part ∷ parts
    → are_names (first ∷ second ∷ third ∷ []) ≡ false
