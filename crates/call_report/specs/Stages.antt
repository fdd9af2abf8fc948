-- The files that a call reads and makes, stage by stage. The first stage reads or makes the file that the words name; behind it each flow has one. The last stage that was begun is in hand.
use Rattle.std.specs.Prelude.{ℕ, List, [], ◌∷◌, Option, Some, None}

-- the names of the file that is read and of the one that is made
pub record Stage : Type 0 where
  pub input : Option (List ℕ)
  pub output : Option (List ℕ)

-- a stage that reads this file and makes none
abbrev pub reading_stage : List ℕ → Stage
reading_stage file = record { input = Some file; output = None }

-- a stage that makes this file and reads none
abbrev pub making_stage : List ℕ → Stage
making_stage file = record { input = None; output = Some file }

-- the file that the last stage reads
abbrev pub input_in_hand : List Stage → Option (List ℕ)
input_in_hand [] = None
input_in_hand (stage ∷ []) = stage.input
input_in_hand (stage ∷ next ∷ stages) = input_in_hand (next ∷ stages)

-- the file that the last stage makes
abbrev pub output_in_hand : List Stage → Option (List ℕ)
output_in_hand [] = None
output_in_hand (stage ∷ []) = stage.output
output_in_hand (stage ∷ next ∷ stages) = output_in_hand (next ∷ stages)
