-- The words of parameters as they are appended.
use Rattle.std.specs.Prelude.{ℕ, List, [], ◌∷◌, Option, Some, None}
use Rattle.std.specs.List.{flat_map}
use Rattle.script_lines.specs.declared.form.Slot.{Slot}
use Rattle.script_lines.specs.declared.fields.Fields.{Fields}
use Rattle.script_lines.specs.Value.{word_of}

-- a word behind a space, where there is one
abbrev pub behind_space : Option (List ℕ) → List ℕ
behind_space None = []
behind_space (Some word) = 32 ∷ word

abbrev pub spaced_words : List Slot → Fields → List ℕ
spaced_words slots fields = flat_map (λ slot. behind_space (word_of slot.parameter fields)) slots
