-- The written form of an option.
use Rattle.std.specs.Prelude.{ℕ, ◌+◌, List, ◌∷◌, ◌++◌, length}
use Rattle.std.specs.Int.{w32, to_be_bytes}
use Rattle.mls_label.specs.declared.label.Tag.{Tag}
use Rattle.mls_label.specs.declared.label.Label.{Label}
use Rattle.cipso_tags.specs.Text.{tag_text}
use Rattle.cipso_option.specs.declared.bounds.TheConstants.{OPTION_TYPE, HEAD_OCTETS}

-- type, length, DOI, and one tag
abbrev pub cipso_text : ℕ → Tag → Label → List ℕ
cipso_text doi tag label = OPTION_TYPE ∷ (HEAD_OCTETS + length (tag_text tag label)) ∷ (to_be_bytes w32 doi ++ tag_text tag label)
