-- The words of a line, each with its place.
use Rattle.std.specs.Prelude.{ℕ, ◌≡◌, ◌+◌, Bool, true, false, not, ◌&&◌, List, [], ◌∷◌, ◌++◌, length, filter, take_while, nat_eq, IsTrue}
use Rattle.std.specs.List.{list_any, slice_split}
use Rattle.script_lines.specs.Octet.{is_blank}

-- a word, and where its first octet stands in the line
pub record LineWord : Type 0 where
  pub at : ℕ
  pub text : List ℕ

-- texts that stand one octet apart, the first at a place
abbrev pub placed : ℕ → List (List ℕ) → List LineWord
placed place [] = []
placed place (text ∷ texts) = (record { at = place; text = text }) ∷ placed (place + length text + 1) texts

-- the text is not empty
abbrev pub has_octets : List ℕ → Bool
has_octets [] = false
has_octets (octet ∷ octets) = true

-- it begins with `#`
abbrev pub begins_comment : List ℕ → Bool
begins_comment [] = false
begins_comment (octet ∷ octets) = nat_eq octet 35

-- what stands between the blanks of a text that begins at a place of the line, up to the first that begins with `#`
abbrev pub words_from : ℕ → List ℕ → List LineWord
words_from place text =
    take_while (λ word. not (begins_comment word.text)) (filter (λ word. has_octets word.text) (placed place (slice_split is_blank text)))

-- the words of a whole line
abbrev pub words_of_line : List ℕ → List LineWord
words_of_line line = words_from 0 line

-- not empty, without a blank, and no beginning of a comment
abbrev pub is_word_text : List ℕ → Bool
is_word_text text = has_octets text && not (begins_comment text) && not (list_any is_blank text)

-- the word stands in the line at its place
pub record IsWordOf (line : List ℕ) (word : LineWord) : Type 0 where
  pub front : List ℕ
  pub back : List ℕ
  pub is : line ≡ front ++ (word.text ++ back)
  pub place : word.at ≡ length front
  pub text : IsTrue (is_word_text word.text)
