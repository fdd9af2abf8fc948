-- What was read of the last word of a line, octet by octet.
use Rattle.std.specs.Prelude.{◌+◌, ◌*◌, ◌-◌, ◌==◌, ◌&&◌, ℕ, Bool, nat_le, nat_lt, if◌then◌else◌, List, [], ◌∷◌, ◌++◌, length, fold, Option, Some, None}
use Rattle.call_report.specs.declared.report_file.word.Word.{Word}
use Rattle.call_report.specs.declared.report_file.word.Word.TheVariants.{Other, Dash, Begun, Number}

-- the word as far as it was read, and the numbers that stand whole in it
pub record LastWord : Type 0 where
  pub word : Word
  pub versions : List ℕ

abbrev pub is_digit : ℕ → Bool
is_digit octet = nat_le 48 octet && nat_le octet 57

-- a number with one more digit, where it has no leading zero and is below 2^32
abbrev pub with_digit : ℕ → ℕ → Word
with_digit value digit = if nat_lt 0 value && nat_lt (value * 10 + digit) 4294967296 then Number (value * 10 + digit) else Other

-- behind a blank, or a comma
abbrev pub begin_number : List ℕ → ℕ → Word
begin_number versions octet = if is_digit octet then Number (octet - 48) else (if octet == 45 && length versions == 0 then Dash else Other)

-- behind digits
abbrev pub behind_number : List ℕ → ℕ → ℕ → LastWord
behind_number versions value octet =
    if is_digit octet then record { word = with_digit value (octet - 48); versions = versions }
    else (if octet == 44 && nat_lt (length versions) 15 then record { word = Begun; versions = versions ++ value ∷ [] } else record { word = Other; versions = versions })

abbrev pub behind_word : Word → List ℕ → ℕ → LastWord
behind_word Other versions octet = record { word = Other; versions = versions }
behind_word Dash versions octet = record { word = Other; versions = versions }
behind_word Begun versions octet = record { word = begin_number versions octet; versions = versions }
behind_word (Number value) versions octet = behind_number versions value octet

-- one octet more
abbrev pub next_word : LastWord → ℕ → LastWord
next_word last octet = if octet == 32 then record { word = Begun; versions = [] } else behind_word last.word last.versions octet

-- octets of one line more
abbrev pub word_behind : LastWord → List ℕ → LastWord
word_behind last octets = fold next_word last octets

abbrev pub versions_by : Word → List ℕ → Option (List ℕ)
versions_by Other versions = None
versions_by Dash versions = Some versions
versions_by Begun versions = None
versions_by (Number value) versions = Some (versions ++ value ∷ [])

-- the versions that a whole word names
abbrev pub versions_of : LastWord → Option (List ℕ)
versions_of last = versions_by last.word last.versions
