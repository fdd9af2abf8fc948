-- The numbers that words name.
use Rattle.std.specs.Prelude.{ℕ, List, Option}
use Rattle.domain_map.specs.address_text.Number.{number_of_text}
use Rattle.script_lines.specs.command_values.List.{list_of_text}

-- a number below 2^32, without a leading zero
abbrev pub number_named : List ℕ → Option ℕ
number_named text = number_of_text 4294967295 text

-- versions, each such a number, with commas between
abbrev pub versions_named : List ℕ → Option (List ℕ)
versions_named text = list_of_text number_named text
