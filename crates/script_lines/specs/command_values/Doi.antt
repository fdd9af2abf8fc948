-- DOIs of CIPSO and CALIPSO.
use Rattle.std.specs.Prelude.{ℕ, Bool, ◌&&◌, nat_le, List, Option, Some, None, option_and_then, if◌then◌else◌}
use Rattle.domain_map.specs.address_text.Number.{number_of_text}

-- a number from 1 to 4294967295
abbrev pub is_doi : ℕ → Bool
is_doi n = nat_le 1 n && nat_le n 4294967295

-- a DOI's decimal text
abbrev pub doi_of_text : List ℕ → Option ℕ
doi_of_text text = option_and_then (λ n. if is_doi n then Some n else None) (number_of_text 4294967295 text)
