-- The protocols that a command puts into a map.
use Rattle.std.specs.Prelude.{ℕ, ◌==◌, Bool, true, ◌||◌, List, ◌++◌, codes, Option, Some, None, option_map, if◌then◌else◌}
use Rattle.std.specs.Fmt.{decimal}
use Rattle.std.specs.List.{after_first, before_first}
use Rattle.std.specs.Str.{bytes_eq}
use Rattle.domain_map.specs.declared.protocol.Protocol.{Protocol}
use Rattle.domain_map.specs.declared.protocol.Protocol.TheVariants.{Unlbl, Cipso, Calipso}
use Rattle.script_lines.specs.command_values.Doi.{is_doi, doi_of_text}

-- what it has for a DOI is one
abbrev pub is_map_protocol : Protocol → Bool
is_map_protocol Unlbl = true
is_map_protocol (Cipso doi) = is_doi doi
is_map_protocol (Calipso doi) = is_doi doi

-- the protocol of a module's name and the text of a DOI; `cipso` is another name of `cipsov4`
abbrev pub protocol_by_name : List ℕ → List ℕ → Option Protocol
protocol_by_name name doi =
    if bytes_eq name (codes "cipsov4") || bytes_eq name (codes "cipso") then option_map Cipso (doi_of_text doi)
    else if bytes_eq name (codes "calipso") then option_map Calipso (doi_of_text doi)
    else None

-- `unlbl`, or a module's name, a comma and a DOI
abbrev pub map_protocol_of_text : List ℕ → Option Protocol
map_protocol_of_text text =
    if bytes_eq text (codes "unlbl") then Some Unlbl
    else protocol_by_name (before_first (λ c. c == 44) text) (after_first (λ c. c == 44) text)

-- a map's protocol as it is written
abbrev pub map_protocol_text : Protocol → List ℕ
map_protocol_text Unlbl = codes "unlbl"
map_protocol_text (Cipso doi) = codes "cipsov4," ++ decimal doi
map_protocol_text (Calipso doi) = codes "calipso," ++ decimal doi
