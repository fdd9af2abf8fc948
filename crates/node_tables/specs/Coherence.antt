-- What every node's tables keep.
use Rattle.std.specs.Prelude.{ℕ, ◌<◌, IsTrue, IsSome}
use Rattle.mls_label.specs.declared.label.Proto.{Proto}
use Rattle.doi_table.specs.Table.{Entries, definition_of}
use Rattle.domain_map.specs.Domains.{Domains, names_doi_of}

-- each DOI that an entry of the map names is defined
abbrev pub NamesDefined : Entries → Domains → Type 0
NamesDefined definitions domains = (proto : Proto) (doi : ℕ) → IsTrue (names_doi_of domains proto doi) → IsSome (definition_of definitions proto doi)

-- and no DOI that is defined is 0
pub record IsCoherent (definitions : Entries) (domains : Domains) : Type 0 where
  pub defined : NamesDefined definitions domains
  pub positive : (proto : Proto) (doi : ℕ) → IsSome (definition_of definitions proto doi) → 0 < doi
