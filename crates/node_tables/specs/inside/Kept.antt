-- What the type of a node's tables keeps.
use Rattle.std.specs.Prelude.{◌≡◌, ℕ, ◌<◌, true, length, IsTrue}
use Rattle.std.specs.List.{AllByRecursion}
use Rattle.mls_label.specs.declared.label.Proto.{Proto}
use Rattle.mls_label.specs.declared.label.Proto.TheVariants as Of
use Rattle.doi_table.specs.declared.plan.DoiPlan.{DoiPlan}
use Rattle.doi_table.specs.Table.{Entries}
use Rattle.domain_map.specs.declared.protocol.Protocol.{Protocol}
use Rattle.domain_map.specs.declared.protocol.Protocol.TheVariants.{Unlbl, Cipso, Calipso}
use Rattle.domain_map.specs.Domains.{Domains, names_doi_of}
use Rattle.script_lines.specs.command_values.Tags.{AreTags}
use Rattle.node_tables.specs.Coherence.{NamesDefined}

-- The definition is one that a command may give: its DOI isn't 0, of CIPSO it has 1 to 5 tags, and where it translates it has pairs
-- of levels.
pub record IsGiven (name : Proto × ℕ) (plan : DoiPlan) : Type 0 where
  pub doi : 0 < name.1
  pub tags : name.0 ≡ Of.Cipso → AreTags plan.tags
  pub levels : plan.trans ≡ true → 0 < length plan.levels

abbrev pub AreGiven : Entries → Type 0
AreGiven definitions = AllByRecursion (λ e. IsGiven e.0 e.1) definitions

-- the protocol has no DOI, or one that isn't 0
abbrev pub HasNoZero : Protocol → Type 0
HasNoZero Unlbl = Unit {0}
HasNoZero (Cipso doi) = 0 < doi
HasNoZero (Calipso doi) = 0 < doi

-- no entry of the map names the DOI 0
abbrev pub NamesNoZero : Domains → Type 0
NamesNoZero domains = (proto : Proto) (doi : ℕ) → IsTrue (names_doi_of domains proto doi) → 0 < doi

pub record IsKept (definitions : Entries) (domains : Domains) : Type 0 where
  pub defined : NamesDefined definitions domains
  pub given : AreGiven definitions
