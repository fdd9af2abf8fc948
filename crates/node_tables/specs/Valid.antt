-- What tables keep to which commands are given whose numbers and labels are within their bounds.
use Rattle.std.specs.Prelude.{ℕ, Bool, ◌&&◌, ◌<◌, ◌≤◌, ◌^◌, List, length, All}
use Rattle.std.specs.List.{IsDistinct}
use Rattle.std.specs.Map.{keys_of, values_of}
use Rattle.std.specs.Str.{bytes_eq}
use Rattle.mls_label.specs.declared.label.Proto.{Proto}
use Rattle.mls_range.specs.Range.{LabelRange}
use Rattle.doi_table.specs.declared.plan.DoiPlan.{DoiPlan}
use Rattle.doi_table.specs.Definition.{IsDefinition}
use Rattle.doi_table.specs.Table.{Entries, same_doi, count_of}
use Rattle.domain_map.specs.declared.address_text.address.Address.{Address}
use Rattle.domain_map.specs.address_text.Address.{same_address}
use Rattle.domain_map.specs.address_text.Prefix.{same_block}
use Rattle.domain_map.specs.declared.static_map.StaticEntry.{StaticEntry}
use Rattle.domain_map.specs.Domains.{Domain, Domains, same_domain}
use Rattle.domain_map.specs.Statics.{Statics}
use Rattle.script_lines.specs.command_values.Ranges.{IsMlsRange}
use Rattle.node_tables.specs.declared.receiver.Receiver.{Receiver}
use Rattle.node_tables.specs.Tables.{Receivers, Ranges, AddressPairs, TableState}
use Rattle.node_tables.specs.Coherence.{NamesDefined}

-- ---- an entry

-- its DOI may stand in an option, and is defined as a definition
abbrev pub IsDefined : (Proto × ℕ) × DoiPlan → Type 0
IsDefined entry = (0 < entry.0.1) × (entry.0.1 < 2 ^ 32) × IsDefinition entry.1

-- both ends of a static entry's range are labels, and the high one dominates the low one
abbrev pub IsBoundedStatic : StaticEntry → Type 0
IsBoundedStatic entry = IsMlsRange (record { low = entry.low; high = entry.high })

-- so it is with a receiver's range, whose high end is its level
abbrev pub IsBoundedReceiver : Address × Receiver → Type 0
IsBoundedReceiver entry = IsMlsRange (record { low = entry.1.low; high = entry.1.level })

-- and with an interface's
abbrev pub IsBoundedRange : Domain × LabelRange → Type 0
IsBoundedRange entry = IsMlsRange entry.1

-- ---- how entries stand to each other

-- no key has two entries, and there are no more than so many
pub record IsTable {K V : Type 0} (same : K → K → Bool) (most : ℕ) (entries : List (K × V)) : Type 0 where
  pub once : IsDistinct same (keys_of entries)
  pub few : length entries ≤ most

-- no DOI is defined twice, and there are 64 of a protocol at most
pub record AreDefinedOnce (entries : Entries) : Type 0 where
  pub once : IsDistinct same_doi (keys_of entries)
  pub few : (proto : Proto) → count_of entries proto ≤ 64

-- the entries are of one interface and one prefix
abbrev pub same_static : StaticEntry → StaticEntry → Bool
same_static a b = same_domain a.interface b.interface && same_block a.prefix b.prefix

-- no prefix has two labels at an interface, and there are 256 entries at most
pub record AreSetOnce (entries : Statics) : Type 0 where
  pub once : IsDistinct same_static entries
  pub few : length entries ≤ 256

-- no address stands in two pairs, and there are 256 pairs at most
pub record ArePairedOnce (entries : AddressPairs) : Type 0 where
  pub fours : IsTable bytes_eq 256 entries
  pub sixes : IsDistinct bytes_eq (values_of entries)

-- ---- all tables of a node

pub record AreValidParts (entries : Entries) (map : Domains) (labels : Statics) (levels : Receivers) (limits : Ranges) (others : AddressPairs) : Type 0 where
  pub definitions : All IsDefined entries
  pub dois : AreDefinedOnce entries
  pub named : NamesDefined entries map
  pub domains : IsTable same_domain 256 map
  pub statics : All IsBoundedStatic labels
  pub prefixes : AreSetOnce labels
  pub receivers : All IsBoundedReceiver levels
  pub addresses : IsTable same_address 256 levels
  pub ranges : All IsBoundedRange limits
  pub interfaces : IsTable same_domain 64 limits
  pub pairs : ArePairedOnce others

-- DOIs are defined as definitions, and the map names no others. The ends of ranges are labels, in order. No key has two entries, no address
-- stands in two pairs, and no table has more entries than it takes.
abbrev pub AreValid : TableState → Type 0
AreValid t = AreValidParts t.definitions t.domains t.statics t.receivers t.ranges t.pairs
