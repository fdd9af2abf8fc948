-- What a number on the wire means at a node.
use Rattle.std.specs.Prelude.{ℕ, Bool, true, false, Option, option_map, option_and_then}
use Rattle.mls_label.specs.declared.label.Proto.{Proto}
use Rattle.mls_label.specs.declared.label.Proto.TheVariants.{Cipso, Calipso}
use Rattle.doi_table.specs.declared.plan.DoiPlan.{DoiPlan}
use Rattle.doi_table.specs.Pairs.{flipped}
use Rattle.doi_table.specs.Definition.{number_in}
use Rattle.doi_table.specs.Table.{definition_of}
use Rattle.script_lines.specs.Form.{Edition, with_translations}
use Rattle.label_commands.specs.node_readings.Reading.{NamedMeanings, meaning_in}
use Rattle.node_tables.specs.Tables.{TableState}

-- what a level on the wire, or else a category, means under a definition: what the reading says of its local number, if it has one
abbrev pub wire_meaning : Bool → DoiPlan → NamedMeanings → ℕ → Option ℕ
wire_meaning true plan named wire = option_map (meaning_in named.levels) (number_in plan.trans (flipped plan.levels) wire)
wire_meaning false plan named wire = option_map (meaning_in named.cats) (number_in plan.trans (flipped plan.cats) wire)

-- what it means under a protocol's DOI at a node, if the node defines that DOI
abbrev pub meaning_at : TableState → NamedMeanings → Proto → ℕ → Bool → ℕ → Option ℕ
meaning_at tables named proto doi level wire =
    option_and_then (λ plan. wire_meaning level plan named wire) (definition_of tables.definitions proto doi)

-- The levels, or else the categories, that a protocol can carry are those below: 256 levels, all 65,535 categories for CIPSO
-- (FIPS 188) and the 1,952 bits of at most 61 words for CALIPSO (RFC 5570).
abbrev pub carried_below : Proto → Bool → ℕ
carried_below proto true = 256
carried_below Cipso false = 65535
carried_below Calipso false = 1952

-- The numbers that count for the scripts of an edition. Before the last edition all categories did, whatever a protocol can carry.
abbrev pub carried_in : Edition → Proto → Bool → ℕ
carried_in with_translations proto level = carried_below proto level
carried_in edition proto true = 256
carried_in edition proto false = 65535
