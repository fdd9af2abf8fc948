-- What listings have: the written commands that would make the entries.
use Rattle.std.specs.Prelude.{ℕ, Bool, List, [], ◌∷◌, map, filter, codes, Option, Some, None, if◌then◌else◌}
use Rattle.mls_label.specs.declared.label.Proto.{Proto}
use Rattle.mls_label.specs.declared.label.Proto.TheVariants as Of
use Rattle.doi_table.specs.declared.plan.DoiPlan.{DoiPlan}
use Rattle.doi_table.specs.Table.{Entries, same_proto}
use Rattle.domain_map.specs.Domains.{Domains, Line, lines_of}
use Rattle.domain_map.specs.Statics.{Statics}
use Rattle.domain_map.specs.declared.static_map.StaticEntry.{StaticEntry}
use Rattle.script_lines.specs.declared.command.Command.{Command}
use Rattle.script_lines.specs.declared.command.Command.TheVariants.{CipsoAddPass, CipsoAddTrans, CalipsoAddPass, CalipsoAddTrans, MapAdd, AcceptOn, AcceptOff, UnlblAdd}
use Rattle.script_lines.specs.Command.{command_text}

-- pairs of categories as a command has them, which leaves them out where there are none
abbrev pub some_pairs : List (ℕ × ℕ) → Option (List (ℕ × ℕ))
some_pairs [] = None
some_pairs (pair ∷ pairs) = Some (pair ∷ pairs)

-- the command that defines a DOI so
abbrev pub definition_command : Proto → ℕ → DoiPlan → Command
definition_command Of.Cipso doi plan = if plan.trans then CipsoAddTrans doi plan.tags plan.levels (some_pairs plan.cats) else CipsoAddPass doi plan.tags
definition_command Of.Calipso doi plan = if plan.trans then CalipsoAddTrans doi plan.levels (some_pairs plan.cats) else CalipsoAddPass doi

-- a definition is listed as the command that makes it
abbrev pub definition_line : (Proto × ℕ) × DoiPlan → List ℕ
definition_line entry = command_text (definition_command entry.0.0 entry.0.1 entry.1)

-- the definitions of a protocol
abbrev pub definition_lines : Entries → Proto → List (List ℕ)
definition_lines definitions proto = map definition_line (filter (λ entry. same_proto proto entry.0.0) definitions)

-- the entries of the map, and within an entry its addresses
abbrev pub domain_line : Line → List ℕ
domain_line line = command_text (MapAdd line.0 line.1 line.2)

-- the lines of `map list`
abbrev pub domain_lines : Domains → List (List ℕ)
domain_lines domains = map domain_line (lines_of domains)

-- a label of unlabelled packets is listed as the command that sets it
abbrev pub static_line : StaticEntry → List ℕ
static_line entry = command_text (UnlblAdd entry.interface entry.prefix (record { low = entry.low; high = entry.high }))

-- whether unlabelled packets are accepted, then the labels that are set for them
abbrev pub static_lines : Bool → Statics → List (List ℕ)
static_lines accepts statics = command_text (if accepts then AcceptOn else AcceptOff) ∷ map static_line statics

-- the line of `mgmt version`
abbrev pub version_lines : List (List ℕ)
version_lines = codes "version 1" ∷ []

-- the lines of `mgmt protocols`
abbrev pub protocol_lines : List (List ℕ)
protocol_lines = codes "unlbl" ∷ codes "cipsov4" ∷ codes "calipso" ∷ []
