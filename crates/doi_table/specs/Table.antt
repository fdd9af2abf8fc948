-- A table of definitions: its entries in order of insertion, each the protocol and the DOI with the plan.
use Rattle.std.specs.Prelude.{ℕ, ◌≡◌, ◌++◌, Bool, true, false, ◌&&◌, not, List, [], ◌∷◌, Option, Some, None, nat_eq, nat_lt, nat_le, length, count_by, is_some, if◌then◌else◌}
use Rattle.std.specs.Map.{keys_of, lookup, remove_entry}
use Rattle.mls_label.specs.declared.label.Proto.{Proto}
use Rattle.mls_label.specs.declared.label.Proto.TheVariants.{Cipso, Calipso}
use Rattle.doi_table.specs.declared.plan.DoiPlan.{DoiPlan}
use Rattle.doi_table.specs.declared.fault.DoiFault.{DoiFault}
use Rattle.doi_table.specs.declared.fault.DoiFault.TheVariants.{Exists, TooManyPairs, NotOneToOne, Full, OutOfMemory}
use Rattle.doi_table.specs.Definition.{is_plan_one_to_one}

-- definitions by protocol and DOI, in order of insertion
abbrev pub Entries : Type 0
Entries = List ((Proto × ℕ) × DoiPlan)

-- names of definitions are compared by both parts
abbrev pub same_proto : Proto → Proto → Bool
same_proto Cipso Cipso = true
same_proto Calipso Calipso = true
same_proto _ _ = false

-- one protocol and one DOI
abbrev pub same_doi : Proto × ℕ → Proto × ℕ → Bool
same_doi a b = same_proto a.0 b.0 && nat_eq a.1 b.1

-- what a protocol's DOI is defined as
abbrev pub definition_of : Entries → Proto → ℕ → Option DoiPlan
definition_of table proto doi = lookup (same_doi (proto, doi)) table

-- how many DOIs of the protocol are defined
abbrev pub count_of : Entries → Proto → ℕ
count_of table proto = count_by (λ (name : Proto × ℕ). same_proto name.0 proto) (keys_of table)

-- the table with one more definition, which goes last
abbrev pub with_definition : Entries → Proto → ℕ → DoiPlan → Entries
with_definition table proto doi plan = table ++ ((proto, doi), plan) ∷ []

-- the table without a protocol's DOI; the others keep their order
abbrev pub without_definition : Entries → Proto → ℕ → Entries
without_definition table proto doi = remove_entry (same_doi (proto, doi)) table

-- why a plan can't be added, by the first reason that holds
abbrev pub add_fault : Entries → Proto → ℕ → DoiPlan → Option DoiFault
add_fault table proto doi plan =
    if is_some (definition_of table proto doi) then Some Exists
    else if nat_lt 1952 (length plan.cats) then Some TooManyPairs
    else if not (is_plan_one_to_one plan) then Some NotOneToOne
    else if nat_le 64 (count_of table proto) then Some Full
    else None

-- a fault that may be answered: the one that there is, or want of memory
abbrev pub MayAnswer : DoiFault → Option DoiFault → Type 0
MayAnswer OutOfMemory there = Unit {0}
MayAnswer fault there = there ≡ Some fault
