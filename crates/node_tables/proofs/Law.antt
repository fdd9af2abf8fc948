-- The laws of src/laws.rt under their names, for the crates above.
use Rattle.std.proofs.Common.{◌≡◌, ℕ, ◌+◌, List, [], ◌∷◌, take, Some, slice_get, refl, ap, ◌∙◌}
use Rattle.std.specs.Prelude.{All, IsTrue, IsSome, fold, length, replicate, option_and_then}
use Rattle.std.proofs.lemmas.List.Sums.{fold-append}
use Rattle.mls_label.specs.declared.label.Proto.{Proto}
use Rattle.mls_label.specs.Label.{IsLabel}
use Rattle.mls_range.specs.Range.{LabelRange}
use Rattle.doi_table.specs.declared.plan.DoiPlan.{DoiPlan}
use Rattle.doi_table.specs.Table.{Entries, definition_of}
use Rattle.domain_map.specs.declared.address_text.address.Address.{Address}
use Rattle.domain_map.specs.declared.protocol.Protocol.{Protocol}
use Rattle.domain_map.specs.Protocol.{has_doi}
use Rattle.domain_map.specs.Domains.{Domains, find_of}
use Rattle.script_lines.specs.command_values.Ranges.{IsMlsRange}
use Rattle.script_lines.specs.declared.command.Command.{Command}
use Rattle.script_lines.specs.declared.command.Step.{Step}
use Rattle.script_lines.specs.Bounded.{IsBounded}
use Rattle.node_tables.specs.declared.reply.Reply.TheVariants.{Done}
use Rattle.node_tables.specs.Tables.{TableState, fresh}
use Rattle.node_tables.specs.Coherence.{NamesDefined}
use Rattle.node_tables.specs.Effect.{becomes, lists, refuses, effect_of, state_after, reply_to, applied, reply_of}
use Rattle.node_tables.specs.Steps.{step_applied, step_reply, tables_after, reply_at}
use Rattle.node_tables.specs.Valid.{IsDefined, AreValid}
use Rattle.node_tables.proofs.Listings.{take_next}
use Rattle.node_tables.proofs.Names.{named_by_found}
use Rattle.node_tables.proofs.Stepping.{all_named, as_many}
use Rattle.node_tables.proofs.Valid.{found_valid, command_valid, all_valid}

pub nodes_begin_fresh : (nodes : ℕ) (steps : List Step) → tables_after nodes steps 0 ≡ replicate nodes fresh
unfolding tables_after
nodes_begin_fresh nodes steps = refl

pub steps_apply_one_by_one : (nodes : ℕ) (steps : List Step) (k : ℕ) (step : Step) → slice_get steps k ≡ Some step
    → (tables_after nodes steps (k + 1) ≡ step_applied (tables_after nodes steps k) step) × (reply_at nodes steps k ≡ step_reply (tables_after nodes steps k) step)
unfolding tables_after
steps_apply_one_by_one nodes steps k step at = (
  ap (fold step_applied (replicate nodes fresh)) (take_next steps k step at) ∙ fold-append step_applied (replicate nodes fresh) (take k steps) (step ∷ []),
  ap (option_and_then (step_reply (tables_after nodes steps k))) at,
)

pub nodes_keep_their_number : (nodes : ℕ) (steps : List Step) (k : ℕ) → length (tables_after nodes steps k) ≡ nodes
unfolding tables_after
nodes_keep_their_number nodes steps k = as_many nodes (take k steps)

pub only_done_changes_tables : (t : TableState) (command : Command) → (reply_of t command ≡ Done → ⊥) → applied t command ≡ t
only_done_changes_tables t command other =
    (elim (effect_of t command) as (λ effect. (reply_to effect ≡ Done → ⊥) → state_after t effect ≡ t) [
      | becomes new ↦ λ never. absurd (never refl)
      | lists lines ↦ λ never. refl
      | refuses why ↦ λ never. refl
    ]) other

pub maps_name_defined_dois : (nodes : ℕ) (steps : List Step) (k : ℕ) → All (λ (t : TableState). NamesDefined t.definitions t.domains) (tables_after nodes steps k)
unfolding tables_after
maps_name_defined_dois nodes steps k = all_named nodes (take k steps)

pub found_protocols_are_defined : (definitions : Entries) (domains : Domains) (domain : List ℕ) (address : Address) (protocol : Protocol) (proto : Proto) (doi : ℕ) → NamesDefined definitions domains
    → find_of domains domain address ≡ Some protocol → IsTrue (has_doi proto doi protocol) → IsSome (definition_of definitions proto doi)
found_protocols_are_defined definitions domains domain address protocol proto doi defined found has =
    defined proto doi (named_by_found proto doi domains domain address protocol found has)

pub bounded_commands_keep_tables_valid : (t : TableState) (command : Command) → IsBounded command → AreValid t → AreValid (applied t command)
bounded_commands_keep_tables_valid = command_valid

pub tables_are_valid_after_steps : (nodes : ℕ) (steps : List Step) (k : ℕ) → All (λ (step : Step). IsBounded step.command) steps → All AreValid (tables_after nodes steps k)
unfolding tables_after
tables_are_valid_after_steps nodes steps k are = all_valid nodes k steps are

pub found_definitions_are_valid : (t : TableState) (proto : Proto) (doi : ℕ) (plan : DoiPlan) → AreValid t → definition_of t.definitions proto doi ≡ Some plan → IsDefined ((proto, doi), plan)
found_definitions_are_valid t proto doi plan valid found = found_valid t.definitions proto doi plan valid.definitions found

pub range_ends_are_labels : (range : LabelRange) → IsMlsRange range → IsLabel range.low × IsLabel range.high
range_ends_are_labels range is = (record { level = is.low.level; cats = is.low.cats }, record { level = is.high.level; cats = is.high.cats })
