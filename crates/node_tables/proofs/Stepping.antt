-- Networks step by step.
use Rattle.std.proofs.Common.{◌≡◌, ℕ, List, [], ◌∷◌, length, Option, Some, None, Result, Ok, Err, slice_get, refl, subst, ◌∙◌}
use Rattle.std.specs.Prelude.{fold, replicate, slice_set, All}
use Rattle.std.specs.Option.{option_map_or}
use Rattle.std.proofs.lemmas.Bool.{false≢true}
use Rattle.std.proofs.lemmas.List.{length-replicate, length-set}
use Rattle.std.proofs.lemmas.List.Elements.{All-replicate, All-set}
use Rattle.std.proofs.lemmas.Option.{slice_get_within, get_or_from_slice_get}
use Rattle.mls_label.specs.declared.label.Proto.{Proto}
use Rattle.mls_label.specs.declared.label.Proto.TheVariants as Of
use Rattle.doi_table.specs.declared.plan.DoiPlan.{DoiPlan}
use Rattle.doi_table.specs.Table.{definition_of}
use Rattle.domain_map.specs.Domains.{names_doi_of}
use Rattle.script_lines.specs.declared.command.Command.{Command}
use Rattle.script_lines.specs.declared.command.Command.TheVariants.{CipsoAddPass, CipsoAddTrans, CalipsoAddPass, CalipsoAddTrans, CipsoDel, CalipsoDel, CipsoList, CalipsoList, MapAdd, MapDel, MapList, AcceptOn, AcceptOff, UnlblAdd, UnlblDel, UnlblList, ReceiverAdd, ReceiverDel, RangeAdd, RangeDel, PairAdd, PairDel, MgmtVersion, MgmtProtocols}
use Rattle.script_lines.specs.declared.command.Step.{Step}
use Rattle.node_tables.specs.declared.reply.Refusal.{Refusal}
use Rattle.node_tables.specs.declared.reply.Refusal.TheVariants.{DoiUnknown}
use Rattle.node_tables.specs.Tables.{TableState, fresh}
use Rattle.node_tables.specs.Listing.{definition_line}
use Rattle.node_tables.specs.Change.{definition_added, definition_deleted, entry_added, entry_deleted, label_added, label_deleted, receiver_added, receiver_deleted, range_added, range_deleted, pair_added, pair_deleted}
use Rattle.node_tables.specs.Coherence.{NamesDefined}
use Rattle.node_tables.specs.Effect.{Effect, lists, refuses, change_effect, pass_plan, trans_plan, listing_effect, receiver_of, effect_of, state_after, applied}
use Rattle.node_tables.specs.Steps.{step_applied}
use Rattle.node_tables.proofs.Defined.{defined_added, defined_deleted, defined_entry, defined_left}

abbrev Names : TableState → Type 0
Names t = NamesDefined t.definitions t.domains

-- ---- one command

changed : {X : Type 0} (t : TableState) (made : Result X Refusal) (place : X → TableState) → Names t → ((x : X) → made ≡ Ok x → Names (place x)) → Names (state_after t (change_effect made place))
changed t (Ok x) place kept step = step x refl
changed t (Err why) place kept step = kept

listed : (t : TableState) (proto : Proto) (doi : Option ℕ) → Names t → Names (state_after t (listing_effect t proto doi))
listed t proto None kept = kept
listed t proto (Some doi) kept =
    elim (definition_of t.definitions proto doi) as (λ o. Names (state_after t (elim o as (λ _. Effect) [ Some plan ↦ lists (definition_line ((proto, doi), plan) ∷ []) | None ↦ refuses DoiUnknown ]))) [
      | Some plan ↦ kept
      | None ↦ kept
    ]

defined : (t : TableState) (proto : Proto) (doi : ℕ) (plan : DoiPlan) → Names t → Names (state_after t (change_effect (definition_added t.definitions proto doi plan) (λ ds. record t { definitions = ds })))
defined t proto doi plan kept =
    changed t (definition_added t.definitions proto doi plan) (λ ds. record t { definitions = ds }) kept (λ new made. defined_added t.definitions new t.domains proto doi plan made kept)

forgotten : (t : TableState) (proto : Proto) (doi : ℕ) → Names t → Names (state_after t (change_effect (definition_deleted t.definitions t.domains proto doi) (λ ds. record t { definitions = ds })))
forgotten t proto doi kept =
    changed t (definition_deleted t.definitions t.domains proto doi) (λ ds. record t { definitions = ds }) kept (λ new made. defined_deleted t.definitions new t.domains proto doi made kept)

named_after : (t : TableState) (command : Command) → Names t → Names (applied t command)
unfolding effect_of
named_after t (CipsoAddPass doi tags) kept = defined t Of.Cipso doi (pass_plan tags) kept
named_after t (CipsoAddTrans doi tags levels cats) kept = defined t Of.Cipso doi (trans_plan tags levels cats) kept
named_after t (CalipsoAddPass doi) kept = defined t Of.Calipso doi (pass_plan []) kept
named_after t (CalipsoAddTrans doi levels cats) kept = defined t Of.Calipso doi (trans_plan [] levels cats) kept
named_after t (CipsoDel doi) kept = forgotten t Of.Cipso doi kept
named_after t (CalipsoDel doi) kept = forgotten t Of.Calipso doi kept
named_after t (CipsoList doi) kept = listed t Of.Cipso doi kept
named_after t (CalipsoList doi) kept = listed t Of.Calipso doi kept
named_after t (MapAdd domain prefix protocol) kept =
    changed t (entry_added t.definitions t.domains domain prefix protocol) (λ ds. record t { domains = ds }) kept (λ new made. defined_entry t.definitions t.domains new domain prefix protocol made kept)
named_after t (MapDel domain prefix) kept =
    changed t (entry_deleted t.domains domain prefix) (λ ds. record t { domains = ds }) kept (λ new made. defined_left t.definitions t.domains new domain prefix made kept)
named_after t MapList kept = kept
named_after t AcceptOn kept = kept
named_after t AcceptOff kept = kept
named_after t (UnlblAdd interface prefix range) kept = changed t (label_added t.statics interface prefix range) (λ x. record t { statics = x }) kept (λ new made. kept)
named_after t (UnlblDel interface prefix) kept = changed t (label_deleted t.statics interface prefix) (λ x. record t { statics = x }) kept (λ new made. kept)
named_after t UnlblList kept = kept
named_after t (ReceiverAdd address domain range) kept = changed t (receiver_added t.receivers address (receiver_of domain range)) (λ x. record t { receivers = x }) kept (λ new made. kept)
named_after t (ReceiverDel address) kept = changed t (receiver_deleted t.receivers address) (λ x. record t { receivers = x }) kept (λ new made. kept)
named_after t (RangeAdd interface range) kept = changed t (range_added t.ranges interface range) (λ x. record t { ranges = x }) kept (λ new made. kept)
named_after t (RangeDel interface) kept = changed t (range_deleted t.ranges interface) (λ x. record t { ranges = x }) kept (λ new made. kept)
named_after t (PairAdd four six) kept = changed t (pair_added t.pairs four six) (λ x. record t { pairs = x }) kept (λ new made. kept)
named_after t (PairDel four) kept = changed t (pair_deleted t.pairs four) (λ x. record t { pairs = x }) kept (λ new made. kept)
named_after t MgmtVersion kept = kept
named_after t MgmtProtocols kept = kept

names_none : Names fresh
unfolding names_doi_of
names_none proto doi named = absurd (false≢true named)

-- ---- one step

pub all_of_place : {X : Type 0} (P : X → Type 0) (xs : List X) (i : ℕ) (x : X) → All P xs → slice_get xs i ≡ Some x → P x
all_of_place P xs i x all at = subst P (get_or_from_slice_get xs i x x at) (all i x (slice_get_within xs i x at))

stepped : (nodes : List TableState) (step : Step) → All Names nodes → All Names (step_applied nodes step)
stepped nodes step all =
    (elim (slice_get nodes step.node) as (λ o. slice_get nodes step.node ≡ o → All Names (option_map_or (λ t. slice_set nodes step.node (applied t step.command)) o nodes)) [
      | Some t ↦ λ at. All-set Names nodes step.node (applied t step.command) (named_after t step.command (all_of_place Names nodes step.node t all at)) all
      | None ↦ λ at. all
    ]) refl

long : (nodes : List TableState) (step : Step) → length (step_applied nodes step) ≡ length nodes
long nodes step =
    elim (slice_get nodes step.node) as (λ o. length (option_map_or (λ t. slice_set nodes step.node (applied t step.command)) o nodes) ≡ length nodes) [
      | Some t ↦ length-set nodes step.node (applied t step.command)
      | None ↦ refl
    ]

-- ---- steps

all_stepped : (steps : List Step) (nodes : List TableState) → All Names nodes → All Names (fold step_applied nodes steps)
all_stepped [] nodes all = all
all_stepped (step ∷ steps) nodes all = all_stepped steps (step_applied nodes step) (stepped nodes step all)

pub all_named : (nodes : ℕ) (steps : List Step) → All Names (fold step_applied (replicate nodes fresh) steps)
all_named nodes steps = all_stepped steps (replicate nodes fresh) (All-replicate Names nodes fresh names_none)

all_long : (steps : List Step) (nodes : List TableState) → length (fold step_applied nodes steps) ≡ length nodes
all_long [] nodes = refl
all_long (step ∷ steps) nodes = all_long steps (step_applied nodes step) ∙ long nodes step

pub as_many : (nodes : ℕ) (steps : List Step) → length (fold step_applied (replicate nodes fresh) steps) ≡ nodes
as_many nodes steps = all_long steps (replicate nodes fresh) ∙ length-replicate nodes fresh
