-- Commands that list lines change no table, and no other command lists any.
use Rattle.std.proofs.Common.{◌≡◌, ℕ, true, false, List, ◌∷◌, [], Option, Some, None, Result, Ok, Err, refl, sym}
use Rattle.std.proofs.lemmas.Bool.{false≢true}
use Rattle.mls_label.specs.declared.label.Proto.{Proto}
use Rattle.doi_table.specs.Table.{definition_of}
use Rattle.script_lines.specs.declared.command.Command.{Command}
use Rattle.script_lines.specs.declared.command.Command.TheVariants.{CipsoAddPass, CipsoAddTrans, CalipsoAddPass, CalipsoAddTrans, CipsoDel, CalipsoDel, CipsoList, CalipsoList, MapAdd, MapDel, MapList, AcceptOn, AcceptOff, UnlblAdd, UnlblDel, UnlblList, ReceiverAdd, ReceiverDel, RangeAdd, RangeDel, PairAdd, PairDel, MgmtVersion, MgmtProtocols}
use Rattle.mls_label.specs.declared.label.Proto.TheVariants as Of
use Rattle.node_tables.specs.declared.reply.Refusal.{Refusal}
use Rattle.node_tables.specs.declared.reply.Refusal.TheVariants.{DoiUnknown}
use Rattle.node_tables.specs.declared.reply.Reply.TheVariants.{Listed}
use Rattle.node_tables.specs.Tables.{TableState}
use Rattle.node_tables.specs.Change.{definition_added, definition_deleted, entry_added, entry_deleted, label_added, label_deleted, receiver_added, receiver_deleted, range_added, range_deleted, pair_added, pair_deleted}
use Rattle.node_tables.specs.Listing.{definition_line}
use Rattle.node_tables.specs.Effect.{Effect, lists, refuses, change_effect, listing_effect, pass_plan, trans_plan, receiver_of, effect_of, state_after, reply_to, applied, reply_of}
use Rattle.node_tables.specs.inside.Lists.{is_listing}

definitions_stay : (t : TableState) (proto : Proto) (doi : Option ℕ) → state_after t (listing_effect t proto doi) ≡ t
definitions_stay t proto None = refl
definitions_stay t proto (Some doi) =
    elim (definition_of t.definitions proto doi) as (λ o. state_after t (elim o as (λ _. Effect) [ Some plan ↦ lists (definition_line ((proto, doi), plan) ∷ []) | None ↦ refuses DoiUnknown ]) ≡ t) [
      | Some plan ↦ refl
      | None ↦ refl
    ]

pub stays : (t : TableState) (command : Command) → is_listing command ≡ true → applied t command ≡ t
unfolding effect_of
stays t (CipsoAddPass doi tags) is = absurd (false≢true is)
stays t (CipsoAddTrans doi tags levels cats) is = absurd (false≢true is)
stays t (CalipsoAddPass doi) is = absurd (false≢true is)
stays t (CalipsoAddTrans doi levels cats) is = absurd (false≢true is)
stays t (CipsoDel doi) is = absurd (false≢true is)
stays t (CalipsoDel doi) is = absurd (false≢true is)
stays t (CipsoList doi) is = definitions_stay t Of.Cipso doi
stays t (CalipsoList doi) is = definitions_stay t Of.Calipso doi
stays t (MapAdd domain prefix protocol) is = absurd (false≢true is)
stays t (MapDel domain prefix) is = absurd (false≢true is)
stays t MapList is = refl
stays t AcceptOn is = absurd (false≢true is)
stays t AcceptOff is = absurd (false≢true is)
stays t (UnlblAdd interface prefix range) is = absurd (false≢true is)
stays t (UnlblDel interface prefix) is = absurd (false≢true is)
stays t UnlblList is = refl
stays t (ReceiverAdd address domain range) is = absurd (false≢true is)
stays t (ReceiverDel address) is = absurd (false≢true is)
stays t (RangeAdd interface range) is = absurd (false≢true is)
stays t (RangeDel interface) is = absurd (false≢true is)
stays t (PairAdd four six) is = absurd (false≢true is)
stays t (PairDel four) is = absurd (false≢true is)
stays t MgmtVersion is = refl
stays t MgmtProtocols is = refl

change_lists_none : {X : Type 0} (made : Result X Refusal) (place : X → TableState) (lines : List (List ℕ)) → reply_to (change_effect made place) ≡ Listed lines → ⊥
change_lists_none (Ok x) place lines listed = absurd cc
change_lists_none (Err why) place lines listed = absurd cc

pub lists_none : (t : TableState) (command : Command) (lines : List (List ℕ)) → is_listing command ≡ false → reply_of t command ≡ Listed lines → ⊥
unfolding effect_of
lists_none t (CipsoAddPass doi tags) lines is listed = change_lists_none (definition_added t.definitions Of.Cipso doi (pass_plan tags)) (λ ds. record t { definitions = ds }) lines listed
lists_none t (CipsoAddTrans doi tags levels cats) lines is listed = change_lists_none (definition_added t.definitions Of.Cipso doi (trans_plan tags levels cats)) (λ ds. record t { definitions = ds }) lines listed
lists_none t (CalipsoAddPass doi) lines is listed = change_lists_none (definition_added t.definitions Of.Calipso doi (pass_plan [])) (λ ds. record t { definitions = ds }) lines listed
lists_none t (CalipsoAddTrans doi levels cats) lines is listed = change_lists_none (definition_added t.definitions Of.Calipso doi (trans_plan [] levels cats)) (λ ds. record t { definitions = ds }) lines listed
lists_none t (CipsoDel doi) lines is listed = change_lists_none (definition_deleted t.definitions t.domains Of.Cipso doi) (λ ds. record t { definitions = ds }) lines listed
lists_none t (CalipsoDel doi) lines is listed = change_lists_none (definition_deleted t.definitions t.domains Of.Calipso doi) (λ ds. record t { definitions = ds }) lines listed
lists_none t (CipsoList doi) lines is listed = false≢true (sym is)
lists_none t (CalipsoList doi) lines is listed = false≢true (sym is)
lists_none t (MapAdd domain prefix protocol) lines is listed = change_lists_none (entry_added t.definitions t.domains domain prefix protocol) (λ ds. record t { domains = ds }) lines listed
lists_none t (MapDel domain prefix) lines is listed = change_lists_none (entry_deleted t.domains domain prefix) (λ ds. record t { domains = ds }) lines listed
lists_none t MapList lines is listed = false≢true (sym is)
lists_none t AcceptOn lines is listed = absurd cc
lists_none t AcceptOff lines is listed = absurd cc
lists_none t (UnlblAdd interface prefix range) lines is listed = change_lists_none (label_added t.statics interface prefix range) (λ x. record t { statics = x }) lines listed
lists_none t (UnlblDel interface prefix) lines is listed = change_lists_none (label_deleted t.statics interface prefix) (λ x. record t { statics = x }) lines listed
lists_none t UnlblList lines is listed = false≢true (sym is)
lists_none t (ReceiverAdd address domain range) lines is listed = change_lists_none (receiver_added t.receivers address (receiver_of domain range)) (λ x. record t { receivers = x }) lines listed
lists_none t (ReceiverDel address) lines is listed = change_lists_none (receiver_deleted t.receivers address) (λ x. record t { receivers = x }) lines listed
lists_none t (RangeAdd interface range) lines is listed = change_lists_none (range_added t.ranges interface range) (λ x. record t { ranges = x }) lines listed
lists_none t (RangeDel interface) lines is listed = change_lists_none (range_deleted t.ranges interface) (λ x. record t { ranges = x }) lines listed
lists_none t (PairAdd four six) lines is listed = change_lists_none (pair_added t.pairs four six) (λ x. record t { pairs = x }) lines listed
lists_none t (PairDel four) lines is listed = change_lists_none (pair_deleted t.pairs four) (λ x. record t { pairs = x }) lines listed
lists_none t MgmtVersion lines is listed = false≢true (sym is)
lists_none t MgmtProtocols lines is listed = false≢true (sym is)
