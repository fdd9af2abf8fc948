-- What a command does at a node: it changes the tables, lists lines, or is refused.
use Rattle.std.specs.Prelude.{ℕ, true, false, List, [], ◌∷◌, Option, Some, None, Result, Ok, Err, unwrap_or}
use Rattle.mls_label.specs.declared.label.Proto.{Proto}
use Rattle.mls_label.specs.declared.label.Proto.TheVariants as Of
use Rattle.mls_label.specs.declared.label.Tag.{Tag}
use Rattle.mls_range.specs.Range.{LabelRange}
use Rattle.doi_table.specs.declared.plan.DoiPlan.{DoiPlan}
use Rattle.doi_table.specs.Table.{definition_of}
use Rattle.script_lines.specs.declared.command.Command.{Command}
use Rattle.script_lines.specs.declared.command.Command.TheVariants.{CipsoAddPass, CipsoAddTrans, CalipsoAddPass, CalipsoAddTrans, CipsoDel, CalipsoDel, CipsoList, CalipsoList, MapAdd, MapDel, MapList, AcceptOn, AcceptOff, UnlblAdd, UnlblDel, UnlblList, ReceiverAdd, ReceiverDel, RangeAdd, RangeDel, PairAdd, PairDel, MgmtVersion, MgmtProtocols}
use Rattle.node_tables.specs.declared.receiver.Receiver.{Receiver}
use Rattle.node_tables.specs.declared.reply.Refusal.{Refusal}
use Rattle.node_tables.specs.declared.reply.Refusal.TheVariants.{DoiUnknown}
use Rattle.node_tables.specs.declared.reply.Reply.{Reply}
use Rattle.node_tables.specs.declared.reply.Reply.TheVariants.{Done, Listed, Refused}
use Rattle.node_tables.specs.Tables.{TableState}
use Rattle.node_tables.specs.Listing.{definition_line, definition_lines, domain_lines, static_lines, version_lines, protocol_lines}
use Rattle.node_tables.specs.Change.{definition_added, definition_deleted, entry_added, entry_deleted, label_added, label_deleted, receiver_added, receiver_deleted, range_added, range_deleted, pair_added, pair_deleted}

-- what a command does: tables that it leaves, lines that it lists, or why it is refused
pub data Effect : Type 0 where
  becomes : TableState → Effect
  lists : List (List ℕ) → Effect
  refuses : Refusal → Effect

-- one table is changed, or the command refused
abbrev pub change_effect : {X : Type 0} → Result X Refusal → (X → TableState) → Effect
change_effect (Ok table) place = becomes (place table)
change_effect (Err why) place = refuses why

-- the numbers on the wire are the node's own
abbrev pub pass_plan : List Tag → DoiPlan
pass_plan tags = record { trans = false; tags = tags; levels = []; cats = [] }

-- a definition that translates by pairs; without category pairs there are none
abbrev pub trans_plan : List Tag → List (ℕ × ℕ) → Option (List (ℕ × ℕ)) → DoiPlan
trans_plan tags levels cats = record { trans = true; tags = tags; levels = levels; cats = unwrap_or cats [] }

-- a definition is added
abbrev pub definition_effect : TableState → Proto → ℕ → DoiPlan → Effect
definition_effect t proto doi plan = change_effect (definition_added t.definitions proto doi plan) (λ definitions. record t { definitions = definitions })

-- a definition is deleted
abbrev pub deletion_effect : TableState → Proto → ℕ → Effect
deletion_effect t proto doi = change_effect (definition_deleted t.definitions t.domains proto doi) (λ definitions. record t { definitions = definitions })

-- all definitions of a protocol, or the one that is named
abbrev pub listing_effect : TableState → Proto → Option ℕ → Effect
listing_effect t proto None = lists (definition_lines t.definitions proto)
listing_effect t proto (Some doi) = elim (definition_of t.definitions proto doi) [
  | Some plan ↦ lists (definition_line ((proto, doi), plan) ∷ [])
  | None ↦ refuses DoiUnknown
]

-- a receiver of a domain, with the ends of its range
abbrev pub receiver_of : List ℕ → LabelRange → Receiver
receiver_of domain range = record { domain = domain; low = range.low; level = range.high }

-- A CALIPSO definition has no tags.
unfoldable pub effect_of : TableState → Command → Effect
effect_of t (CipsoAddPass doi tags) = definition_effect t Of.Cipso doi (pass_plan tags)
effect_of t (CipsoAddTrans doi tags levels cats) = definition_effect t Of.Cipso doi (trans_plan tags levels cats)
effect_of t (CalipsoAddPass doi) = definition_effect t Of.Calipso doi (pass_plan [])
effect_of t (CalipsoAddTrans doi levels cats) = definition_effect t Of.Calipso doi (trans_plan [] levels cats)
effect_of t (CipsoDel doi) = deletion_effect t Of.Cipso doi
effect_of t (CalipsoDel doi) = deletion_effect t Of.Calipso doi
effect_of t (CipsoList doi) = listing_effect t Of.Cipso doi
effect_of t (CalipsoList doi) = listing_effect t Of.Calipso doi
effect_of t (MapAdd domain prefix protocol) = change_effect (entry_added t.definitions t.domains domain prefix protocol) (λ domains. record t { domains = domains })
effect_of t (MapDel domain prefix) = change_effect (entry_deleted t.domains domain prefix) (λ domains. record t { domains = domains })
effect_of t MapList = lists (domain_lines t.domains)
effect_of t AcceptOn = becomes (record t { accepts = true })
effect_of t AcceptOff = becomes (record t { accepts = false })
effect_of t (UnlblAdd interface prefix range) = change_effect (label_added t.statics interface prefix range) (λ statics. record t { statics = statics })
effect_of t (UnlblDel interface prefix) = change_effect (label_deleted t.statics interface prefix) (λ statics. record t { statics = statics })
effect_of t UnlblList = lists (static_lines t.accepts t.statics)
effect_of t (ReceiverAdd address domain range) = change_effect (receiver_added t.receivers address (receiver_of domain range)) (λ receivers. record t { receivers = receivers })
effect_of t (ReceiverDel address) = change_effect (receiver_deleted t.receivers address) (λ receivers. record t { receivers = receivers })
effect_of t (RangeAdd interface range) = change_effect (range_added t.ranges interface range) (λ ranges. record t { ranges = ranges })
effect_of t (RangeDel interface) = change_effect (range_deleted t.ranges interface) (λ ranges. record t { ranges = ranges })
effect_of t (PairAdd four six) = change_effect (pair_added t.pairs four six) (λ pairs. record t { pairs = pairs })
effect_of t (PairDel four) = change_effect (pair_deleted t.pairs four) (λ pairs. record t { pairs = pairs })
effect_of t MgmtVersion = lists version_lines
effect_of t MgmtProtocols = lists protocol_lines

-- the tables after an effect: a listing and a refusal change none
abbrev pub state_after : TableState → Effect → TableState
state_after t (becomes new) = new
state_after t effect = t

-- the reply that tells what a command did
abbrev pub reply_to : Effect → Reply
reply_to (becomes new) = Done
reply_to (lists lines) = Listed lines
reply_to (refuses why) = Refused why

-- the tables after a command, and its reply
abbrev pub applied : TableState → Command → TableState
applied t command = state_after t (effect_of t command)

-- the reply to a command under these tables
abbrev pub reply_of : TableState → Command → Reply
reply_of t command = reply_to (effect_of t command)
