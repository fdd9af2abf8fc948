-- What commands make of one table, or why they are refused, by the first reason that holds.
use Rattle.std.specs.Prelude.{ℕ, Bool, true, ◌||◌, nat_le, List, [], ◌∷◌, ◌++◌, length, Option, Some, None, Result, Ok, Err, is_some, is_none, if◌then◌else◌}
use Rattle.std.specs.Map.{lookup, remove_entry}
use Rattle.std.specs.Str.{bytes_eq}
use Rattle.mls_label.specs.declared.label.Proto.{Proto}
use Rattle.mls_label.specs.declared.label.Proto.TheVariants as Of
use Rattle.mls_range.specs.Range.{LabelRange}
use Rattle.doi_table.specs.declared.plan.DoiPlan.{DoiPlan}
use Rattle.doi_table.specs.Table.{Entries, definition_of, with_definition, without_definition, add_fault}
use Rattle.domain_map.specs.declared.address_text.address.Address.{Address}
use Rattle.domain_map.specs.address_text.Address.{same_address}
use Rattle.domain_map.specs.address_text.Prefix.{AddressBlock}
use Rattle.domain_map.specs.declared.protocol.Protocol.{Protocol}
use Rattle.domain_map.specs.declared.protocol.Protocol.TheVariants.{Unlbl, Cipso, Calipso}
use Rattle.domain_map.specs.declared.fault.MapFault.{MapFault}
use Rattle.domain_map.specs.declared.fault.StaticFault.{StaticFault}
use Rattle.domain_map.specs.Domains.{Domain, Domains, same_domain, added, deleted, names_doi_of}
use Rattle.domain_map.specs.Statics.{Statics, static_added, static_deleted}
use Rattle.node_tables.specs.declared.receiver.Receiver.{Receiver}
use Rattle.node_tables.specs.declared.reply.Refusal.{Refusal}
use Rattle.node_tables.specs.declared.reply.Refusal.TheVariants.{DoiUnknown, DoiInUse, MapUnknown, StaticUnknown, ReceiverExists, ReceiverUnknown, RangeExists, RangeUnknown, PairExists, PairUnknown, TableFull}
use Rattle.node_tables.specs.Tables.{Receivers, Ranges, AddressPairs, six_of, four_of}
use Rattle.node_tables.specs.Refusal.{doi_refusal, map_refusal, static_refusal}

-- ---- definitions

-- 64 definitions of a protocol at most
abbrev pub definition_added : Entries → Proto → ℕ → DoiPlan → Result Entries Refusal
definition_added definitions proto doi plan = elim (add_fault definitions proto doi plan) [
  | Some fault ↦ Err (doi_refusal fault)
  | None ↦ Ok (with_definition definitions proto doi plan)
]

-- a DOI that an entry of the map names stays
abbrev pub definition_deleted : Entries → Domains → Proto → ℕ → Result Entries Refusal
definition_deleted definitions domains proto doi =
    if is_none (definition_of definitions proto doi) then Err DoiUnknown
    else if names_doi_of domains proto doi then Err DoiInUse
    else Ok (without_definition definitions proto doi)

-- ---- the map

-- the protocol has no DOI, or one that is defined
abbrev pub is_defined : Entries → Protocol → Bool
is_defined definitions Unlbl = true
is_defined definitions (Cipso doi) = is_some (definition_of definitions Of.Cipso doi)
is_defined definitions (Calipso doi) = is_some (definition_of definitions Of.Calipso doi)

-- the refusals of a map are those of the command
abbrev pub refused_map : Result Domains MapFault → Result Domains Refusal
refused_map (Ok domains) = Ok domains
refused_map (Err fault) = Err (map_refusal fault)

-- 256 entries, and 256 addresses of an entry, at most
abbrev pub entry_added : Entries → Domains → Domain → Option AddressBlock → Protocol → Result Domains Refusal
entry_added definitions domains domain block protocol =
    if is_defined definitions protocol then refused_map (added domains domain block protocol) else Err DoiUnknown

-- what is there, or this refusal
abbrev pub or_refused : {X : Type 0} → Option X → Refusal → Result X Refusal
or_refused (Some x) why = Ok x
or_refused None why = Err why

-- an entry is deleted from the map
abbrev pub entry_deleted : Domains → Domain → Option AddressBlock → Result Domains Refusal
entry_deleted domains domain block = or_refused (deleted domains domain block) MapUnknown

-- ---- labels of unlabelled packets

-- the refusals of static labels are those of the command
abbrev pub refused_static : Result Statics StaticFault → Result Statics Refusal
refused_static (Ok statics) = Ok statics
refused_static (Err fault) = Err (static_refusal fault)

-- 256 of them at most
abbrev pub label_added : Statics → Domain → AddressBlock → LabelRange → Result Statics Refusal
label_added statics interface block range = refused_static (static_added statics interface block range.low range.high)

-- a static label is deleted
abbrev pub label_deleted : Statics → Domain → AddressBlock → Result Statics Refusal
label_deleted statics interface block = or_refused (static_deleted statics interface block) StaticUnknown

-- ---- receivers and ranges

module _ {K V : Type 0} (same : K → K → Bool) where
  -- with one more entry behind the others, if its key is new and there is room
  abbrev pub with_entry : ℕ → Refusal → List (K × V) → K → V → Result (List (K × V)) Refusal
  with_entry most exists entries key value =
      if is_some (lookup (same key) entries) then Err exists
      else if nat_le most (length entries) then Err TableFull
      else Ok (entries ++ (key, value) ∷ [])

  -- without the entry of a key; the others keep their order
  abbrev pub without_entry : Refusal → List (K × V) → K → Result (List (K × V)) Refusal
  without_entry unknown entries key = if is_some (lookup (same key) entries) then Ok (remove_entry (same key) entries) else Err unknown

-- 256 receivers at most
abbrev pub receiver_added : Receivers → Address → Receiver → Result Receivers Refusal
receiver_added = with_entry same_address 256 ReceiverExists

-- a receiver is deleted
abbrev pub receiver_deleted : Receivers → Address → Result Receivers Refusal
receiver_deleted = without_entry same_address ReceiverUnknown

-- 64 ranges at most
abbrev pub range_added : Ranges → Domain → LabelRange → Result Ranges Refusal
range_added = with_entry same_domain 64 RangeExists

-- a range is deleted
abbrev pub range_deleted : Ranges → Domain → Result Ranges Refusal
range_deleted = without_entry same_domain RangeUnknown

-- ---- pairs

-- no address stands in two pairs, and there are 256 of them at most
abbrev pub pair_added : AddressPairs → List ℕ → List ℕ → Result AddressPairs Refusal
pair_added pairs four six =
    if is_some (six_of pairs four) || is_some (four_of pairs six) then Err PairExists
    else if nat_le 256 (length pairs) then Err TableFull
    else Ok (pairs ++ (four, six) ∷ [])

-- a pair of addresses is deleted
abbrev pub pair_deleted : AddressPairs → List ℕ → Result AddressPairs Refusal
pair_deleted = without_entry bytes_eq PairUnknown
