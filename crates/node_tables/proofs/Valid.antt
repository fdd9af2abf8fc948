-- Commands whose numbers and labels are within their bounds keep tables valid.
use Rattle.std.proofs.Common.{◌≡◌, ℕ, suc, ◌+◌, ◌<◌, ◌≤◌, Bool, true, false, ◌||◌, ◌&&◌, cond, List, [], ◌∷◌, ◌++◌, length, take, drop, Option, Some, None, Result, Ok, Err, slice_get, refl, sym, ap, subst, ◌∙◌, arith}
use Rattle.std.specs.Prelude.{is_some, not, nat_lt, nat_le, if◌then◌else◌, fold, replicate, slice_set, All, IfSome, option_map, option_and_then, remove, unwrap_or, count_by}
use Rattle.std.specs.List.{IsDistinct, list_any}
use Rattle.std.specs.Map.{keys_of, values_of, lookup, remove_entry}
use Rattle.std.specs.Option.{option_map_or}
use Rattle.std.specs.Str.{bytes_eq}
use Rattle.std.specs.Cmp.Lexicographic.{options_equiv}
use Rattle.std.proofs.lemmas.Bool.{and_parts, leb-true, leb-false, ltb-true, ltb-false, false≢true}
use Rattle.std.proofs.lemmas.Cmp.{nat_eq_equiv, nat_list_eq_equiv}
use Rattle.std.proofs.lemmas.List.{length-append, map-append}
use Rattle.std.proofs.lemmas.List.Elements.{All-from_recursion, recursion_from_All, All-nil, All-head, All-tail, All-push, All-append, All-take, All-drop, All-set, All-replicate, All-weaker}
use Rattle.std.proofs.lemmas.Map.Entries.{length-keys_of}
use Rattle.std.proofs.lemmas.Map.Made.{is_some-lookup}
use Rattle.indexmap.specs.IndexMap.{insert_entry}
use Rattle.mls_label.specs.declared.label.Proto.{Proto}
use Rattle.mls_label.specs.declared.label.Proto.TheVariants as Of
use Rattle.mls_label.specs.declared.label.Tag.{Tag}
use Rattle.mls_range.specs.Range.{LabelRange}
use Rattle.doi_table.specs.declared.plan.DoiPlan.{DoiPlan}
use Rattle.doi_table.specs.declared.fault.DoiFault.{DoiFault}
use Rattle.doi_table.specs.declared.fault.DoiFault.TheVariants.{Exists, TooManyPairs, NotOneToOne, Full}
use Rattle.doi_table.specs.Definition.{AreBelow, IsPlan, is_plan_one_to_one}
use Rattle.doi_table.specs.Table.{Entries, same_proto, same_doi, definition_of, with_definition, count_of, add_fault}
use Rattle.domain_map.specs.address_text.Address.{same_address}
use Rattle.domain_map.specs.address_text.Prefix.{AddressBlock, same_block}
use Rattle.domain_map.specs.declared.protocol.Protocol.{Protocol}
use Rattle.domain_map.specs.declared.rule.Rule.{Rule}
use Rattle.domain_map.specs.declared.rule.Rule.TheVariants.{Addresses}
use Rattle.domain_map.specs.declared.fault.MapFault.{MapFault}
use Rattle.domain_map.specs.declared.fault.MapFault.TheVariants as Map
use Rattle.domain_map.specs.declared.fault.StaticFault.TheVariants as Static
use Rattle.domain_map.specs.declared.static_map.StaticEntry.{StaticEntry}
use Rattle.domain_map.specs.Addresses.{map_ok}
use Rattle.domain_map.specs.Domains.{Domain, Domains, same_domain, rule_of, first_rule, fuller, added, with_addresses, fewer, deleted, names_doi_of}
use Rattle.domain_map.specs.Statics.{Statics, static_place, static_added, static_deleted}
use Rattle.script_lines.specs.command_values.Doi.{is_doi}
use Rattle.script_lines.specs.command_values.Pairs.{IsPairWithin}
use Rattle.script_lines.specs.command_values.Ranges.{IsMlsRange}
use Rattle.script_lines.specs.declared.command.Command.{Command}
use Rattle.script_lines.specs.declared.command.Command.TheVariants.{CipsoAddPass, CipsoAddTrans, CalipsoAddPass, CalipsoAddTrans, CipsoDel, CalipsoDel, CipsoList, CalipsoList, MapAdd, MapDel, MapList, AcceptOn, AcceptOff, UnlblAdd, UnlblDel, UnlblList, ReceiverAdd, ReceiverDel, RangeAdd, RangeDel, PairAdd, PairDel, MgmtVersion, MgmtProtocols}
use Rattle.script_lines.specs.declared.command.Step.{Step}
use Rattle.script_lines.specs.Bounded.{ArePairsBounded, IsBounded}
use Rattle.node_tables.specs.declared.reply.Refusal.{Refusal}
use Rattle.node_tables.specs.declared.reply.Refusal.TheVariants.{DoiUnknown, MapUnknown, StaticUnknown, ReceiverExists, ReceiverUnknown, RangeExists, RangeUnknown, PairExists, PairUnknown, TableFull}
use Rattle.node_tables.specs.Refusal.{doi_refusal}
use Rattle.node_tables.specs.Tables.{Receivers, Ranges, AddressPairs, TableState, fresh, six_of, four_of, swapped}
use Rattle.node_tables.specs.Listing.{definition_line}
use Rattle.node_tables.specs.Coherence.{NamesDefined}
use Rattle.node_tables.specs.Change.{definition_added, definition_deleted, entry_added, entry_deleted, or_refused, refused_static, label_added, label_deleted, with_entry, without_entry, receiver_added, receiver_deleted, range_added, range_deleted, pair_added, pair_deleted}
use Rattle.node_tables.specs.Effect.{Effect, lists, refuses, change_effect, pass_plan, trans_plan, listing_effect, receiver_of, effect_of, state_after, applied}
use Rattle.node_tables.specs.Steps.{step_applied}
use Rattle.node_tables.specs.Valid.{IsDefined, IsBoundedStatic, IsBoundedReceiver, IsBoundedRange, IsTable, AreDefinedOnce, same_static, AreSetOnce, ArePairedOnce, AreValid}
use Rattle.node_tables.proofs.Addresses.{same_address_flips}
use Rattle.node_tables.proofs.Names.{map_ok_inverse, option_map_inverse}
use Rattle.node_tables.proofs.Defined.{definition_added_is, definition_deleted_is, same_proto_is, same_doi_is, entry_added_is, or_refused_is, all_without, all_found, defined_added, defined_deleted, defined_entry, defined_left}
use Rattle.node_tables.proofs.Once.{neither, once_pushed, once_removed, fewer_removed, none_placed, once_without, keys_stay, count_pushed, count_without, table_none, table_pushed, table_without}
use Rattle.node_tables.proofs.Stepping.{all_of_place}

-- ---- definitions

record Passed (definitions : Entries) (proto : Proto) (doi : ℕ) (plan : DoiPlan) : Type 0 where
  absent : is_some (definition_of definitions proto doi) ≡ false
  few : length plan.cats ≤ 1952
  one_to_one : is_plan_one_to_one plan ≡ true
  room : count_of definitions proto < 64

passed : (definitions : Entries) (proto : Proto) (doi : ℕ) (plan : DoiPlan) → add_fault definitions proto doi plan ≡ None → Passed definitions proto doi plan
passed definitions proto doi plan e = by_tests (is_some (definition_of definitions proto doi)) (nat_lt 1952 (length plan.cats)) (is_plan_one_to_one plan) (nat_le 64 (count_of definitions proto)) refl refl refl refl e
  where
    by_tests : (a b c d : Bool) → is_some (definition_of definitions proto doi) ≡ a → nat_lt 1952 (length plan.cats) ≡ b → is_plan_one_to_one plan ≡ c → nat_le 64 (count_of definitions proto) ≡ d
        → (if a then Some Exists else (if b then Some TooManyPairs else (if not c then Some NotOneToOne else (if d then Some Full else None)))) ≡ None → Passed definitions proto doi plan
    by_tests true b c d absent few once room h = absurd (cc)
    by_tests false true c d absent few once room h = absurd (cc)
    by_tests false false false d absent few once room h = absurd (cc)
    by_tests false false true true absent few once room h = absurd (cc)
    by_tests false false true false absent few once room h =
        record { absent = absent; few = ltb-false 1952 (length plan.cats) few; one_to_one = once; room = leb-false 64 (count_of definitions proto) room }

-- the numbers of a definition that is added
record IsOffered (doi : ℕ) (plan : DoiPlan) : Type 0 where
  doi_is : is_doi doi ≡ true
  plan_is : IsPlan plan
  levels_are : AreBelow 256 plan.levels

accepted : (definitions new : Entries) (proto : Proto) (doi : ℕ) (plan : DoiPlan) → definition_added definitions proto doi plan ≡ Ok new → add_fault definitions proto doi plan ≡ None
accepted definitions new proto doi plan made = by_fault (add_fault definitions proto doi plan) refl made
  where
    by_fault : (o : Option DoiFault) → add_fault definitions proto doi plan ≡ o → (elim o as (λ _. Result Entries Refusal) [ Some fault ↦ Err (doi_refusal fault) | None ↦ Ok (with_definition definitions proto doi plan) ]) ≡ Ok new → add_fault definitions proto doi plan ≡ None
    by_fault (Some fault) f h = absurd (cc)
    by_fault None f h = f

entry_defined : (definitions new : Entries) (proto : Proto) (doi : ℕ) (plan : DoiPlan) → IsOffered doi plan → definition_added definitions proto doi plan ≡ Ok new → IsDefined ((proto, doi), plan)
entry_defined definitions new proto doi plan offered made =
    let bounds = and_parts (nat_le 1 doi) (nat_le doi 4294967295) offered.doi_is in
    let p = passed definitions proto doi plan (accepted definitions new proto doi plan made) in (
      omega (arith, leb-true 1 doi bounds.0),
      omega (arith, leb-true doi 4294967295 bounds.1),
      record { is_plan = offered.plan_is; levels = offered.levels_are; few = p.few; one_to_one = p.one_to_one },
    )

added_valid : (definitions new : Entries) (proto : Proto) (doi : ℕ) (plan : DoiPlan) → IsOffered doi plan → definition_added definitions proto doi plan ≡ Ok new → All IsDefined definitions → All IsDefined new
added_valid definitions new proto doi plan offered made valid =
    subst (All IsDefined) (sym (definition_added_is definitions new proto doi plan made)) (All-push IsDefined definitions ((proto, doi), plan) valid (entry_defined definitions new proto doi plan offered made))

same_proto_flips : (a b : Proto) → same_proto a b ≡ same_proto b a
same_proto_flips Of.Cipso Of.Cipso = refl
same_proto_flips Of.Cipso Of.Calipso = refl
same_proto_flips Of.Calipso Of.Cipso = refl
same_proto_flips Of.Calipso Of.Calipso = refl

same_doi_flips : (a b : Proto × ℕ) → same_doi a b ≡ same_doi b a
same_doi_flips a b = λ i. same_proto_flips a.0 b.0 i && nat_eq_equiv.symm a.1 b.1 i

added_once : (definitions new : Entries) (proto : Proto) (doi : ℕ) (plan : DoiPlan) → definition_added definitions proto doi plan ≡ Ok new → AreDefinedOnce definitions → AreDefinedOnce new
added_once definitions new proto doi plan made is = subst AreDefinedOnce (sym (definition_added_is definitions new proto doi plan made)) (record { once = all_apart; few = λ kind. by_kind kind (same_proto proto kind) refl })
  where
    p : Passed definitions proto doi plan
    p = passed definitions proto doi plan (accepted definitions new proto doi plan made)

    keys : keys_of (with_definition definitions proto doi plan) ≡ keys_of definitions ++ (proto, doi) ∷ []
    keys = map-append (λ (e : (Proto × ℕ) × DoiPlan). e.0) definitions (((proto, doi), plan) ∷ [])

    all_apart : IsDistinct same_doi (keys_of (with_definition definitions proto doi plan))
    all_apart = subst (IsDistinct same_doi) (sym keys) (once_pushed same_doi same_doi_flips (keys_of definitions) (proto, doi) (sym (is_some-lookup (same_doi (proto, doi)) definitions) ∙ p.absent) is.once)

    by_kind : (kind : Proto) (b : Bool) → same_proto proto kind ≡ b → count_of (with_definition definitions proto doi plan) kind ≤ 64
    by_kind kind true same =
        let test = λ (name : Proto × ℕ). same_proto name.0 kind in
        let grown : count_of (with_definition definitions proto doi plan) kind ≡ count_of definitions kind + cond (same_proto proto kind) 1 0 = ap (count_by test) keys ∙ count_pushed test (keys_of definitions) (proto, doi) in
        let one : cond {A = ℕ} (same_proto proto kind) 1 0 ≡ 1 = ap (λ b. cond {A = ℕ} b 1 0) same in
        let room : count_of definitions kind < 64 = subst (λ k. count_of definitions k < 64) (same_proto_is proto kind same) p.room in
        omega (arith, grown, one, room)
    by_kind kind false other =
        let test = λ (name : Proto × ℕ). same_proto name.0 kind in
        let grown : count_of (with_definition definitions proto doi plan) kind ≡ count_of definitions kind + cond (same_proto proto kind) 1 0 = ap (count_by test) keys ∙ count_pushed test (keys_of definitions) (proto, doi) in
        let none : cond {A = ℕ} (same_proto proto kind) 1 0 ≡ 0 = ap (λ b. cond {A = ℕ} b 1 0) other in
        let few = is.few kind in
        omega (arith, grown, none, few)

deleted_valid : (definitions new : Entries) (domains : _) (proto : Proto) (doi : ℕ) → definition_deleted definitions domains proto doi ≡ Ok new → All IsDefined definitions → All IsDefined new
deleted_valid definitions new domains proto doi made valid =
    subst (All IsDefined) (sym (definition_deleted_is definitions new domains proto doi made).1)
    (All-from_recursion IsDefined _ (all_without IsDefined (same_doi (proto, doi)) definitions (recursion_from_All IsDefined definitions valid)))

deleted_once : (definitions new : Entries) (domains : _) (proto : Proto) (doi : ℕ) → definition_deleted definitions domains proto doi ≡ Ok new → AreDefinedOnce definitions → AreDefinedOnce new
deleted_once definitions new domains proto doi made is =
    subst AreDefinedOnce (sym (definition_deleted_is definitions new domains proto doi made).1) (record {
      once = once_without (λ (e : (Proto × ℕ) × DoiPlan). e.0) same_doi (same_doi (proto, doi)) definitions is.once;
      few = λ kind. let less = count_without (λ (name : Proto × ℕ). same_proto name.0 kind) (same_doi (proto, doi)) definitions in let few = is.few kind in omega (arith, few, less);
    })

-- what is found is one of them
pub found_valid : (definitions : Entries) (proto : Proto) (doi : ℕ) (plan : DoiPlan) → All IsDefined definitions → definition_of definitions proto doi ≡ Some plan → IsDefined ((proto, doi), plan)
found_valid definitions proto doi plan valid found =
    let entry = all_found IsDefined (same_doi (proto, doi)) definitions plan (recursion_from_All IsDefined definitions valid) found in
    subst (λ (name : Proto × ℕ). IsDefined (name, plan)) (sym (same_doi_is (proto, doi) entry.0 entry.1)) entry.2

offered_pass : (doi : ℕ) (tags : List Tag) → is_doi doi ≡ true → IsOffered doi (pass_plan tags)
offered_pass doi tags is = record {
  doi_is = is;
  plan_is = record { cats = All-nil (λ (p : ℕ × ℕ). (p.0 < 65535) × (p.1 < 65535)); pass_levels = λ h. refl; pass_cats = λ h. refl };
  levels_are = All-nil (λ (p : ℕ × ℕ). (p.0 < 256) × (p.1 < 256));
}

pairs_below : (most : ℕ) (pairs : List (ℕ × ℕ)) → All (IsPairWithin most most) pairs → AreBelow (suc most) pairs
pairs_below most pairs all = All-weaker (IsPairWithin most most) (λ (p : ℕ × ℕ). (p.0 < suc most) × (p.1 < suc most)) (λ p is. (omega (arith, is.0), omega (arith, is.1))) pairs all

categories_below : (categories : Option (List (ℕ × ℕ))) → IfSome categories (All (IsPairWithin 65534 65534)) → AreBelow 65535 (unwrap_or categories [])
categories_below None all = All-nil (λ (p : ℕ × ℕ). (p.0 < 65535) × (p.1 < 65535))
categories_below (Some pairs) all = pairs_below 65534 pairs all

offered_trans : (doi : ℕ) (tags : List Tag) (levels : List (ℕ × ℕ)) (categories : Option (List (ℕ × ℕ))) → is_doi doi ≡ true → ArePairsBounded levels categories → IsOffered doi (trans_plan tags levels categories)
offered_trans doi tags levels categories is bounded = record {
  doi_is = is;
  plan_is = record { cats = categories_below categories bounded.1; pass_levels = λ h. absurd (false≢true (sym h)); pass_cats = λ h. absurd (false≢true (sym h)) };
  levels_are = pairs_below 255 levels bounded.0;
}

-- ---- the map

domain_flips : (a b : Domain) → same_domain a b ≡ same_domain b a
domain_flips = (options_equiv nat_list_eq_equiv).symm

entry_kept : (domains : Domains) (domain : Domain) (was is : Rule) → rule_of domains domain ≡ Some was → IsTable same_domain 256 domains → IsTable same_domain 256 (insert_entry same_domain domains domain is)
entry_kept domains domain was is found table =
    let keys = keys_stay same_domain domains domain was is found in
    let long : length (insert_entry same_domain domains domain is) ≡ length domains = sym (length-keys_of (insert_entry same_domain domains domain is)) ∙ ap length keys ∙ length-keys_of domains in
    record { once = subst (IsDistinct same_domain) (sym keys) table.once; few = subst (λ n. n ≤ 256) (sym long) table.few }

entry_added_once : (definitions : Entries) (domains new : Domains) (domain : Domain) (block : Option AddressBlock) (protocol : Protocol) → entry_added definitions domains domain block protocol ≡ Ok new → IsTable same_domain 256 domains → IsTable same_domain 256 new
unfolding added
entry_added_once definitions domains new domain block protocol made is = by_rule (rule_of domains domain) refl (entry_added_is definitions domains new domain block protocol made).1
  where
    by_room : is_some (rule_of domains domain) ≡ false → (b : Bool) → nat_lt (length domains) 256 ≡ b → ◌≡◌ {A = Result Domains MapFault} (if b then Ok (domains ++ (domain, first_rule block protocol) ∷ []) else Err Map.Full) (Ok new) → IsTable same_domain 256 new
    by_room absent false room h = absurd (cc)
    by_room absent true room h =
        let same : domains ++ (domain, first_rule block protocol) ∷ [] ≡ new = cc in
        subst (IsTable same_domain 256) same (table_pushed same_domain 256 domain_flips domains domain (first_rule block protocol) absent (ltb-true (length domains) 256 room) is)

    by_rule : (o : Option Rule) → rule_of domains domain ≡ o → (elim o as (λ _. Result Domains MapFault) [
      | None ↦ if nat_lt (length domains) 256 then Ok (domains ++ (domain, first_rule block protocol) ∷ []) else Err Map.Full
      | Some rule ↦ map_ok (insert_entry same_domain domains domain) (fuller rule block protocol)
    ]) ≡ Ok new → IsTable same_domain 256 new
    by_rule None found h = by_room (ap is_some found) (nat_lt (length domains) 256) refl h
    by_rule (Some rule) found h =
        let made = map_ok_inverse (insert_entry same_domain domains domain) (fuller rule block protocol) new h in
        subst (IsTable same_domain 256) made.2 (entry_kept domains domain rule made.0 found is)

addresses_kept : (domains : Domains) (domain : Domain) (was : Rule) (left : List (AddressBlock × Protocol)) → rule_of domains domain ≡ Some was → IsTable same_domain 256 domains → IsTable same_domain 256 (with_addresses domains domain left)
addresses_kept domains domain was [] found is = table_without same_domain 256 (same_domain domain) domains is
addresses_kept domains domain was (first ∷ others) found is = entry_kept domains domain was (Addresses (first ∷ others)) found is

entry_deleted_once : (domains new : Domains) (domain : Domain) (block : Option AddressBlock) → entry_deleted domains domain block ≡ Ok new → IsTable same_domain 256 domains → IsTable same_domain 256 new
unfolding deleted
entry_deleted_once domains new domain None made is =
    let left = option_map_inverse (λ (rule : Rule). remove_entry (same_domain domain) domains) (rule_of domains domain) new (or_refused_is (deleted domains domain None) MapUnknown new made) in
    subst (IsTable same_domain 256) left.2 (table_without same_domain 256 (same_domain domain) domains is)
entry_deleted_once domains new domain (Some block) made is =
    let left = option_map_inverse (with_addresses domains domain) (option_and_then (λ rule. fewer rule block) (rule_of domains domain)) new (or_refused_is (deleted domains domain (Some block)) MapUnknown new made) in
    subst (IsTable same_domain 256) left.2 (by_rule left.0 (rule_of domains domain) refl left.1)
  where
    by_rule : (left : List (AddressBlock × Protocol)) (o : Option Rule) → rule_of domains domain ≡ o → option_and_then (λ rule. fewer rule block) o ≡ Some left → IsTable same_domain 256 (with_addresses domains domain left)
    by_rule left None found h = absurd (cc)
    by_rule left (Some rule) found h = addresses_kept domains domain rule left found is

-- ---- labels of unlabelled packets

entry_of : Domain → AddressBlock → LabelRange → StaticEntry
entry_of interface block range = record { interface = interface; prefix = block; low = range.low; high = range.high }

record IsLabelAdded (statics new : Statics) (interface : Domain) (block : AddressBlock) (range : LabelRange) : Type 0 where
  absent : is_some (static_place statics interface block) ≡ false
  room : length statics < 256
  made : statics ++ entry_of interface block range ∷ [] ≡ new

label_added_is : (statics new : Statics) (interface : Domain) (block : AddressBlock) (range : LabelRange) → label_added statics interface block range ≡ Ok new → IsLabelAdded statics new interface block range
unfolding static_added entry_of
label_added_is statics new interface block range made = by_tests (is_some (static_place statics interface block)) (nat_lt (length statics) 256) refl refl made
  where
    by_tests : (a b : Bool) → is_some (static_place statics interface block) ≡ a → nat_lt (length statics) 256 ≡ b
        → refused_static (if a then Err Static.Exists else (if b then Ok (statics ++ entry_of interface block range ∷ []) else Err Static.Full)) ≡ Ok new → IsLabelAdded statics new interface block range
    by_tests true b absent room h = absurd (cc)
    by_tests false false absent room h = absurd (cc)
    by_tests false true absent room h = record { absent = absent; room = ltb-true (length statics) 256 room; made = cc }

static_flips : (a b : StaticEntry) → same_static a b ≡ same_static b a
static_flips a b = λ i. domain_flips a.interface b.interface i && (same_address_flips a.prefix.address b.prefix.address i && nat_eq_equiv.symm a.prefix.bits b.prefix.bits i)

label_added_valid : (statics new : Statics) (interface : Domain) (block : AddressBlock) (range : LabelRange) → IsMlsRange range → label_added statics interface block range ≡ Ok new → All IsBoundedStatic statics → All IsBoundedStatic new
unfolding entry_of
label_added_valid statics new interface block range bounded made valid =
    subst (All IsBoundedStatic) (label_added_is statics new interface block range made).made
    (All-push IsBoundedStatic statics (entry_of interface block range) valid (record { low = bounded.low; high = bounded.high; ordered = bounded.ordered }))

label_added_once : (statics new : Statics) (interface : Domain) (block : AddressBlock) (range : LabelRange) → label_added statics interface block range ≡ Ok new → AreSetOnce statics → AreSetOnce new
unfolding entry_of
label_added_once statics new interface block range made is =
    let entry = entry_of interface block range in
    let e = label_added_is statics new interface block range made in
    let long = length-append statics (entry ∷ []) in
    let room = e.room in
    subst AreSetOnce e.made (record {
      once = once_pushed same_static static_flips statics entry (none_placed (λ (other : StaticEntry). same_domain interface other.interface && same_block block other.prefix) statics e.absent) is.once;
      few = omega (arith, long, room);
    })

label_deleted_is : (statics new : Statics) (interface : Domain) (block : AddressBlock) → label_deleted statics interface block ≡ Ok new → (i : ℕ) × (remove statics i ≡ new)
unfolding static_deleted
label_deleted_is statics new interface block made = by_place (static_place statics interface block) made
  where
    by_place : (o : Option ℕ) → or_refused (option_map (remove statics) o) StaticUnknown ≡ Ok new → (i : ℕ) × (remove statics i ≡ new)
    by_place None h = absurd (cc)
    by_place (Some i) h = (i, cc)

label_deleted_valid : (statics new : Statics) (interface : Domain) (block : AddressBlock) → label_deleted statics interface block ≡ Ok new → All IsBoundedStatic statics → All IsBoundedStatic new
label_deleted_valid statics new interface block made valid =
    let e = label_deleted_is statics new interface block made in
    subst (All IsBoundedStatic) e.1 (All-append IsBoundedStatic (take e.0 statics) (drop (suc e.0) statics) (All-take IsBoundedStatic e.0 statics valid) (All-drop IsBoundedStatic (suc e.0) statics valid))

label_deleted_once : (statics new : Statics) (interface : Domain) (block : AddressBlock) → label_deleted statics interface block ≡ Ok new → AreSetOnce statics → AreSetOnce new
label_deleted_once statics new interface block made is =
    let e = label_deleted_is statics new interface block made in
    let less = fewer_removed statics e.0 in
    let few = is.few in
    subst AreSetOnce e.1 (record { once = once_removed same_static statics e.0 is.once; few = omega (arith, less, few) })

-- ---- receivers and ranges

module _ {K V : Type 0} (same : K → K → Bool) where
  record IsEntryAdded (most : ℕ) (entries new : List (K × V)) (key : K) (value : V) : Type 0 where
    absent : is_some (lookup (same key) entries) ≡ false
    room : length entries < most
    made : entries ++ (key, value) ∷ [] ≡ new

  with_entry_is : (most : ℕ) (exists : Refusal) (entries new : List (K × V)) (key : K) (value : V) → with_entry same most exists entries key value ≡ Ok new → IsEntryAdded most entries new key value
  with_entry_is most exists entries new key value made = by_tests (is_some (lookup (same key) entries)) (nat_le most (length entries)) refl refl made
    where
      by_tests : (a b : Bool) → is_some (lookup (same key) entries) ≡ a → nat_le most (length entries) ≡ b
          → ◌≡◌ {A = Result (List (K × V)) Refusal} (if a then Err exists else (if b then Err TableFull else Ok (entries ++ (key, value) ∷ []))) (Ok new) → IsEntryAdded most entries new key value
      by_tests true b absent room h = absurd (cc)
      by_tests false true absent room h = absurd (cc)
      by_tests false false absent room h = record { absent = absent; room = leb-false most (length entries) room; made = cc }

  without_entry_is : (unknown : Refusal) (entries new : List (K × V)) (key : K) → without_entry same unknown entries key ≡ Ok new → remove_entry (same key) entries ≡ new
  without_entry_is unknown entries new key made = by_test (is_some (lookup (same key) entries)) made
    where
      by_test : (a : Bool) → ◌≡◌ {A = Result (List (K × V)) Refusal} (if a then Ok (remove_entry (same key) entries) else Err unknown) (Ok new) → remove_entry (same key) entries ≡ new
      by_test false h = absurd (cc)
      by_test true h = cc

  with_entry_once : ((a b : K) → same a b ≡ same b a) → (most : ℕ) (exists : Refusal) (entries new : List (K × V)) (key : K) (value : V) → with_entry same most exists entries key value ≡ Ok new → IsTable same most entries → IsTable same most new
  with_entry_once flips most exists entries new key value made is =
      let e = with_entry_is most exists entries new key value made in subst (IsTable same most) e.made (table_pushed same most flips entries key value e.absent e.room is)

  without_entry_once : (most : ℕ) (unknown : Refusal) (entries new : List (K × V)) (key : K) → without_entry same unknown entries key ≡ Ok new → IsTable same most entries → IsTable same most new
  without_entry_once most unknown entries new key made is = subst (IsTable same most) (without_entry_is unknown entries new key made) (table_without same most (same key) entries is)

  module _ (P : K × V → Type 0) where
    with_entry_valid : (most : ℕ) (exists : Refusal) (entries new : List (K × V)) (key : K) (value : V) → P (key, value) → with_entry same most exists entries key value ≡ Ok new → All P entries → All P new
    with_entry_valid most exists entries new key value is made valid = subst (All P) (with_entry_is most exists entries new key value made).made (All-push P entries (key, value) valid is)

    without_entry_valid : (unknown : Refusal) (entries new : List (K × V)) (key : K) → without_entry same unknown entries key ≡ Ok new → All P entries → All P new
    without_entry_valid unknown entries new key made valid =
        subst (All P) (without_entry_is unknown entries new key made) (All-from_recursion P _ (all_without P (same key) entries (recursion_from_All P entries valid)))

-- ---- pairs

keys_swapped : (pairs : AddressPairs) → keys_of (swapped pairs) ≡ values_of pairs
keys_swapped [] = refl
keys_swapped (pair ∷ pairs) = ap (λ (ks : List (List ℕ)). pair.1 ∷ ks) (keys_swapped pairs)

pair_added_once : (pairs new : AddressPairs) (four six : List ℕ) → pair_added pairs four six ≡ Ok new → ArePairedOnce pairs → ArePairedOnce new
pair_added_once pairs new four six made is = by_tests (is_some (six_of pairs four) || is_some (four_of pairs six)) (nat_le 256 (length pairs)) refl refl made
  where
    by_tests : (a b : Bool) → (is_some (six_of pairs four) || is_some (four_of pairs six)) ≡ a → nat_le 256 (length pairs) ≡ b
        → ◌≡◌ {A = Result AddressPairs Refusal} (if a then Err PairExists else (if b then Err TableFull else Ok (pairs ++ (four, six) ∷ []))) (Ok new) → ArePairedOnce new
    by_tests true b absent room h = absurd (cc)
    by_tests false true absent room h = absurd (cc)
    by_tests false false absent room h =
        let apart = neither (is_some (six_of pairs four)) (is_some (four_of pairs six)) absent in
        let no_six : list_any (bytes_eq six) (values_of pairs) ≡ false = ap (list_any (bytes_eq six)) (sym (keys_swapped pairs)) ∙ sym (is_some-lookup (bytes_eq six) (swapped pairs)) ∙ apart.1 in
        let same : pairs ++ (four, six) ∷ [] ≡ new = cc in
        subst ArePairedOnce same (record {
          fours = table_pushed bytes_eq 256 nat_list_eq_equiv.symm pairs four six apart.0 (leb-false 256 (length pairs) room) is.fours;
          sixes = subst (IsDistinct bytes_eq) (sym (map-append (λ (p : List ℕ × List ℕ). p.1) pairs ((four, six) ∷ []))) (once_pushed bytes_eq nat_list_eq_equiv.symm (values_of pairs) six no_six is.sixes);
        })

pair_deleted_once : (pairs new : AddressPairs) (four : List ℕ) → pair_deleted pairs four ≡ Ok new → ArePairedOnce pairs → ArePairedOnce new
pair_deleted_once pairs new four made is =
    subst ArePairedOnce (without_entry_is bytes_eq PairUnknown pairs new four made) (record {
      fours = table_without bytes_eq 256 (bytes_eq four) pairs is.fours;
      sixes = once_without (λ (p : List ℕ × List ℕ). p.1) bytes_eq (bytes_eq four) pairs is.sixes;
    })

-- ---- one table of a node

module _ (t : TableState) (valid : AreValid t) where
  with_definitions : (new : Entries) → All IsDefined new → AreDefinedOnce new → NamesDefined new t.domains → AreValid (record t { definitions = new })
  with_definitions new each once named = record {
    definitions = each;
    dois = once;
    named = named;
    domains = valid.domains;
    statics = valid.statics;
    prefixes = valid.prefixes;
    receivers = valid.receivers;
    addresses = valid.addresses;
    ranges = valid.ranges;
    interfaces = valid.interfaces;
    pairs = valid.pairs;
  }

  with_domains : (new : Domains) → NamesDefined t.definitions new → IsTable same_domain 256 new → AreValid (record t { domains = new })
  with_domains new named once = record {
    definitions = valid.definitions;
    dois = valid.dois;
    named = named;
    domains = once;
    statics = valid.statics;
    prefixes = valid.prefixes;
    receivers = valid.receivers;
    addresses = valid.addresses;
    ranges = valid.ranges;
    interfaces = valid.interfaces;
    pairs = valid.pairs;
  }

  with_statics : (new : Statics) → All IsBoundedStatic new → AreSetOnce new → AreValid (record t { statics = new })
  with_statics new each once = record {
    definitions = valid.definitions;
    dois = valid.dois;
    named = valid.named;
    domains = valid.domains;
    statics = each;
    prefixes = once;
    receivers = valid.receivers;
    addresses = valid.addresses;
    ranges = valid.ranges;
    interfaces = valid.interfaces;
    pairs = valid.pairs;
  }

  with_receivers : (new : Receivers) → All IsBoundedReceiver new → IsTable same_address 256 new → AreValid (record t { receivers = new })
  with_receivers new each once = record {
    definitions = valid.definitions;
    dois = valid.dois;
    named = valid.named;
    domains = valid.domains;
    statics = valid.statics;
    prefixes = valid.prefixes;
    receivers = each;
    addresses = once;
    ranges = valid.ranges;
    interfaces = valid.interfaces;
    pairs = valid.pairs;
  }

  with_ranges : (new : Ranges) → All IsBoundedRange new → IsTable same_domain 64 new → AreValid (record t { ranges = new })
  with_ranges new each once = record {
    definitions = valid.definitions;
    dois = valid.dois;
    named = valid.named;
    domains = valid.domains;
    statics = valid.statics;
    prefixes = valid.prefixes;
    receivers = valid.receivers;
    addresses = valid.addresses;
    ranges = each;
    interfaces = once;
    pairs = valid.pairs;
  }

  with_pairs : (new : AddressPairs) → ArePairedOnce new → AreValid (record t { pairs = new })
  with_pairs new once = record {
    definitions = valid.definitions;
    dois = valid.dois;
    named = valid.named;
    domains = valid.domains;
    statics = valid.statics;
    prefixes = valid.prefixes;
    receivers = valid.receivers;
    addresses = valid.addresses;
    ranges = valid.ranges;
    interfaces = valid.interfaces;
    pairs = once;
  }

-- ---- one command

changed : {X : Type 0} (t : TableState) (made : Result X Refusal) (place : X → TableState) → AreValid t → ((x : X) → made ≡ Ok x → AreValid (place x)) → AreValid (state_after t (change_effect made place))
changed t (Ok x) place valid step = step x refl
changed t (Err why) place valid step = valid

listed : (t : TableState) (proto : Proto) (doi : Option ℕ) → AreValid t → AreValid (state_after t (listing_effect t proto doi))
listed t proto None valid = valid
listed t proto (Some doi) valid =
    elim (definition_of t.definitions proto doi) as (λ o. AreValid (state_after t (elim o as (λ _. Effect) [ Some plan ↦ lists (definition_line ((proto, doi), plan) ∷ []) | None ↦ refuses DoiUnknown ]))) [
      | Some plan ↦ valid
      | None ↦ valid
    ]

defined : (t : TableState) (proto : Proto) (doi : ℕ) (plan : DoiPlan) → IsOffered doi plan → AreValid t → AreValid (state_after t (change_effect (definition_added t.definitions proto doi plan) (λ ds. record t { definitions = ds })))
defined t proto doi plan offered valid =
    changed t (definition_added t.definitions proto doi plan) (λ ds. record t { definitions = ds }) valid
    (λ new made. with_definitions t valid new (added_valid t.definitions new proto doi plan offered made valid.definitions) (added_once t.definitions new proto doi plan made valid.dois) (defined_added t.definitions new t.domains proto doi plan made valid.named))

forgotten : (t : TableState) (proto : Proto) (doi : ℕ) → AreValid t → AreValid (state_after t (change_effect (definition_deleted t.definitions t.domains proto doi) (λ ds. record t { definitions = ds })))
forgotten t proto doi valid =
    changed t (definition_deleted t.definitions t.domains proto doi) (λ ds. record t { definitions = ds }) valid
    (λ new made. with_definitions t valid new (deleted_valid t.definitions new t.domains proto doi made valid.definitions) (deleted_once t.definitions new t.domains proto doi made valid.dois) (defined_deleted t.definitions new t.domains proto doi made valid.named))

pub command_valid : (t : TableState) (command : Command) → IsBounded command → AreValid t → AreValid (applied t command)
unfolding effect_of
command_valid t (CipsoAddPass doi tags) is valid = defined t Of.Cipso doi (pass_plan tags) (offered_pass doi tags is) valid
command_valid t (CipsoAddTrans doi tags levels cats) is valid = defined t Of.Cipso doi (trans_plan tags levels cats) (offered_trans doi tags levels cats is.0 is.1) valid
command_valid t (CalipsoAddPass doi) is valid = defined t Of.Calipso doi (pass_plan []) (offered_pass doi [] is) valid
command_valid t (CalipsoAddTrans doi levels cats) is valid = defined t Of.Calipso doi (trans_plan [] levels cats) (offered_trans doi [] levels cats is.0 is.1) valid
command_valid t (CipsoDel doi) is valid = forgotten t Of.Cipso doi valid
command_valid t (CalipsoDel doi) is valid = forgotten t Of.Calipso doi valid
command_valid t (CipsoList doi) is valid = listed t Of.Cipso doi valid
command_valid t (CalipsoList doi) is valid = listed t Of.Calipso doi valid
command_valid t (MapAdd domain prefix protocol) is valid =
    changed t (entry_added t.definitions t.domains domain prefix protocol) (λ x. record t { domains = x }) valid
    (λ new made. with_domains t valid new (defined_entry t.definitions t.domains new domain prefix protocol made valid.named) (entry_added_once t.definitions t.domains new domain prefix protocol made valid.domains))
command_valid t (MapDel domain prefix) is valid =
    changed t (entry_deleted t.domains domain prefix) (λ x. record t { domains = x }) valid
    (λ new made. with_domains t valid new (defined_left t.definitions t.domains new domain prefix made valid.named) (entry_deleted_once t.domains new domain prefix made valid.domains))
command_valid t MapList is valid = valid
command_valid t AcceptOn is valid = valid
command_valid t AcceptOff is valid = valid
command_valid t (UnlblAdd interface prefix range) is valid =
    changed t (label_added t.statics interface prefix range) (λ x. record t { statics = x }) valid
    (λ new made. with_statics t valid new (label_added_valid t.statics new interface prefix range is made valid.statics) (label_added_once t.statics new interface prefix range made valid.prefixes))
command_valid t (UnlblDel interface prefix) is valid =
    changed t (label_deleted t.statics interface prefix) (λ x. record t { statics = x }) valid
    (λ new made. with_statics t valid new (label_deleted_valid t.statics new interface prefix made valid.statics) (label_deleted_once t.statics new interface prefix made valid.prefixes))
command_valid t UnlblList is valid = valid
command_valid t (ReceiverAdd address domain range) is valid =
    changed t (receiver_added t.receivers address (receiver_of domain range)) (λ x. record t { receivers = x }) valid
    (λ new made. with_receivers t valid new
    (with_entry_valid same_address IsBoundedReceiver 256 ReceiverExists t.receivers new address (receiver_of domain range) (record { low = is.low; high = is.high; ordered = is.ordered }) made valid.receivers)
    (with_entry_once same_address same_address_flips 256 ReceiverExists t.receivers new address (receiver_of domain range) made valid.addresses))
command_valid t (ReceiverDel address) is valid =
    changed t (receiver_deleted t.receivers address) (λ x. record t { receivers = x }) valid
    (λ new made. with_receivers t valid new
    (without_entry_valid same_address IsBoundedReceiver ReceiverUnknown t.receivers new address made valid.receivers) (without_entry_once same_address 256 ReceiverUnknown t.receivers new address made valid.addresses))
command_valid t (RangeAdd interface range) is valid =
    changed t (range_added t.ranges interface range) (λ x. record t { ranges = x }) valid
    (λ new made. with_ranges t valid new
    (with_entry_valid same_domain IsBoundedRange 64 RangeExists t.ranges new interface range is made valid.ranges) (with_entry_once same_domain domain_flips 64 RangeExists t.ranges new interface range made valid.interfaces))
command_valid t (RangeDel interface) is valid =
    changed t (range_deleted t.ranges interface) (λ x. record t { ranges = x }) valid
    (λ new made. with_ranges t valid new
    (without_entry_valid same_domain IsBoundedRange RangeUnknown t.ranges new interface made valid.ranges) (without_entry_once same_domain 64 RangeUnknown t.ranges new interface made valid.interfaces))
command_valid t (PairAdd four six) is valid =
    changed t (pair_added t.pairs four six) (λ x. record t { pairs = x }) valid (λ new made. with_pairs t valid new (pair_added_once t.pairs new four six made valid.pairs))
command_valid t (PairDel four) is valid =
    changed t (pair_deleted t.pairs four) (λ x. record t { pairs = x }) valid (λ new made. with_pairs t valid new (pair_deleted_once t.pairs new four made valid.pairs))
command_valid t MgmtVersion is valid = valid
command_valid t MgmtProtocols is valid = valid

-- ---- steps

pub fresh_valid : AreValid fresh
unfolding IsDistinct names_doi_of
fresh_valid = record {
  definitions = All-nil IsDefined;
  dois = record { once = tt; few = λ kind. omega arith };
  named = λ proto doi named. absurd (false≢true named);
  domains = table_none same_domain 256;
  statics = All-nil IsBoundedStatic;
  prefixes = record { once = tt; few = omega arith };
  receivers = All-nil IsBoundedReceiver;
  addresses = table_none same_address 256;
  ranges = All-nil IsBoundedRange;
  interfaces = table_none same_domain 64;
  pairs = record { fours = table_none bytes_eq 256; sixes = tt };
}

step_valid : (nodes : List TableState) (step : Step) → IsBounded step.command → All AreValid nodes → All AreValid (step_applied nodes step)
step_valid nodes step is all =
    (elim (slice_get nodes step.node) as (λ o. slice_get nodes step.node ≡ o → All AreValid (option_map_or (λ t. slice_set nodes step.node (applied t step.command)) o nodes)) [
      | Some t ↦ λ at. All-set AreValid nodes step.node (applied t step.command) (command_valid t step.command is (all_of_place AreValid nodes step.node t all at)) all
      | None ↦ λ at. all
    ]) refl

-- of each step
abbrev pub IsBoundedStep : Step → Type 0
IsBoundedStep step = IsBounded step.command

steps_valid : (steps : List Step) (nodes : List TableState) → All IsBoundedStep steps → All AreValid nodes → All AreValid (fold step_applied nodes steps)
steps_valid [] nodes are all = all
steps_valid (step ∷ steps) nodes are all =
    steps_valid steps (step_applied nodes step) (All-tail IsBoundedStep step steps are) (step_valid nodes step (All-head IsBoundedStep step steps are) all)

pub all_valid : (nodes k : ℕ) (steps : List Step) → All IsBoundedStep steps → All AreValid (fold step_applied (replicate nodes fresh) (take k steps))
all_valid nodes k steps are = steps_valid (take k steps) (replicate nodes fresh) (All-take IsBoundedStep k steps are) (All-replicate AreValid nodes fresh fresh_valid)
