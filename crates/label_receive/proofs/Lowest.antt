-- What denies a packet its labels, and that nothing is below the lowest label.
use Rattle.std.proofs.Common.{arith, ◌≡◌, ℕ, Bool, true, false, List, [], Option, Some, None, Result, Ok, Err, refl, sym, ap, ◌∙◌}
use Rattle.std.specs.Prelude.{◌+◌, IfSome, not, if◌then◌else◌}
use Rattle.std.proofs.lemmas.Map.Entries.{All-lookup}
use Rattle.std.proofs.lemmas.Bool.{false≢true, true≢false}
use Rattle.mls_label.specs.declared.label.Label.{Label}
use Rattle.mls_label.specs.declared.label.Proto.TheVariants as Of
use Rattle.mls_label.specs.declared.label.Tag.{Tag}
use Rattle.mls_range.specs.Computed.{dominates}
use Rattle.mls_range.proofs.Law.{dominance_computes}
use Rattle.ip_headers.specs.Packet.{ParsedPacket}
use Rattle.doi_table.specs.declared.plan.DoiPlan.{DoiPlan}
use Rattle.doi_table.specs.declared.unmapped.Unmapped.{Unmapped}
use Rattle.doi_table.specs.declared.unmapped.Unmapped.TheVariants.{Level, Category}
use Rattle.doi_table.specs.Table.{Entries, definition_of}
use Rattle.doi_table.specs.Translation.{local_label}
use Rattle.packet_label.specs.declared.denial.Carrier.{Carrier}
use Rattle.packet_label.specs.declared.denial.Carrier.TheVariants as carried
use Rattle.packet_label.specs.declared.denial.Denial.{Denial}
use Rattle.packet_label.specs.declared.denial.Denial.TheVariants.{Unlabelled, NoStatic, UnknownDoi, TagNotAllowed, LevelUnmapped, CategoryUnmapped, OutsideRange, BelowRange}
use Rattle.packet_label.specs.declared.packet.Wire.{Wire}
use Rattle.packet_label.specs.declared.packet.Wire.TheVariants.{Cipso, Calipso}
use Rattle.domain_map.specs.declared.address_text.address.Address.{Address}
use Rattle.domain_map.specs.address_text.Address.{same_address}
use Rattle.domain_map.specs.Domains.{Domains}
use Rattle.domain_map.specs.Statics.{find_static_of}
use Rattle.node_tables.specs.declared.receiver.Receiver.{Receiver}
use Rattle.node_tables.specs.Tables.{TableState, find_receiver_of}
use Rattle.label_receive.specs.Steps.{◌>>=◌}
use Rattle.label_receive.specs.Incoming.{Incoming, address_in, static_labels, translated, lists_tag, option_labels, label_of}
use Rattle.label_receive.specs.Range.{is_outside}
use Rattle.label_receive.specs.Receive.{map_refuses, refusal_of, delivered_unless, delivered_to, receive_of}
use Rattle.label_receive.specs.Laws.{HaveLowestEnds, is_of_labels}
use Rattle.label_receive.proofs.Due.{below, by_receiver, by_labels}

-- ---- what denies a packet its labels

abbrev DeniesSo : Result Incoming Denial → Type 0
DeniesSo r = (why : Denial) → r ≡ Err why → is_of_labels why ≡ true

denied : (a b : Denial) → is_of_labels a ≡ true → ◌≡◌ {A = Result Incoming Denial} (Err a) (Err b) → is_of_labels b ≡ true
denied a b is h = let same : a ≡ b = cc in ap is_of_labels (sym same) ∙ is

not_denied : (incoming : Incoming) (why : Denial) → ◌≡◌ {A = Result Incoming Denial} (Ok incoming) (Err why) → is_of_labels why ≡ true
not_denied incoming why h = absurd (cc)

set_so : (o : Option (Label × Label)) → DeniesSo (elim o as (λ _. Result Incoming Denial) [ None ↦ Err NoStatic | Some labels ↦ Ok (record { carrier = carried.Unlabelled; low = labels.0; high = labels.1 }) ])
set_so None why h = denied NoStatic why refl h
set_so (Some labels) why h = not_denied _ why h

static_so : (b : Bool) (o : Option (Label × Label)) → DeniesSo (if not b then Err Unlabelled else elim o as (λ _. Result Incoming Denial) [ None ↦ Err NoStatic | Some labels ↦ Ok (record { carrier = carried.Unlabelled; low = labels.0; high = labels.1 }) ])
static_so true o why h = set_so o why h
static_so false o why h = denied Unlabelled why refl h

translated_so : (carrier : Carrier) (r : Result Label Unmapped) → DeniesSo (translated carrier r)
translated_so carrier (Ok label) why h = not_denied _ why h
translated_so carrier (Err Level) why h = denied LevelUnmapped why refl h
translated_so carrier (Err (Category c)) why h = denied (CategoryUnmapped c) why refl h

tagged_so : (at : ℕ) (b : Bool) (carrier : Carrier) (r : Result Label Unmapped) → DeniesSo (if not b then Err (TagNotAllowed at) else translated carrier r)
tagged_so at true carrier r why h = translated_so carrier r why h
tagged_so at false carrier r why h = denied (TagNotAllowed at) why refl h

cipso_so : (at doi : ℕ) (tag : Tag) (label : Label) (o : Option DoiPlan) → DeniesSo (elim o as (λ _. Result Incoming Denial) [
  | None ↦ Err (UnknownDoi (at + 2))
  | Some plan ↦ if not (lists_tag plan.tags tag) then Err (TagNotAllowed (at + 6)) else translated (carried.Cipso doi) (local_label plan label)
])
cipso_so at doi tag label None why h = denied (UnknownDoi (at + 2)) why refl h
cipso_so at doi tag label (Some plan) why h = tagged_so (at + 6) (lists_tag plan.tags tag) (carried.Cipso doi) (local_label plan label) why h

calipso_so : (at doi : ℕ) (label : Label) (o : Option DoiPlan) → DeniesSo (elim o as (λ _. Result Incoming Denial) [
  | None ↦ Err (UnknownDoi (at + 2))
  | Some plan ↦ translated (carried.Calipso doi) (local_label plan label)
])
calipso_so at doi label None why h = denied (UnknownDoi (at + 2)) why refl h
calipso_so at doi label (Some plan) why h = translated_so (carried.Calipso doi) (local_label plan label) why h

option_so : (definitions : Entries) (wire : Wire) → DeniesSo (option_labels definitions wire)
option_so definitions (Cipso at doi tag label) why h = cipso_so at doi tag label (definition_of definitions Of.Cipso doi) why h
option_so definitions (Calipso at doi label) why h = calipso_so at doi label (definition_of definitions Of.Calipso doi) why h

labels_so : (t : TableState) (interface : List ℕ) (p : ParsedPacket Wire) (o : Option Wire) → DeniesSo (elim o as (λ _. Result Incoming Denial) [
  | None ↦ static_labels t interface (address_in p.version p.source)
  | Some wire ↦ option_labels t.definitions wire
])
labels_so t interface p None why h = static_so t.accepts (find_static_of t.statics interface (address_in p.version p.source)) why h
labels_so t interface p (Some wire) why h = option_so t.definitions wire why h

pub label_so : (t : TableState) (interface : List ℕ) (p : ParsedPacket Wire) (why : Denial) → label_of t interface p ≡ Err why → is_of_labels why ≡ true
unfolding label_of
label_so t interface p why h = labels_so t interface p p.label why h

-- ---- no receiver denies so

is_above : (label : Label) → dominates label (record { level = 0; cats = [] }) ≡ true
is_above label = (dominance_computes label (record { level = 0; cats = [] })).1 (record { level = omega arith; cats = λ c h. absurd (false≢true h) })

pub unless_so : (o : Option Denial) (address : Address) (label : Label) (why : Denial) → delivered_unless o address label ≡ Err why → o ≡ Some why
unless_so None address label why h = absurd (cc)
unless_so (Some other) address label why h = let same : other ≡ why = cc in ap Some same

by_receiver_other : (domains : Domains) (source destination : Address) (incoming : Incoming) (o : Option Receiver) → IfSome o (λ r. r.low ≡ record { level = 0; cats = [] })
    → by_receiver domains source destination incoming o ≡ Err BelowRange → ⊥
by_receiver_other domains source destination incoming None lowest h = absurd (cc)
by_receiver_other domains source destination incoming (Some receiver) lowest h =
    let low = below (map_refuses domains receiver.domain source incoming.carrier) (dominates receiver.level incoming.high) (dominates incoming.low receiver.low)
    (unless_so (refusal_of domains receiver source incoming) destination incoming.high BelowRange h) in
    true≢false (sym (is_above incoming.low) ∙ ap (dominates incoming.low) (sym lowest) ∙ low)

inside_other : (t : TableState) (b : Bool) (source destination : Address) (incoming : Incoming) → HaveLowestEnds t.receivers
    → (if b then Err OutsideRange else delivered_to t source destination incoming) ≡ Err BelowRange → ⊥
inside_other t true source destination incoming lowest h = absurd (cc)
inside_other t false source destination incoming lowest h =
    by_receiver_other t.domains source destination incoming (find_receiver_of t.receivers destination)
    (All-lookup (λ (r : Receiver). r.low ≡ record { level = 0; cats = [] }) (same_address destination) t.receivers lowest) h

labels_other : (t : TableState) (interface : List ℕ) (p : ParsedPacket Wire) (r : Result Incoming Denial) → HaveLowestEnds t.receivers → DeniesSo r
    → (r >>= by_labels t interface p) ≡ Err BelowRange → ⊥
labels_other t interface p (Err why) lowest so h = let same : why ≡ BelowRange = cc in false≢true (so BelowRange (ap Err same))
labels_other t interface p (Ok incoming) lowest so h =
    inside_other t (is_outside t.ranges interface incoming.low incoming.high) (address_in p.version p.source) (address_in p.version p.destination) incoming lowest h

pub none_below : (t : TableState) (interface : List ℕ) (p : ParsedPacket Wire) → HaveLowestEnds t.receivers → receive_of t interface p ≡ Err BelowRange → ⊥
unfolding receive_of
none_below t interface p lowest h = labels_other t interface p (label_of t interface p) lowest (label_so t interface p) h
