-- The label that the next hop takes of a packet without an option, where the link is covered: it means at least what it meant.
use Rattle.std.proofs.Common.{◌≡◌, ◌⊎◌, inl, inr, ℕ, Bool, true, false, List, [], Option, Some, None, Result, Ok, Err, IfSome, refl, sym, ap, subst, ◌∙◌}
use Rattle.std.specs.Prelude.{All, Contains, IsTrue, not, ◌&&◌, if◌then◌else◌, option_map}
use Rattle.std.proofs.lemmas.Bool.{and_parts, false≢true}
use Rattle.std.proofs.lemmas.Map.Entries.{All-lookup}
use Rattle.std.proofs.lemmas.List.Elements.{All-contains}
use Rattle.std.proofs.lemmas.Option.{slice_get_within, get_or_from_slice_get}
use Rattle.mls_label.specs.declared.label.Label.{Label}
use Rattle.mls_label.specs.Label.{Dominates, IsLabel}
use Rattle.mls_range.specs.Range.{LabelRange}
use Rattle.mls_range.specs.Computed.{dominates}
use Rattle.mls_range.proofs.Law.{dominance_computes}
use Rattle.domain_map.specs.declared.address_text.address.Address.{Address}
use Rattle.domain_map.specs.address_text.Prefix.{holds}
use Rattle.domain_map.specs.declared.static_map.StaticEntry.{StaticEntry}
use Rattle.domain_map.specs.Domains.{Domain, same_domain}
use Rattle.domain_map.specs.Statics.{counting, entries_for, find_static_of}
use Rattle.domain_map.proofs.Law.{entries_stand_at_their_places, found_labels_are_those_of_an_entry}
use Rattle.ip_headers.specs.Packet.{ParsedPacket}
use Rattle.ip_headers.specs.Reading.{first_place}
use Rattle.packet_label.specs.declared.denial.Carrier.TheVariants as carried
use Rattle.packet_label.specs.declared.denial.Denial.{Denial}
use Rattle.packet_label.specs.declared.denial.Denial.TheVariants.{Unlabelled, NoStatic}
use Rattle.packet_label.specs.declared.packet.Wire.{Wire}
use Rattle.packet_label.specs.Written.{moved_to, settled_packet}
use Rattle.label_commands.specs.declared.flow_lines.hop.Hop.{Hop}
use Rattle.label_commands.specs.declared.flow_lines.hop.Hop.TheVariants.{Send, Forward, Receive}
use Rattle.label_commands.specs.flow_lines.Hop.{is_send}
use Rattle.label_commands.specs.node_readings.Reading.{NamedMeanings, IsReading}
use Rattle.label_commands.specs.node_readings.Meaning.{meaning_of, MeansDominates}
use Rattle.label_commands.proofs.node_readings.Law.{meaning_follows_dominance, dominance_of_meanings_goes_on}
use Rattle.script_lines.specs.command_values.Ranges.{IsMlsRange}
use Rattle.node_tables.specs.Tables.{Ranges, TableState, range_at, find_range_of}
use Rattle.node_tables.specs.Valid.{IsBoundedRange, IsBoundedStatic, AreValid}
use Rattle.node_tables.proofs.Law.{range_ends_are_labels}
use Rattle.label_receive.specs.Incoming.{Incoming, address_in, static_labels, option_labels, label_of}
use Rattle.label_receive.specs.Range.{in_range, is_outside}
use Rattle.label_flow.specs.flow_access.Labels.{high_of, hop_label}
use Rattle.static_law.specs.Covered.{interface_in, MeansNoLess, AreNoLess, Covered}
use Rattle.static_law.proofs.Places.{some_contained}
use Rattle.static_law.proofs.Released.{IsReleased}

-- ---- what is taken is a static label

pub record IsStatic (t : TableState) (interface : List ℕ) (y : Label) : Type 0 where
  pub accepts : t.accepts ≡ true
  pub source : Address
  pub labels : Label × Label
  pub found : find_static_of t.statics interface source ≡ Some labels
  pub high : labels.1 ≡ y

module _ (t : TableState) (interface : List ℕ) (source : Address) (y : Label) where
  by_found : (o : Option (Label × Label)) → find_static_of t.statics interface source ≡ o → t.accepts ≡ true
      → high_of (elim o as (λ _. Result Incoming Denial) [ None ↦ Err NoStatic | Some labels ↦ Ok (record { carrier = carried.Unlabelled; low = labels.0; high = labels.1 }) ]) ≡ Ok y → IsStatic t interface y
  by_found None f a e = absurd (cc)
  by_found (Some labels) f a e = let same : labels.1 ≡ y = cc in record { accepts = a; source = source; labels = labels; found = f; high = same }

  by_accepts : (b : Bool) → t.accepts ≡ b
      → high_of (if not b then Err Unlabelled else elim (find_static_of t.statics interface source) as (λ _. Result Incoming Denial) [ None ↦ Err NoStatic | Some labels ↦ Ok (record { carrier = carried.Unlabelled; low = labels.0; high = labels.1 }) ]) ≡ Ok y
      → IsStatic t interface y
  by_accepts false a e = absurd (cc)
  by_accepts true a e = by_found (find_static_of t.statics interface source) refl a e

  static_is : high_of (static_labels t interface source) ≡ Ok y → IsStatic t interface y
  static_is e = by_accepts t.accepts refl e

takes_static : (t : TableState) (interface : List ℕ) (p : ParsedPacket Wire) (y : Label) → p.label ≡ None → high_of (label_of t interface p) ≡ Ok y → IsStatic t interface y
unfolding label_of
takes_static t interface p y is e =
    let as_none = sym (ap (λ (o : Option Wire). high_of (elim o as (λ _. Result Incoming Denial) [ None ↦ static_labels t interface (address_in p.version p.source) | Some wire ↦ option_labels t.definitions wire ])) is) ∙ e in
    static_is t interface (address_in p.version p.source) y as_none

settled_none : (p : ParsedPacket Wire) → p.label ≡ None → (settled_packet p).label ≡ None
settled_none p is = ap (λ (l : Option Wire). option_map (moved_to (first_place p.version)) l) is

-- of what is read of a packet without an option
pub hop_takes_static : (t : TableState) (p : ParsedPacket Wire) (y : Label) (hop : Hop) → is_send hop ≡ false → p.label ≡ None → hop_label t hop (Ok (settled_packet p)) ≡ Ok y → IsStatic t (interface_in hop) y
hop_takes_static t p y (Send node domain interface label) never is e = absurd (false≢true (sym never))
hop_takes_static t p y (Forward node from to domain) never is e = takes_static t from (settled_packet p) y (settled_none p is) e
hop_takes_static t p y (Receive node interface) never is e = takes_static t interface (settled_packet p) y (settled_none p is) e

-- ---- what goes out is below the range

range_is : (ranges : Ranges) (interface : Domain) (o : Option LabelRange) → range_at ranges interface ≡ o → All IsBoundedRange ranges → IfSome o IsMlsRange
range_is ranges interface o is all = subst (λ (o : Option LabelRange). IfSome o IsMlsRange) is (All-lookup IsMlsRange (same_domain interface) ranges all)

found_is : (ranges : Ranges) (interface : List ℕ) (range : LabelRange) → find_range_of ranges interface ≡ Some range → All IsBoundedRange ranges → IsLabel range.high
found_is ranges interface range found all = (range_ends_are_labels range (by_own (range_at ranges (Some interface)) refl found)).1
  where
    by_own : (o : Option LabelRange) → range_at ranges (Some interface) ≡ o → ◌≡◌ {A = Option LabelRange} (elim o as (λ _. Option LabelRange) [ Some own ↦ Some own | None ↦ range_at ranges None ]) (Some range) → IsMlsRange range
    by_own (Some own) is e = let same : own ≡ range = cc in subst IsMlsRange same (range_is ranges (Some interface) (Some own) is all)
    by_own None is e = range_is ranges None (Some range) e all

held : (range : LabelRange) (low x : Label) → not (in_range range low && in_range range x) ≡ false → Dominates range.high x
held range low x e =
    let both = not_not (in_range range low && in_range range x) e in
    let inside = (and_parts (in_range range low) (in_range range x) both).1 in
    (dominance_computes range.high x).0 (and_parts (dominates x range.low) (dominates range.high x) inside).1
  where
    not_not : (b : Bool) → not b ≡ false → b ≡ true
    not_not true h = refl
    not_not false h = absurd (false≢true (sym h))

released_below : (t : TableState) (out : List ℕ) (range : LabelRange) (x : Label) → find_range_of t.ranges out ≡ Some range → IsReleased t out x → Dominates range.high x
unfolding is_outside
released_below t out range x found is =
    held range is.low x (subst (λ (o : Option LabelRange). (elim o as (λ _. Bool) [ None ↦ false | Some range ↦ not (in_range range is.low && in_range range x) ]) ≡ false) found is.inside)

-- ---- a covered link

module _ (a b : TableState) (out into : List ℕ) (a_named b_named : NamedMeanings) (valid_a : AreValid a) (valid_b : AreValid b) (named_a : IsReading a_named) (x y : Label) (is : IsLabel x)
    (released : IsReleased a out x) (static : IsStatic b into y) where
  -- the entry whose high label was taken
  taken : (place : ℕ) × (entry : StaticEntry) × Contains (entries_for b.statics into) (place, entry) × IsTrue (holds entry.prefix static.source) × (static.labels ≡ (entry.low, entry.high))
  taken = found_labels_are_those_of_an_entry b.statics into static.source static.labels static.found

  of_taken : (P : Label → Type 0) → P taken.1.high → P y
  of_taken P h = subst P static.high (subst (λ (ls : Label × Label). P ls.1) (sym taken.4) h)

  above_range : AreNoLess a.ranges out a_named (entries_for b.statics into) b_named → MeansDominates (meaning_of b_named y) (meaning_of a_named x)
  above_range above =
      let high = found_is a.ranges out above.range above.found valid_a.ranges in
      let below = (meaning_follows_dominance a_named above.range.high x named_a high.level high.cats is.level is.cats).0 (released_below a out above.range x above.found released) in
      let more = All-contains (λ (e : ℕ × StaticEntry). MeansNoLess b_named (meaning_of a_named above.range.high) e.1) (entries_for b.statics into) (taken.0, taken.1) above.above taken.2 in
      dominance_of_meanings_goes_on (meaning_of b_named y) (meaning_of a_named above.range.high) (meaning_of a_named x)
      (of_taken (λ l. MeansDominates (meaning_of b_named l) (meaning_of a_named above.range.high)) more) below

  no_entry : entries_for b.statics into ≡ [] → ⊥
  no_entry = some_contained (entries_for b.statics into) taken.0 taken.1 taken.2

  is_label : IsLabel y
  is_label =
      let at = ((entries_stand_at_their_places b.statics (counting b.statics into) taken.0 taken.1).0 taken.2).0 in
      let bounded : IsBoundedStatic taken.1 = subst IsBoundedStatic (get_or_from_slice_get b.statics taken.0 taken.1 taken.1 at) (valid_b.statics taken.0 taken.1 (slice_get_within b.statics taken.0 taken.1 at)) in
      of_taken IsLabel (range_ends_are_labels (record { low = taken.1.low; high = taken.1.high }) bounded).1

  pub climbs_over : Covered a out b into a_named b_named → MeansDominates (meaning_of b_named y) (meaning_of a_named x) × IsLabel y
  climbs_over covered = (by_way covered.unlabelled, is_label)
    where
      by_way : (b.accepts ≡ false) ⊎ ((entries_for b.statics into ≡ []) ⊎ AreNoLess a.ranges out a_named (entries_for b.statics into) b_named) → MeansDominates (meaning_of b_named y) (meaning_of a_named x)
      by_way (inl off) = absurd (false≢true (sym off ∙ static.accepts))
      by_way (inr (inl none)) = absurd (no_entry none)
      by_way (inr (inr above)) = above_range above
