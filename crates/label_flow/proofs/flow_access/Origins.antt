-- The label under which a flow's first hop judges a packet is a label.
use Rattle.std.proofs.Common.{◌≡◌, ℕ, Bool, true, false, List, Option, Some, None, Result, Ok, Err, refl, sym, subst}
use Rattle.std.specs.Prelude.{All, not, if◌then◌else◌}
use Rattle.std.proofs.lemmas.Option.{slice_get_within, get_or_from_slice_get}
use Rattle.mls_label.specs.declared.label.Label.{Label}
use Rattle.mls_label.specs.declared.label.Proto.TheVariants as Of
use Rattle.mls_label.specs.Label.{IsLabel}
use Rattle.doi_table.proofs.Law.{local_labels_are_labels}
use Rattle.domain_map.specs.declared.address_text.address.Address.{Address}
use Rattle.domain_map.specs.Statics.{Statics, counting, find_static_of}
use Rattle.domain_map.proofs.Law.{entries_stand_at_their_places, found_labels_are_those_of_an_entry}
use Rattle.ip_headers.specs.Packet.{ParsedPacket}
use Rattle.packet_label.specs.declared.denial.Carrier.TheVariants as carried
use Rattle.packet_label.specs.declared.denial.Denial.{Denial}
use Rattle.packet_label.specs.declared.denial.Denial.TheVariants.{Unlabelled, NoStatic}
use Rattle.packet_label.specs.declared.fault.CarryFault.{CarryFault}
use Rattle.packet_label.specs.declared.packet.Wire.{Wire}
use Rattle.packet_label.specs.declared.packet.Wire.TheVariants as wire
use Rattle.packet_label.specs.Packet.{IsPacket}
use Rattle.packet_label.specs.Wire.{label_said}
use Rattle.packet_label.specs.Written.{IsReadAs}
use Rattle.packet_label.proofs.Law.{labels_read_are_labels}
use Rattle.label_commands.specs.declared.flow_lines.hop.Hop.{Hop}
use Rattle.label_commands.specs.declared.flow_lines.hop.Hop.TheVariants.{Send, Forward, Receive}
use Rattle.node_tables.specs.Tables.{TableState}
use Rattle.node_tables.specs.Valid.{IsBoundedStatic, AreValid}
use Rattle.node_tables.proofs.Law.{range_ends_are_labels}
use Rattle.label_commands.specs.Bounded.{IsBoundedHop}
use Rattle.label_receive.specs.Incoming.{Incoming, address_in, static_labels, option_labels, label_of}
use Rattle.label_flow.specs.flow_access.Labels.{high_of, taken_at, hop_label}
use Rattle.label_flow.proofs.flow_access.Crossing.{ReadsOf, reads_of, defined_in}

-- ---- what a static entry sets is a label

static_found : (statics : Statics) (interface : List ℕ) (address : Address) (labels : Label × Label) → All IsBoundedStatic statics → find_static_of statics interface address ≡ Some labels → IsLabel labels.1
static_found statics interface address labels all e =
    let (place, entry, counts, holding, same) = found_labels_are_those_of_an_entry statics interface address labels e in
    let at = ((entries_stand_at_their_places statics (counting statics interface) place entry).0 counts).0 in
    let bounded : IsBoundedStatic entry = subst IsBoundedStatic (get_or_from_slice_get statics place entry entry at) (all place entry (slice_get_within statics place entry at)) in
    subst (λ (ls : Label × Label). IsLabel ls.1) (sym same) (range_ends_are_labels (record { low = entry.low; high = entry.high }) bounded).1

module _ (t : TableState) (valid : AreValid t) (incoming : Incoming) where
  static_label : (interface : List ℕ) (source : Address) → static_labels t interface source ≡ Ok incoming → IsLabel incoming.high
  static_label interface source e = by_accepts t.accepts e
    where
      by_found : (o : Option (Label × Label)) → find_static_of t.statics interface source ≡ o
          → (elim o as (λ _. Result Incoming Denial) [ None ↦ Err NoStatic | Some labels ↦ Ok (record { carrier = carried.Unlabelled; low = labels.0; high = labels.1 }) ]) ≡ Ok incoming → IsLabel incoming.high
      by_found None f h = absurd (cc)
      by_found (Some labels) f h =
          let same : record { carrier = carried.Unlabelled; low = labels.0; high = labels.1 } ≡ incoming = cc in
          subst (λ (i : Incoming). IsLabel i.high) same (static_found t.statics interface source labels valid.statics f)

      by_accepts : (b : Bool) → (if not b then Err Unlabelled else elim (find_static_of t.statics interface source) as (λ _. Result Incoming Denial) [ None ↦ Err NoStatic | Some labels ↦ Ok (record { carrier = carried.Unlabelled; low = labels.0; high = labels.1 }) ]) ≡ Ok incoming
          → IsLabel incoming.high
      by_accepts false h = absurd (cc)
      by_accepts true h = by_found (find_static_of t.statics interface source) refl h

  local_label_is : (said : Wire) → IsLabel (label_said said) → ReadsOf t.definitions said incoming.high → IsLabel incoming.high
  local_label_is (wire.Cipso at doi tag w) is home = let h = local_labels_are_labels home.0 w incoming.high (defined_in t valid Of.Cipso doi home.0 home.1).2 is.level is.cats home.2 in record { level = h.0; cats = h.1 }
  local_label_is (wire.Calipso at doi w) is home = let h = local_labels_are_labels home.0 w incoming.high (defined_in t valid Of.Calipso doi home.0 home.1).2 is.level is.cats home.2 in record { level = h.0; cats = h.1 }

  module _ (interface octets : List ℕ) (p : ParsedPacket Wire) (is : IsPacket octets p) where
    by_option : (o : Option Wire) → p.label ≡ o → (elim o as (λ _. Result Incoming Denial) [ None ↦ static_labels t interface (address_in p.version p.source) | Some said ↦ option_labels t.definitions said ]) ≡ Ok incoming → IsLabel incoming.high
    by_option None l e = static_label interface (address_in p.version p.source) e
    by_option (Some said) l e =
        local_label_is said (labels_read_are_labels octets p said is l) (reads_of t.definitions incoming said e)

    incoming_label : label_of t interface p ≡ Ok incoming → IsLabel incoming.high
    unfolding label_of
    incoming_label e = by_option p.label refl e

taken_label : (t : TableState) (interface octets : List ℕ) (read : Result (ParsedPacket Wire) CarryFault) (x : Label) → AreValid t → IsReadAs octets read → taken_at t interface read ≡ Ok x → IsLabel x
taken_label t interface octets (Err fault) x valid is e = absurd (cc)
taken_label t interface octets (Ok p) x valid is e = by_labels (label_of t interface p) refl e
  where
    by_labels : (r : Result Incoming Denial) → label_of t interface p ≡ r → high_of r ≡ Ok x → IsLabel x
    by_labels (Err why) l h = absurd (cc)
    by_labels (Ok incoming) l h = let same : incoming.high ≡ x = cc in subst IsLabel same (incoming_label t valid incoming interface octets p is l)

pub origin_label : (t : TableState) (hop : Hop) (octets : List ℕ) (read : Result (ParsedPacket Wire) CarryFault) (x : Label) → AreValid t → IsBoundedHop hop → IsReadAs octets read → hop_label t hop read ≡ Ok x → IsLabel x
origin_label t (Send node domain interface label) octets read x valid named is e = let same : label ≡ x = cc in subst IsLabel same named
origin_label t (Forward node from to domain) octets read x valid named is e = taken_label t from octets read x valid is e
origin_label t (Receive node interface) octets read x valid named is e = taken_label t interface octets read x valid is e
