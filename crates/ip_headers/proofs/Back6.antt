-- A packet of version 6 that was written is read as the packet it was written from.
use Rattle.std.proofs.Common.{◌≡◌, ℕ, ◌+◌, ◌-◌, ◌*◌, ◌/◌, ◌%◌, ◌≤◌, Bool, true, false, not, ◌||◌, ◌&&◌, cond, eqb, ltb, List, [], ◌∷◌, ◌++◌, length, get_or, take, drop, Option, Some, None, Ok, refl, sym, ap, subst, ◌∙◌, append_assoc, arith, length-append, eq-eqb}
use Rattle.std.specs.Prelude.{slice_get, slice_index, slice_range, is_some}
use Rattle.std.specs.Int.{w16, from_be_bytes}
use Rattle.std.specs.Option.{option_map}
use Rattle.std.proofs.lemmas.Bool.{le-ltb, false≢true}
use Rattle.std.proofs.lemmas.List.{append-nil, take_at, drop_at, get_or-drop, get_or_append_left, drop-drop, drop_all}
use Rattle.ip_headers.specs.declared.version.Version.{Version}
use Rattle.ip_headers.specs.declared.version.Version.TheVariants.{V6}
use Rattle.ip_headers.specs.Options.{Placed, options_from, labels_of, others_of, has_any}
use Rattle.ip_headers.specs.Packet.{Headers}
use Rattle.ip_headers.specs.Header4.{version_number}
use Rattle.ip_headers.specs.Header6.{payload_length, has_hop_by_hop, hop_by_hop_length, fixed_fault6, head6, payload6}
use Rattle.ip_headers.specs.Reading.{first_place, parsed, packet_of}
use Rattle.ip_headers.specs.Written.{gap_to, padding, unit_of, kept_options, option_area, label_octets, has_options, hop_by_hop_with, hop_by_hop, fixed6, head_octets, others_at, settled, length_of, rebuilt_length, IsParsed, FitsFields, hides_payload}
use Rattle.ip_headers.proofs.Lists.{listed_end}
use Rattle.ip_headers.proofs.Layouts.{length-padding}
use Rattle.ip_headers.proofs.Back.{AreaBack, area_back, first_label, no_second, reads_as}

-- ---- the tests of the fixed fields, with and without a Hop-by-Hop header

passes6 : (octets : List ℕ) → 40 ≤ length octets → version_number octets ≡ 6 → payload_length octets ≤ length octets - 40
    → (has_hop_by_hop octets ≡ true → 8 ≤ payload_length octets) → hop_by_hop_length octets ≤ payload_length octets → fixed_fault6 octets ≡ None
unfolding fixed_fault6
passes6 octets long version within low header =
    rw (
      le-ltb (length octets) 40 long,
      eq-eqb (version_number octets) 6 version,
      le-ltb (length octets - 40) (payload_length octets) within,
      small (has_hop_by_hop octets) (payload_length octets) low,
      le-ltb (payload_length octets) (hop_by_hop_length octets) header,
    ) refl where
      small : (b : Bool) (n : ℕ) → (b ≡ true → 8 ≤ n) → b && ltb n 8 ≡ false
      small true n f = le-ltb n 8 (f refl)
      small false n f = refl

abbrev nothing : List ℕ
nothing = []

-- ---- the header of a packet

module _ (p : Headers) (v : p.version ≡ V6) (h : IsParsed p) where
  fields : FitsFields V6 p
  fields = subst (λ (w : Version). FitsFields w p) v h.fields

  -- with this Hop-by-Hop header, or none, and this next header before it
  module _ (hop : List ℕ) (next : ℕ) where
    abbrev head : List ℕ
    head = fixed6 p (length hop) next ++ hop

    length-head : length head ≡ 40 + length hop
    length-head = omega (arith, length-append (p.source ++ p.destination) hop, length-append p.source p.destination, fields.3, fields.4)

    -- what stands behind the addresses
    rest_is : drop 40 head ≡ hop
    rest_is = drop_at (p.source ++ p.destination) hop 32 (omega (arith, length-append p.source p.destination, fields.3, fields.4))

    -- an octet of the Hop-by-Hop header
    octet_is : (k : ℕ) → slice_index head (40 + k) ≡ slice_index hop k
    octet_is k = sym (get_or-drop 40 head k 0) ∙ ap (λ (x : List ℕ). get_or x k 0) rest_is

    says : (options : List Placed) → p.protocol ≡ cond (eqb next 0) (slice_index head 40) next
        → option_map (λ o. let q : Placed = record { place = 42; octets = o.octets } in q) p.label ≡ slice_get (labels_of V6 options) 0 → p.others ≡ others_of V6 options
        → parsed V6 head options p.payload ≡ settled p
    says options protocol label others =
        let label_is : option_map (λ o. let q : Placed = record { place = first_place p.version; octets = o.octets } in q) p.label ≡ slice_get (labels_of V6 options) 0 =
        ap (λ (w : Version). option_map (λ o. let q : Placed = record { place = first_place w; octets = o.octets } in q) p.label) v ∙ label in
        let others_are : others_at p.version (first_place p.version + length (label_octets p.label)) p.others ≡ others_of V6 options =
        ap (λ (w : Version). others_at w (first_place w + length (label_octets p.label)) p.others) v ∙ others in
        let class_is : p.class ≡ 16 * ((96 + p.class / 16) % 16) + (16 * (p.class % 16) + p.flow_label / 65536) / 16 = omega (arith, h.class, fields.2) in
        let low = p.flow_label % 65536 in
        let flow_is : p.flow_label ≡ 65536 * ((16 * (p.class % 16) + p.flow_label / 65536) % 16) + from_be_bytes w16 (low / 256 % 256 ∷ low % 256 ∷ []) = omega (arith, fields.2) in
        let id = fields.0 in
        let flags = fields.1 in
        let source : p.source ≡ slice_range head 8 24 = sym (ap (take 16) (append_assoc p.source p.destination hop) ∙ take_at p.source (p.destination ++ hop) 16 fields.3) in
        let destination : p.destination ≡ slice_range head 24 40 =
        sym (ap (λ (x : List ℕ). take 16 (drop 16 x)) (append_assoc p.source p.destination hop) ∙ ap (take 16) (drop_at p.source (p.destination ++ hop) 16 fields.3)
        ∙ take_at p.destination hop 16 fields.4) in
        let e : settled p ≡ parsed V6 head options p.payload =
        λ i. record {
          version = v i;
          class = class_is i;
          identification = id i;
          flags_offset = flags i;
          flow_label = flow_is i;
          hops = p.hops;
          protocol = protocol i;
          source = source i;
          destination = destination i;
          label = label_is i;
          others = others_are i;
          payload = p.payload;
        } in
        sym e

    module _ (fits : length hop + length p.payload ≤ 65535) (size : hop_by_hop_length (head ++ p.payload) ≡ length hop) where
      length-whole : length (head ++ p.payload) ≡ 40 + length hop + length p.payload
      length-whole = length-append head p.payload ∙ ap (λ (n : ℕ). n + length p.payload) length-head

      length_is : payload_length (head ++ p.payload) ≡ length hop + length p.payload
      length_is = let t = length hop + length p.payload in let e : from_be_bytes w16 (t / 256 % 256 ∷ t % 256 ∷ []) ≡ t = omega (arith, fits) in e

      front_is : head6 (head ++ p.payload) ≡ head
      front_is = ap (λ (n : ℕ). take (40 + n) (head ++ p.payload)) size ∙ take_at head p.payload (40 + length hop) length-head

      payload_is : payload6 (head ++ p.payload) ≡ p.payload
      payload_is =
          let s = head ++ p.payload in
          let e : 40 + payload_length s - (40 + hop_by_hop_length s) ≡ length p.payload = omega (arith, size, length_is) in
          (λ i. take (e i) (drop (40 + size i) s))
          ∙ ap (take (length p.payload)) (drop_at head p.payload (40 + length hop) length-head)
          ∙ ap (take (length p.payload)) (sym (append-nil p.payload)) ∙ take_at p.payload [] (length p.payload) refl

      no_fault : (eqb next 0 ≡ true → 8 ≤ length hop) → fixed_fault6 (head ++ p.payload) ≡ None
      no_fault low =
          let version_is : (96 + p.class / 16) / 16 ≡ 6 = omega (arith, h.class) in
          passes6 (head ++ p.payload) (omega (arith, length-whole)) version_is (omega (arith, length_is, length-whole))
          (λ e. omega (arith, length_is, low e)) (omega (arith, size, length_is))

  area_size : length (option_area p) ≡ length (kept_options p) + gap_to 8 0 (42 + length (kept_options p))
  area_size =
      subst (λ (w : Version). length (option_area p) ≡ length (kept_options p) + gap_to (unit_of w) 0 (first_place w + length (kept_options p))) v
      (length-append (kept_options p) (padding p.version (gap_to (unit_of p.version) 0 (first_place p.version + length (kept_options p))))
      ∙ ap (λ (n : ℕ). length (kept_options p) + n) (length-padding p.version (gap_to (unit_of p.version) 0 (first_place p.version + length (kept_options p)))))

  area_unit : (2 + length (option_area p)) % 8 ≡ 0
  area_unit = omega (arith, area_size)

  back : AreaBack V6 42 (option_area p) p.label p.others
  unfolding kept_options
  back = subst (λ (w : Version). AreaBack w (first_place w) (option_area p) p.label p.others) v (area_back p.version p.label p.others (option_area p) (kept_options p) h.label h.others refl refl)

  with_options : length (option_area p) + 2 + length p.payload ≤ 65535
      → packet_of V6 (head (p.protocol ∷ ((2 + length (option_area p)) / 8 - 1) ∷ option_area p) 0 ++ p.payload) ≡ Ok (settled p)
  with_options low =
      let x = (2 + length (option_area p)) / 8 - 1 in
      let hop : List ℕ = p.protocol ∷ x ∷ option_area p in
      let some : 8 ≤ 2 + length (option_area p) = omega (arith, area_unit) in
      let fits : length hop + length p.payload ≤ 65535 = omega (arith, low) in
      let at41 : slice_index (head hop 0 ++ p.payload) 41 ≡ x = get_or_append_left (head hop 0) p.payload 0 41 (omega (arith, length-head hop 0)) ∙ octet_is hop 0 1 in
      let size : hop_by_hop_length (head hop 0 ++ p.payload) ≡ length hop = ap (λ (n : ℕ). (n + 1) * 8) at41 ∙ omega (arith, area_unit, some) in
      let area_is : drop 42 (head hop 0) ≡ option_area p = sym (drop-drop 2 40 (head hop 0)) ∙ ap (drop 2) (rest_is hop 0) in
      let protocol : p.protocol ≡ slice_index (head hop 0) 40 = sym (octet_is hop 0 0) in
      reads_as V6 (head hop 0 ++ p.payload) (head hop 0) p.payload back.options (settled p)
      (no_fault hop 0 fits size (λ e. omega (arith, some))) (front_is hop 0 fits size) (payload_is hop 0 fits size) (ap (options_from V6 42) area_is ∙ back.list)
      (rw back.jumbos refl) (rw (back.labels, no_second 42 p.label) refl)
      (says hop 0 back.options protocol (sym (ap (λ (y : List Placed). slice_get y 0) back.labels ∙ first_label 42 p.label)) (sym back.others_are))

  without : 0 + length p.payload ≤ 65535 → p.label ≡ None → p.others ≡ [] → eqb p.protocol 0 ≡ false → packet_of V6 (head [] p.protocol ++ p.payload) ≡ Ok (settled p)
  without fits no_label no_others some =
      let none : List ℕ = [] in
      let size : hop_by_hop_length (head none p.protocol ++ p.payload) ≡ 0 = rw some refl in
      let area_is : drop 42 (head none p.protocol) ≡ none = drop_all 42 (head none p.protocol) (omega (arith, length-head none p.protocol)) in
      reads_as V6 (head none p.protocol ++ p.payload) (head none p.protocol) p.payload [] (settled p)
      (no_fault none p.protocol fits size (λ e. absurd (false≢true (sym some ∙ e)))) (front_is none p.protocol fits size) (payload_is none p.protocol fits size)
      (ap (options_from V6 42) area_is ∙ listed_end V6 42 [] refl) refl refl
      (says none p.protocol [] (rw some refl) (rw no_label refl) no_others)

  either_none : (label : Option Placed) (others : List Placed) → is_some label || has_any others ≡ false → (label ≡ None) × (others ≡ [])
  either_none None [] e = (refl, refl)
  either_none None (x ∷ others) e = absurd cc
  either_none (Some o) others e = absurd cc

  by_options : (b : Bool) → has_options p ≡ b → length_of V6 p ≤ 65535 → hides_payload V6 p ≡ false → packet_of V6 (head_octets V6 p ++ p.payload) ≡ Ok (settled p)
  unfolding hop_by_hop
  by_options true some long hides =
      let e : head_octets V6 p ≡ head (p.protocol ∷ ((2 + length (option_area p)) / 8 - 1) ∷ option_area p) 0 =
      ap (λ (a : Bool). fixed6 p (length (hop_by_hop_with a p.protocol (option_area p))) (cond a 0 p.protocol) ++ hop_by_hop_with a p.protocol (option_area p)) some in
      let low : length (hop_by_hop_with true p.protocol (option_area p)) + length p.payload ≤ 65535 = rw some at long in
      ap (λ (l : List ℕ). packet_of V6 (l ++ p.payload)) e ∙ with_options (omega (arith, low))
  by_options false none long hides =
      let e : head_octets V6 p ≡ head [] p.protocol =
      ap (λ (a : Bool). fixed6 p (length (hop_by_hop_with a p.protocol (option_area p))) (cond a 0 p.protocol) ++ hop_by_hop_with a p.protocol (option_area p)) none in
      let low : 0 + length p.payload ≤ 65535 = rw none at long in
      let n = either_none p.label p.others none in
      let seen : eqb p.protocol 0 && not (has_options p) ≡ false = hides in
      let some : eqb p.protocol 0 ≡ false = not_both (eqb p.protocol 0) (has_options p) none seen in
      ap (λ (l : List ℕ). packet_of V6 (l ++ p.payload)) e ∙ without low n.0 n.1 some where
        not_both : (a b : Bool) → b ≡ false → a && not b ≡ false → a ≡ false
        not_both true true e f = absurd cc
        not_both true false e f = absurd cc
        not_both false b e f = refl

  pub reads_back6 : rebuilt_length p ≤ 65535 → hides_payload V6 p ≡ false → packet_of V6 (head_octets V6 p ++ p.payload) ≡ Ok (settled p)
  unfolding rebuilt_length
  reads_back6 long hides = by_options (has_options p) refl (subst (λ (w : Version). length_of w p ≤ 65535) v long) hides
