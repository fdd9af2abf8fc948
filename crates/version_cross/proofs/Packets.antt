-- A packet whose payload is another one of the same length, and the fields of a packet that crossed.
use Rattle.std.proofs.Common.{◌≡◌, ℕ, zero, suc, ◌+◌, ◌-◌, ◌*◌, ◌/◌, ◌%◌, ◌<◌, ◌≤◌, List, [], ◌∷◌, ◌++◌, length, Option, Some, refl, sym, ap, ◌∙◌, arith, length-append}
use Rattle.std.specs.Int.{w16, to_be_bytes}
use Rattle.std.proofs.lemmas.List.{length-replicate}
use Rattle.ip_headers.specs.declared.version.Version.{Version}
use Rattle.ip_headers.specs.declared.version.Version.TheVariants.{V4, V6}
use Rattle.ip_headers.specs.declared.fields.Fields4.{Fields4}
use Rattle.ip_headers.specs.declared.fields.Fields6.{Fields6}
use Rattle.ip_headers.specs.Sum.{ones_sum}
use Rattle.ip_headers.specs.Packet.{Headers}
use Rattle.ip_headers.specs.Fields.{packet4, packet6}
use Rattle.ip_headers.specs.Written.{gap_to, padding, packed, filled, first_option, kept_options, option_area, hop_by_hop, next_header, head_octets, packet_octets, length_of, rebuilt_length, rebuilt_room, IsLabelOption}
use Rattle.version_cross.specs.Checksum.{address_sum, crossed_segment}
use Rattle.version_cross.specs.Cross.{other_version, whole_flags, crossed_with}
use Rattle.version_cross.proofs.Segments.{crossed-same}

-- ---- another payload of the same length

-- the header counts the payload, and doesn't look at it
same_head : (version : Version) (p : Headers) (payload : List ℕ) → length payload ≡ length p.payload → head_octets version (record p { payload = payload }) ≡ head_octets version p
unfolding hop_by_hop kept_options
same_head V4 p payload e =
    let area = option_area p in
    let size = length area in
    let fixed = λ (n : ℕ) (checksum : ℕ).
    (64 + (20 + size) / 4) ∷ p.class ∷ to_be_bytes w16 (20 + size + n)
    ++ to_be_bytes w16 p.identification ++ to_be_bytes w16 p.flags_offset
    ++ (p.hops ∷ p.protocol ∷ to_be_bytes w16 checksum)
    ++ p.source ++ p.destination in
    ap (λ (n : ℕ). fixed n (65535 - ones_sum (fixed n 0 ++ area)) ++ area) e
same_head V6 p payload e =
    let hop = hop_by_hop p in
    let next = next_header p in
    ap (λ (n : ℕ). (96 + p.class / 16) ∷ (16 * (p.class % 16) + p.flow_label / 65536) ∷ to_be_bytes w16 (p.flow_label % 65536)
    ++ to_be_bytes w16 (length hop + n)
    ++ (next ∷ p.hops ∷ [])
    ++ p.source ++ p.destination ++ hop) e

same_length : (version : Version) (p : Headers) (payload : List ℕ) → length payload ≡ length p.payload → length_of version (record p { payload = payload }) ≡ length_of version p
unfolding hop_by_hop kept_options
same_length V4 p payload e = ap (λ (n : ℕ). 20 + length (option_area p) + n) e
same_length V6 p payload e = ap (λ (n : ℕ). length (hop_by_hop p) + n) e

-- ---- the room of a label option

-- a gap of version 6 is short, and so is its padding
length-padding6 : (n : ℕ) → length (padding V6 n) ≡ n
length-padding6 zero = refl
length-padding6 (suc zero) = refl
length-padding6 (suc (suc n)) = omega (arith, length-replicate {A = ℕ} n 0)

pub area6 : (octets : List ℕ) → length octets ≤ 254 → 2 + length (filled V6 42 octets) ≤ 2048
area6 octets short =
    let gap = gap_to 8 0 (42 + length octets) in
    let small : gap < 8 = omega arith in
    omega (arith, length-append octets (padding V6 gap), length-padding6 gap, small, short)

-- ---- what was written with the old payload

holds_payload : (head payload written : List ℕ) → written ≡ head ++ payload → length payload ≤ length written
holds_payload head payload written e = omega (arith, ap length e, length-append head payload)

module _ (f : Fields4) (option payload : List ℕ) where
  pub room4 : IsLabelOption V4 option → rebuilt_room (packet4 f (Some option) [] payload) ≤ 40
  unfolding rebuilt_room kept_options packed
  room4 is = omega (arith, length-append option [], is.short)

  pub length4 : (new : List ℕ) → length new ≡ length payload → rebuilt_length (packet4 f (Some option) [] new) ≡ rebuilt_length (packet4 f (Some option) [] payload)
  unfolding rebuilt_length
  length4 new e = same_length V4 (packet4 f (Some option) [] payload) new e

  pub within4 : (written : List ℕ) → written ≡ packet_octets (packet4 f (Some option) [] payload) → length payload ≤ length written
  unfolding packet_octets
  within4 written e = holds_payload (head_octets V4 (packet4 f (Some option) [] payload)) payload written e

  pub octets4 : (new written out : List ℕ) → length new ≡ length payload → written ≡ packet_octets (packet4 f (Some option) [] payload)
      → ((head : List ℕ) → written ≡ head ++ payload → out ≡ head ++ new) → out ≡ packet_octets (packet4 f (Some option) [] new)
  unfolding packet_octets
  octets4 new written out e written_is put =
      put (head_octets V4 (packet4 f (Some option) [] payload)) written_is ∙ ap (λ (h : List ℕ). h ++ new) (sym (same_head V4 (packet4 f (Some option) [] payload) new e))

module _ (f : Fields6) (option payload : List ℕ) where
  pub room6 : IsLabelOption V6 option → rebuilt_room (packet6 f (Some option) [] payload) ≤ 2048
  unfolding rebuilt_room hop_by_hop kept_options packed
  room6 is = omega (arith, area6 (option ++ []) (omega (arith, length-append option [], is.short)))

  pub length6 : (new : List ℕ) → length new ≡ length payload → rebuilt_length (packet6 f (Some option) [] new) ≡ rebuilt_length (packet6 f (Some option) [] payload)
  unfolding rebuilt_length
  length6 new e = same_length V6 (packet6 f (Some option) [] payload) new e

  pub within6 : (written : List ℕ) → written ≡ packet_octets (packet6 f (Some option) [] payload) → length payload ≤ length written
  unfolding packet_octets
  within6 written e = holds_payload (head_octets V6 (packet6 f (Some option) [] payload)) payload written e

  pub octets6 : (new written out : List ℕ) → length new ≡ length payload → written ≡ packet_octets (packet6 f (Some option) [] payload)
      → ((head : List ℕ) → written ≡ head ++ payload → out ≡ head ++ new) → out ≡ packet_octets (packet6 f (Some option) [] new)
  unfolding packet_octets
  octets6 new written out e written_is put =
      put (head_octets V6 (packet6 f (Some option) [] payload)) written_is ∙ ap (λ (h : List ℕ). h ++ new) (sym (same_head V6 (packet6 f (Some option) [] payload) new e))

-- ---- a packet that crossed, by the fields of its header

-- the packet that crosses from this version
abbrev pub crossed_from : Version → Headers → List ℕ → List ℕ → Option (List ℕ) → ℕ → Headers
crossed_from version p source destination option hops = record {
  version = other_version version;
  class = p.class;
  identification = 0;
  flags_offset = whole_flags (other_version version);
  flow_label = 0;
  hops = hops;
  protocol = p.protocol;
  source = source;
  destination = destination;
  label = first_option (other_version version) option;
  others = [];
  payload = crossed_segment p.protocol (address_sum p.source p.destination) (address_sum source destination) p.payload;
}

module _ (p : Headers) (source destination option : List ℕ) (hops : ℕ) where
  pub fields6 : (class protocol old new : ℕ) (payload : List ℕ) → p.version ≡ V4 → class ≡ p.class → protocol ≡ p.protocol → payload ≡ p.payload
      → old % 65535 ≡ address_sum p.source p.destination % 65535 → new % 65535 ≡ address_sum source destination % 65535
      → packet6 (record { class = class; flow_label = 0; hops = hops; protocol = protocol; source = source; destination = destination }) (Some option) [] (crossed_segment protocol old new payload)
      ≡ crossed_with p source destination (Some option) hops
  fields6 class protocol old new payload version_is class_is protocol_is payload_is old_is new_is =
      let f = λ (c : ℕ) (n : ℕ) (s : List ℕ). let g : Fields6 = record { class = c; flow_label = 0; hops = hops; protocol = n; source = source; destination = destination } in packet6 g (Some option) [] s in
      (λ i. f (class_is i) (protocol_is i) (crossed_segment (protocol_is i) old new (payload_is i)))
      ∙ ap (λ (s : List ℕ). f p.class p.protocol s) (crossed-same p.protocol old new (address_sum p.source p.destination) (address_sum source destination) p.payload old_is new_is)
      ∙ ap (λ (v : Version). crossed_from v p source destination (Some option) hops) (sym version_is)

  pub fields4 : (class protocol old new : ℕ) (payload : List ℕ) → p.version ≡ V6 → class ≡ p.class → protocol ≡ p.protocol → payload ≡ p.payload
      → old % 65535 ≡ address_sum p.source p.destination % 65535 → new % 65535 ≡ address_sum source destination % 65535
      → packet4 (record { tos = class; id = 0; flags_offset = 16384; hops = hops; protocol = protocol; source = source; destination = destination }) (Some option) [] (crossed_segment protocol old new payload)
      ≡ crossed_with p source destination (Some option) hops
  fields4 class protocol old new payload version_is class_is protocol_is payload_is old_is new_is =
      let f = λ (c : ℕ) (n : ℕ) (s : List ℕ). let g : Fields4 = record { tos = c; id = 0; flags_offset = 16384; hops = hops; protocol = n; source = source; destination = destination } in packet4 g (Some option) [] s in
      (λ i. f (class_is i) (protocol_is i) (crossed_segment (protocol_is i) old new (payload_is i)))
      ∙ ap (λ (s : List ℕ). f p.class p.protocol s) (crossed-same p.protocol old new (address_sum p.source p.destination) (address_sum source destination) p.payload old_is new_is)
      ∙ ap (λ (v : Version). crossed_from v p source destination (Some option) hops) (sym version_is)
