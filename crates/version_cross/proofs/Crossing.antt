-- What is true of a packet that crossed.
use Rattle.std.proofs.Common.{◌≡◌, ℕ, ◌+◌, ◌*◌, ◌%◌, ◌<◌, ◌≤◌, true, false, ◌&&◌, eqb, List, [], ◌++◌, length, Option, Some, None, Ok, refl, sym, ap, ◌∙◌, arith, length-append}
use Rattle.std.specs.Prelude.{IfSome}
use Rattle.std.proofs.lemmas.List.Elements.{All-nil}
use Rattle.mls_label.specs.octet_grammar.Octets.{IsOctets}
use Rattle.mls_label.proofs.octet_grammar.Numbers.{u16_small}
use Rattle.ip_headers.specs.declared.version.Version.{Version}
use Rattle.ip_headers.specs.declared.version.Version.TheVariants.{V4, V6}
use Rattle.ip_headers.specs.Options.{Placed, has_any}
use Rattle.ip_headers.specs.Packet.{Headers}
use Rattle.ip_headers.specs.Reading.{packet_of}
use Rattle.ip_headers.specs.Written.{first_option, IsLabelOption, FitsFields, IsKept, packed, kept_options, hop_by_hop, packet_octets, rebuilt_room, room_limit, rebuilt_length, hides_payload, settled, next_packet}
use Rattle.ip_headers.proofs.Law.{written_packet_reads_back}
use Rattle.version_cross.specs.Segment.{is_udp, is_transport, segment_minimum, checksum_place, segment_checksum}
use Rattle.version_cross.specs.Cause.{is_fragment, cross_cause}
use Rattle.version_cross.specs.Checksum.{pseudo_tail, checksum_sum, address_sum, updated_checksum, written_checksum, crossed_segment}
use Rattle.version_cross.specs.Cross.{other_version, whole_flags, crossed_with}
use Rattle.version_cross.specs.Laws.{address_size, IsAddressOf, CanCross}
use Rattle.version_cross.proofs.Words.{total, total-tail, total-whole, updated_sum}
use Rattle.version_cross.proofs.Segments.{octets-with_checksum, checksum-with_checksum, total-with_checksum, written_is, written_never_zero, updated_small, length-crossed}
use Rattle.version_cross.proofs.Packets.{crossed_from, area6}
use Rattle.version_cross.proofs.Causes.{no_cause, none_again, not_hop}

-- ---- addresses

-- half the octets of an address, and of what a pseudo-header has behind the addresses
half_address : Version → ℕ
half_address V4 = 2
half_address V6 = 8

half_tail : Version → ℕ
half_tail V4 = 2
half_tail V6 = 4

address_even : (version : Version) → address_size version ≡ 2 * half_address version
unfolding half_address
address_even V4 = refl
address_even V6 = refl

tail_even : (version : Version) (protocol size : ℕ) → length (pseudo_tail version protocol size) ≡ 2 * half_tail version
unfolding half_tail
tail_even V4 protocol size = refl
tail_even V6 protocol size = refl

own_addresses : (version : Version) (p : Headers) → FitsFields version p → (length p.source ≡ address_size version) × (length p.destination ≡ address_size version)
own_addresses V4 p fits = (fits.3, fits.4)
own_addresses V6 p fits = (fits.3, fits.4)

back_again : (version : Version) → address_size (other_version (other_version version)) ≡ address_size version
back_again V4 = refl
back_again V6 = refl

-- the words of addresses, length and protocol, and segment
sum-whole : (version : Version) (protocol : ℕ) (source destination segment : List ℕ) → length source ≡ address_size version → length destination ≡ address_size version → length segment < 65536
    → total (source ++ destination ++ pseudo_tail version protocol (length segment) ++ segment) ≡ address_sum source destination + (length segment + protocol) + total segment
sum-whole version protocol source destination segment es ed short =
    let tail = pseudo_tail version protocol (length segment) in
    omega (arith, total-whole (half_address version) (half_tail version) source destination tail segment (es ∙ address_even version) (ed ∙ address_even version) (tail_even version protocol (length segment)), total-tail version protocol (length segment) short)

-- ---- room and reading, by version

pub room_from : (version : Version) (p : Headers) (source destination : List ℕ) (option : Option (List ℕ)) (hops : ℕ) → IfSome option (IsLabelOption (other_version version))
    → rebuilt_room (crossed_from version p source destination option hops) ≤ room_limit (other_version version)
unfolding rebuilt_room hop_by_hop kept_options packed
room_from V4 p source destination None hops is = omega arith
room_from V4 p source destination (Some o) hops is = omega (arith, area6 (o ++ []) (omega (arith, length-append o [], is.short)))
room_from V6 p source destination None hops is = omega arith
room_from V6 p source destination (Some o) hops is = omega (arith, length-append o [], is.short)

settled-from : (version : Version) (p : Headers) (source destination : List ℕ) (option : Option (List ℕ)) (hops : ℕ) → settled (crossed_from version p source destination option hops) ≡ crossed_from version p source destination option hops
settled-from V4 p source destination None hops = refl
settled-from V4 p source destination (Some o) hops = refl
settled-from V6 p source destination None hops = refl
settled-from V6 p source destination (Some o) hops = refl

hides : (version : Version) (p : Headers) → eqb p.protocol 0 ≡ false → hides_payload version p ≡ false
hides V4 p e = refl
hides V6 p e = rw e refl

next-from : (version : Version) (p : Headers) (source destination : List ℕ) (option : Option (List ℕ)) (hops : ℕ) → eqb p.protocol 0 ≡ false
    → next_packet (crossed_from version p source destination option hops) ≡ Ok (crossed_from version p source destination option hops)
unfolding next_packet
next-from version p source destination option hops e =
    rw (hides (other_version version) (crossed_from version p source destination option hops) e) (ap (λ (q : Headers). Ok q) (settled-from version p source destination option hops))

option_fits : (version : Version) (option : Option (List ℕ)) → IfSome option (λ o. IsLabelOption version o × IsOctets o) → IfSome (first_option version option) (λ (o : Placed). IsLabelOption version o.octets × IsOctets o.octets)
option_fits version None is = tt
option_fits version (Some o) is = is

is_label : (version : Version) (option : Option (List ℕ)) → IfSome option (λ o. IsLabelOption version o × IsOctets o) → IfSome option (IsLabelOption version)
is_label version None is = tt
is_label version (Some o) is = is.0

-- the fields that are new fit
fits_from : (version : Version) (p : Headers) (source destination : List ℕ) (option : Option (List ℕ)) (hops : ℕ) → IsAddressOf (other_version version) source → IsAddressOf (other_version version) destination
    → FitsFields (other_version version) (crossed_from version p source destination option hops)
fits_from V4 p source destination option hops s d = (refl, refl, omega arith, s.long, d.long)
fits_from V6 p source destination option hops s d = (omega arith, omega arith, refl, s.long, d.long)

whole_again : (version : Version) → is_fragment (other_version version) (whole_flags (other_version version)) ≡ false
whole_again V4 = refl
whole_again V6 = refl

same_sums : (x y u h c before after : ℕ) → (x + u) % 65535 ≡ (y + h) % 65535 → c % 65535 ≡ u % 65535 → after + h ≡ x + c → before ≡ y → after % 65535 ≡ before % 65535
same_sums x y u h c before after xu cu a b = omega (arith, xu, cu, a, b)

-- the sum with the new addresses, segment and checksum, before the remainder is taken
sums_are : (old new tail segment segment' h c before after : ℕ) → h ≤ 65535 → segment' + h ≡ segment + c → c % 65535 ≡ updated_checksum h old new % 65535
    → before ≡ old + tail + segment → after ≡ new + tail + segment' → after % 65535 ≡ before % 65535
sums_are old new tail segment segment' h c before after small segments c_is before_is after_is =
    let updated = updated_sum old new (tail + segment) h small in
    same_sums (new + (tail + segment)) (old + (tail + segment)) (updated_checksum h old new) h c before after updated c_is (omega (arith, segments, after_is)) (omega (arith, before_is))

-- ---- the laws

module _ (p : Headers) (source destination : List ℕ) (option : Option (List ℕ)) (hops : ℕ) (can : CanCross p source destination) where
  -- a whole segment of TCP or UDP
  passes : (is_transport p.protocol ≡ true) × (segment_minimum p.protocol ≤ length p.payload)
  passes = no_cause p.protocol (is_fragment p.version p.flags_offset) (has_any p.others) p.payload can.cause

  -- the checksum, and how it is written
  abbrev updated : ℕ
  updated = updated_checksum (segment_checksum p.protocol p.payload) (address_sum p.source p.destination) (address_sum source destination)

  abbrev new_checksum : ℕ
  new_checksum = written_checksum p.protocol updated

  new_is : (new_checksum < 65536) × (new_checksum % 65535 ≡ updated % 65535)
  new_is = written_is p.protocol updated (updated_small (segment_checksum p.protocol p.payload) (address_sum p.source p.destination) (address_sum source destination))

  pub keeps_length : length (crossed_with p source destination option hops).payload ≡ length p.payload
  keeps_length = length-crossed p.protocol (address_sum p.source p.destination) (address_sum source destination) p.payload passes.1

  payload_octets : IsOctets (crossed_with p source destination option hops).payload
  unfolding crossed_segment
  payload_octets = octets-with_checksum p.protocol p.payload passes.1 new_checksum can.octets

  total-new : total (crossed_with p source destination option hops).payload + segment_checksum p.protocol p.payload ≡ total p.payload + new_checksum
  unfolding crossed_segment
  total-new = total-with_checksum p.protocol p.payload passes.1 new_checksum new_is.0

  checksum-new : segment_checksum p.protocol (crossed_with p source destination option hops).payload ≡ new_checksum
  unfolding crossed_segment
  checksum-new = checksum-with_checksum p.protocol p.payload passes.1 new_checksum new_is.0

  own : (length p.source ≡ address_size p.version) × (length p.destination ≡ address_size p.version)
  own = own_addresses p.version p can.parsed.fields

  pub keeps_sum : checksum_sum (crossed_with p source destination option hops) ≡ checksum_sum p
  keeps_sum =
      let new_payload = (crossed_with p source destination option hops).payload in
      let before = sum-whole p.version p.protocol p.source p.destination p.payload own.0 own.1 (omega (arith, can.short)) in
      let after = sum-whole (other_version p.version) p.protocol source destination new_payload can.source.long can.destination.long (omega (arith, keeps_length, can.short)) in
      sums_are (address_sum p.source p.destination) (address_sum source destination) (length p.payload + p.protocol) (total p.payload) (total new_payload) (segment_checksum p.protocol p.payload) new_checksum _ _
      (omega (arith, u16_small p.payload (checksum_place p.protocol) can.octets)) total-new new_is.1 before
      (after ∙ ap (λ (n : ℕ). address_sum source destination + (n + p.protocol) + total new_payload) keeps_length)

  cause_again : cross_cause (crossed_with p source destination option hops) ≡ None
  cause_again =
      let new_payload = (crossed_with p source destination option hops).payload in
      none_again p.protocol (is_fragment (other_version p.version) (whole_flags (other_version p.version))) false new_payload passes.0 (whole_again p.version) refl
      (omega (arith, keeps_length, passes.1)) (ap (λ (n : ℕ). is_udp p.protocol && eqb n 0) checksum-new ∙ written_never_zero p.protocol updated)

  pub back : hops < 256 → IfSome option (λ o. IsLabelOption (other_version p.version) o × IsOctets o) → CanCross (crossed_with p source destination option hops) p.source p.destination
  back low fits = record {
    parsed = record {
      class = can.parsed.class;
      hops = low;
      protocol = can.parsed.protocol;
      fields = fits_from p.version p source destination option hops can.source can.destination;
      source = can.source.are;
      destination = can.destination.are;
      label = option_fits (other_version p.version) option fits;
      others = All-nil (IsKept (other_version p.version));
    };
    octets = payload_octets;
    short = omega (arith, keeps_length, can.short);
    cause = cause_again;
    source = record { are = can.parsed.source; long = own.0 ∙ sym (back_again p.version) };
    destination = record { are = can.parsed.destination; long = own.1 ∙ sym (back_again p.version) };
  }

  pub reads_back : hops < 256 → IfSome option (λ o. IsLabelOption (other_version p.version) o × IsOctets o) → rebuilt_length (crossed_with p source destination option hops) ≤ 65535
      → packet_of (other_version p.version) (packet_octets (crossed_with p source destination option hops)) ≡ Ok (crossed_with p source destination option hops)
  reads_back low fits long =
      written_packet_reads_back (crossed_with p source destination option hops) (back low fits).parsed
      (room_from p.version p source destination option hops (is_label (other_version p.version) option fits)) long
      ∙ next-from p.version p source destination option hops (not_hop p.protocol passes.0)
