-- The packet of a number: what is written reads back, and it has 40 octets.
use Rattle.std.proofs.Common.{◌≡◌, ℕ, ◌+◌, ◌/◌, ◌%◌, ◌^◌, ◌<◌, ◌≤◌, List, [], ◌∷◌, length, Ok, refl, ap, ◌∙◌, arith}
use Rattle.std.proofs.lemmas.List.Elements.{All-nil}
use Rattle.std.proofs.lemmas.List.FromFn.{length-map-range_with_len}
use Rattle.mls_label.specs.octet_grammar.Octets.{IsOctets}
use Rattle.mls_label.proofs.octet_grammar.Octets.{octets-cons, octets-zeros}
use Rattle.mls_label.specs.declared.label.Tag.TheVariants.{One}
use Rattle.mls_label.specs.category_bitmap.Bitmap.{octet_of, octets_needed}
use Rattle.cipso_option.specs.Text.{cipso_text}
use Rattle.ip_headers.specs.declared.version.Version.TheVariants.{V4}
use Rattle.ip_headers.specs.Written.{IsKept, IsLabelOption, gap_to, rebuilt_room, rebuilt_length}
use Rattle.packet_label.specs.declared.packet.Wire.TheVariants.{Cipso}
use Rattle.packet_label.specs.Packet.{IsPacket}
use Rattle.packet_label.specs.Written.{CanSay, IsWritable}
use Rattle.packet_label.proofs.Law.{written_options_suit_their_version, written_packet_reads_back}
use Rattle.made_run.specs.made_capture.Packet.{empty_datagram, datagram_fields, label_made, headers_made, packet_made, packet_said}
use Rattle.made_run.proofs.made_capture.Labels.{needs_two, fits_one, is_label}
use Rattle.made_run.proofs.made_capture.Sizes.{room_is, length_is, octets_are}

abbrev pub option_made : ℕ → List ℕ
option_made x = cipso_text 16 One (label_made x)

abbrev source_made : ℕ → ℕ
source_made x = (x / 2 ^ 32) % 256

can_say : (x : ℕ) → CanSay V4 (Cipso 20 16 One (label_made x))
can_say x = (omega arith, omega arith, is_label x, fits_one x)

pub option_suits : (x : ℕ) → IsLabelOption V4 (option_made x)
option_suits x = (written_options_suit_their_version V4 (Cipso 20 16 One (label_made x)) (can_say x)).0

record HasSize (n : ℕ) : Type 0 where
  low : 10 ≤ n
  high : n ≤ 12

option_size : (x : ℕ) → HasSize (length (option_made x))
option_size x =
    let cats = (label_made x).cats in
    let size = length-map-range_with_len (octet_of cats) 0 (octets_needed cats) in
    record { low = omega (arith, size); high = omega (arith, size, needs_two x) }

-- an area of options is a whole number of four octets
filled_up : (n : ℕ) → HasSize n → n + gap_to 4 0 (20 + n) ≡ 12
filled_up n size = omega (arith, size.low, size.high)

pub forty : (x : ℕ) → length (packet_made x) ≡ 40
unfolding packet_made
forty x =
    let option = option_made x in
    octets_are (source_made x) option ∙ ap (λ (n : ℕ). 28 + n) (filled_up (length option) (option_size x))

-- four octets as an address
address : (n : ℕ) → n < 256 → IsOctets (10 ∷ 0 ∷ 0 ∷ n ∷ [])
address n low = octets-cons 10 _ (omega arith) (octets-cons 0 _ (omega arith) (octets-cons 0 _ (omega arith) (octets-cons n _ low (octets-zeros 0))))

is_writable : (x : ℕ) → IsWritable (packet_said x)
is_writable x = record {
  headers = record {
    class = omega arith;
    hops = omega arith;
    protocol = omega arith;
    fields = (omega arith, omega arith, refl, refl, refl);
    source = address (source_made x) (omega arith);
    destination = address 2 (omega arith);
    label = tt;
    others = All-nil (IsKept V4);
  };
  label = can_say x;
}

pub reads_back : (x : ℕ) → IsPacket (packet_made x) (packet_said x)
unfolding packet_made
reads_back x =
    let option = option_made x in
    let size = option_size x in
    let room : rebuilt_room (headers_made x) ≤ 40 = omega (arith, room_is (datagram_fields (source_made x)) option empty_datagram, size.high) in
    let long : rebuilt_length (headers_made x) ≤ 65535 = omega (arith, length_is (datagram_fields (source_made x)) option empty_datagram, filled_up (length option) size) in
    written_packet_reads_back (packet_said x) (Ok (packet_said x)) (is_writable x) room long refl
