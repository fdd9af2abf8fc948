-- Worked values: a packet by its label and its source, and the first packet from the number 1.
use Rattle.std.proofs.Common.{◌≡◌, ℕ, false, List, [], ◌∷◌, ◌++◌, refl, sym, ap, ◌∙◌, arith}
use Rattle.mls_label.specs.declared.label.Label.{Label}
use Rattle.mls_label.specs.declared.label.Tag.TheVariants.{One}
use Rattle.mls_label.specs.Cats.{IsCats}
use Rattle.mls_label.specs.category_bitmap.Bitmap.{bitmap_cats, bitmap_of, octet_of}
use Rattle.mls_label.proofs.category_bitmap.Law.{written_bitmap_reads_back}
use Rattle.cipso_option.specs.Text.{cipso_text}
use Rattle.ip_headers.specs.Sum.{ones_sum}
use Rattle.ip_headers.specs.Written.{packed, kept_options, packet_octets}
use Rattle.pcap_frames.specs.Written.{capture_head_octets, frame_octets}
use Rattle.made_run.specs.made_capture.Number.{next_number, number_at}
use Rattle.made_run.specs.made_capture.Packet.{datagram_with, label_made, packet_made}
use Rattle.made_run.specs.made_capture.Capture.{capture_made}

-- level 2, categories 1 and 3, from 10.0.0.1
worked : packet_octets (datagram_with 1 (cipso_text 16 One (record { level = 2; cats = 1 ∷ 3 ∷ [] })))
    ≡ 0x48 ∷ 0x00 ∷ 0x00 ∷ 0x28 ∷ 0x00 ∷ 0x00 ∷ 0x00 ∷ 0x00 ∷ 0x40 ∷ 0x11 ∷ 0x8c ∷ 0xa0 ∷ 0x0a ∷ 0x00 ∷ 0x00 ∷ 0x01 ∷ 0x0a ∷ 0x00 ∷ 0x00 ∷ 0x02
    ∷ 0x86 ∷ 0x0b ∷ 0x00 ∷ 0x00 ∷ 0x00 ∷ 0x10 ∷ 0x01 ∷ 0x05 ∷ 0x00 ∷ 0x02 ∷ 0x50 ∷ 0x00 ∷ 0x03 ∷ 0xe8 ∷ 0x00 ∷ 0x35 ∷ 0x00 ∷ 0x08 ∷ 0x00 ∷ 0x00 ∷ []
unfolding packet_octets kept_options packed ones_sum octet_of
worked = refl

first_number : number_at 1 1 ≡ 0x6C576FAC43FD007C
first_number = refl

second_number : next_number 0x6C576FAC43FD007C ≡ 0x826886B3864A1B1B
second_number = refl

-- its bitmap is 57 6f
abbrev first_cats : List ℕ
first_cats = 1 ∷ 3 ∷ 5 ∷ 6 ∷ 7 ∷ 9 ∷ 10 ∷ 12 ∷ 13 ∷ 14 ∷ 15 ∷ []

bitmap_is : bitmap_of first_cats 2 ≡ 0x57 ∷ 0x6f ∷ []
unfolding octet_of
bitmap_is = refl

first_label : label_made 0x6C576FAC43FD007C ≡ record { level = 0; cats = first_cats }
first_label =
    let ascends : IsCats first_cats = (
      omega arith,
      omega arith,
      (
        omega arith,
        omega arith,
        (
          omega arith,
          omega arith,
          (
            omega arith,
            omega arith,
            (
              omega arith,
              omega arith,
              (omega arith, omega arith, (omega arith, omega arith, (omega arith, omega arith, (omega arith, omega arith, (omega arith, omega arith, (omega arith, omega arith, tt)))))),
            ),
          ),
        ),
      ),
    ) in
    let cats : bitmap_cats (0x57 ∷ 0x6f ∷ []) ≡ first_cats = ap bitmap_cats (sym bitmap_is) ∙ written_bitmap_reads_back first_cats 2 ascends (omega arith) in
    ap (λ (cats : List ℕ). let label : Label = record { level = 0; cats = cats } in label) cats

abbrev first : List ℕ
first =
    0x48 ∷ 0x00 ∷ 0x00 ∷ 0x28 ∷ 0x00 ∷ 0x00 ∷ 0x00 ∷ 0x00 ∷ 0x40 ∷ 0x11 ∷ 0x84 ∷ 0x86 ∷ 0x0a ∷ 0x00 ∷ 0x00 ∷ 0xac ∷ 0x0a ∷ 0x00 ∷ 0x00 ∷ 0x02
    ∷ 0x86 ∷ 0x0c ∷ 0x00 ∷ 0x00 ∷ 0x00 ∷ 0x10 ∷ 0x01 ∷ 0x06 ∷ 0x00 ∷ 0x00 ∷ 0x57 ∷ 0x6f ∷ 0x03 ∷ 0xe8 ∷ 0x00 ∷ 0x35 ∷ 0x00 ∷ 0x08 ∷ 0x00 ∷ 0x00 ∷ []

written : packet_octets (datagram_with 0xac (cipso_text 16 One (record { level = 0; cats = first_cats }))) ≡ first
unfolding packet_octets kept_options packed ones_sum octet_of
written = refl

first_packet : packet_made 0x6C576FAC43FD007C ≡ first
unfolding packet_made
first_packet = ap (λ label. packet_octets (datagram_with 0xac (cipso_text 16 One label))) first_label ∙ written

-- its capture, whose record is of second 1
first_capture : capture_made 1 1
    ≡ 0xd4 ∷ 0xc3 ∷ 0xb2 ∷ 0xa1 ∷ 2 ∷ 0 ∷ 4 ∷ 0 ∷ 0 ∷ 0 ∷ 0 ∷ 0 ∷ 0 ∷ 0 ∷ 0 ∷ 0 ∷ 0 ∷ 0 ∷ 4 ∷ 0 ∷ 0x65 ∷ 0 ∷ 0 ∷ 0
    ∷ 1 ∷ 0 ∷ 0 ∷ 0 ∷ 0 ∷ 0 ∷ 0 ∷ 0 ∷ 0x28 ∷ 0 ∷ 0 ∷ 0 ∷ 0x28 ∷ 0 ∷ 0 ∷ 0 ∷ first
unfolding capture_head_octets frame_octets
first_capture = ap (λ packet. capture_head_octets false ++ (frame_octets (record { seconds = 1; fraction = 0 }) packet ++ [])) first_packet
