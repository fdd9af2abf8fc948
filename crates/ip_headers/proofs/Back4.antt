-- A packet of version 4 that was written is read as the packet it was written from.
use Rattle.std.proofs.Common.{◌≡◌, ℕ, ◌+◌, ◌-◌, ◌*◌, ◌/◌, ◌%◌, ◌<◌, ◌≤◌, List, [], ◌∷◌, ◌++◌, length, take, drop, sum, None, Ok, refl, sym, ap, subst, ◌∙◌, append_assoc, arith, length-append, eq-eqb}
use Rattle.std.specs.Prelude.{slice_get, slice_range}
use Rattle.std.specs.Int.{w16, from_be_bytes}
use Rattle.std.specs.Option.{option_map}
use Rattle.std.proofs.lemmas.Bool.{le-ltb}
use Rattle.std.proofs.lemmas.List.{append-nil, take_at, drop_at}
use Rattle.std.proofs.lemmas.List.Sums.{sum_by-cons}
use Rattle.mls_label.specs.octet_grammar.Octets.{IsOctets}
use Rattle.mls_label.proofs.octet_grammar.Octets.{octets-append, octets-cons}
use Rattle.ip_headers.specs.declared.version.Version.{Version}
use Rattle.ip_headers.specs.declared.version.Version.TheVariants.{V4}
use Rattle.ip_headers.specs.Sum.{words_of, ones_sum}
use Rattle.ip_headers.specs.Options.{Placed, labels_of}
use Rattle.ip_headers.specs.Packet.{Headers}
use Rattle.ip_headers.specs.Header4.{version_number, header_length, total_length, fixed_fault4, payload4}
use Rattle.ip_headers.specs.Reading.{first_place, parsed, packet_of}
use Rattle.ip_headers.specs.Written.{gap_to, padding, unit_of, kept_options, option_area, label_octets, header4, checksum4, head_octets, others_at, settled, IsParsed, FitsFields, rebuilt_room, room_of, rebuilt_length}
use Rattle.ip_headers.proofs.Layouts.{length-padding}
use Rattle.ip_headers.specs.inside.Modulo.{modulo}
use Rattle.ip_headers.proofs.Sums.{sum_is, complement}
use Rattle.ip_headers.proofs.Back.{AreaBack, area_back, first_label, no_second, area_octets, reads_as}

-- ---- the tests of the fixed fields

passes4 : (octets : List ℕ) → 20 ≤ length octets → version_number octets ≡ 4 → 20 ≤ header_length octets → header_length octets ≤ total_length octets → total_length octets ≤ length octets
    → ones_sum (take (header_length octets) octets) ≡ 65535 → fixed_fault4 octets ≡ None
unfolding fixed_fault4
passes4 octets long version low total within sum_is =
    rw (
      le-ltb (length octets) 20 long,
      eq-eqb (version_number octets) 4 version,
      le-ltb (header_length octets) 20 low,
      le-ltb (total_length octets) (header_length octets) total,
      le-ltb (length octets) (total_length octets) within,
      eq-eqb (ones_sum (take (header_length octets) octets)) 65535 sum_is,
    ) refl

-- ---- the checksum

six : (a b c d e x : ℕ) (rest : List ℕ) → sum (a ∷ b ∷ c ∷ d ∷ e ∷ x ∷ rest) ≡ a + b + c + d + e + x + sum rest
six a b c d e x rest =
    let f : ℕ → ℕ = λ n. n in
    omega (arith, sum_by-cons f a (b ∷ c ∷ d ∷ e ∷ x ∷ rest), sum_by-cons f b (c ∷ d ∷ e ∷ x ∷ rest), sum_by-cons f c (d ∷ e ∷ x ∷ rest), sum_by-cons f d (e ∷ x ∷ rest), sum_by-cons f e (x ∷ rest), sum_by-cons f x rest)

-- the sum of a header with this checksum
summed : (p : Headers) (c : ℕ) → c < 65536 → (sum (words_of (header4 p c)) ≡ sum (words_of (header4 p 0)) + c) × (0 < sum (words_of (header4 p 0)))
summed p c small =
    let size = length (option_area p) in
    let word : ℕ → ℕ → ℕ = λ x y. from_be_bytes w16 (x ∷ y ∷ []) in
    let total = 20 + size + length p.payload in
    let rest = words_of (p.source ++ p.destination ++ option_area p) in
    let a = word (64 + (20 + size) / 4) p.class in
    let b = word (total / 256 % 256) (total % 256) in
    let d = word (p.identification / 256 % 256) (p.identification % 256) in
    let e = word (p.flags_offset / 256 % 256) (p.flags_offset % 256) in
    let f = word p.hops p.protocol in
    let one : sum (words_of (header4 p c)) ≡ a + b + d + e + f + word (c / 256 % 256) (c % 256) + sum rest = six a b d e f (word (c / 256 % 256) (c % 256)) rest in
    let two : sum (words_of (header4 p 0)) ≡ a + b + d + e + f + 0 + sum rest = six a b d e f 0 rest in
    let three : word (c / 256 % 256) (c % 256) ≡ c = omega (arith, small) in
    (omega (arith, one, two, three), omega (arith, two))

-- ---- the header of a packet

module _ (p : Headers) (v : p.version ≡ V4) (h : IsParsed p) where
  fields : FitsFields V4 p
  fields = subst (λ (w : Version). FitsFields w p) v h.fields

  area_size : length (option_area p) ≡ length (kept_options p) + gap_to 4 0 (20 + length (kept_options p))
  area_size =
      subst (λ (w : Version). length (option_area p) ≡ length (kept_options p) + gap_to (unit_of w) 0 (first_place w + length (kept_options p))) v
      (length-append (kept_options p) (padding p.version (gap_to (unit_of p.version) 0 (first_place p.version + length (kept_options p))))
      ∙ ap (λ (n : ℕ). length (kept_options p) + n) (length-padding p.version (gap_to (unit_of p.version) 0 (first_place p.version + length (kept_options p)))))

  module _ (room : rebuilt_room p ≤ 40) (long : rebuilt_length p ≤ 65535) where
    kept_small : length (kept_options p) ≤ 40
    unfolding rebuilt_room
    kept_small = subst (λ (w : Version). room_of w p ≤ 40) v room

    head_size : (20 + length (option_area p)) % 4 ≡ 0
    head_size = omega (arith, area_size)

    area_small : length (option_area p) ≤ 40
    area_small = omega (arith, area_size, kept_small)

    whole_small : 20 + length (option_area p) + length p.payload ≤ 65535
    unfolding rebuilt_length
    whole_small = subst (λ (w : Version). Rattle.ip_headers.specs.Written.length_of w p ≤ 65535) v long

    header_octets : (c : ℕ) → IsOctets (header4 p c)
    header_octets c =
        let size = length (option_area p) in
        let t = 20 + size + length p.payload in
        octets-cons (64 + (20 + size) / 4) _ (omega (arith, area_small)) (octets-cons p.class _ h.class
        (octets-cons (t / 256 % 256) _ (omega arith) (octets-cons (t % 256) _ (omega arith)
        (octets-cons (p.identification / 256 % 256) _ (omega arith) (octets-cons (p.identification % 256) _ (omega arith)
        (octets-cons (p.flags_offset / 256 % 256) _ (omega arith) (octets-cons (p.flags_offset % 256) _ (omega arith)
        (octets-cons p.hops _ h.hops (octets-cons p.protocol _ h.protocol
        (octets-cons (c / 256 % 256) _ (omega arith) (octets-cons (c % 256) _ (omega arith)
        (octets-append (p.source ++ p.destination) (option_area p) (octets-append p.source p.destination h.source h.destination) (area_octets p h)))))))))))))

    sum_is_whole : ones_sum (header4 p (checksum4 p)) ≡ 65535
    sum_is_whole =
        let total = sum (words_of (header4 p 0)) in
        let c : checksum4 p ≡ 65535 - modulo total = ap (λ (n : ℕ). 65535 - n) (sum_is (header4 p 0) (header_octets 0)) in
        let s = summed p (checksum4 p) (omega arith) in
        sum_is (header4 p (checksum4 p)) (header_octets (checksum4 p)) ∙ ap modulo (s.0 ∙ ap (λ (n : ℕ). total + n) c) ∙ complement total s.1

    length-header : length (header4 p (checksum4 p)) ≡ 20 + length (option_area p)
    length-header = omega (arith, length-append (p.source ++ p.destination) (option_area p), length-append p.source p.destination, fields.3, fields.4)

    head_is : header_length (header4 p (checksum4 p) ++ p.payload) ≡ 20 + length (option_area p)
    head_is = let n = (20 + length (option_area p)) / 4 in let e : 4 * ((64 + n) % 16) ≡ 20 + length (option_area p) = omega (arith, head_size, area_small) in e

    total_is : total_length (header4 p (checksum4 p) ++ p.payload) ≡ 20 + length (option_area p) + length p.payload
    total_is = let t = 20 + length (option_area p) + length p.payload in let e : from_be_bytes w16 (t / 256 % 256 ∷ t % 256 ∷ []) ≡ t = omega (arith, whole_small) in e

    octets_long : length (header4 p (checksum4 p) ++ p.payload) ≡ 20 + length (option_area p) + length p.payload
    octets_long = length-append (header4 p (checksum4 p)) p.payload ∙ ap (λ (n : ℕ). n + length p.payload) length-header

    front_is : take (header_length (header4 p (checksum4 p) ++ p.payload)) (header4 p (checksum4 p) ++ p.payload) ≡ header4 p (checksum4 p)
    front_is = ap (λ (n : ℕ). take n (header4 p (checksum4 p) ++ p.payload)) head_is ∙ take_at (header4 p (checksum4 p)) p.payload (20 + length (option_area p)) length-header

    version_is : version_number (header4 p (checksum4 p) ++ p.payload) ≡ 4
    version_is = let n = (20 + length (option_area p)) / 4 in let e : (64 + n) / 16 ≡ 4 = omega (arith, area_small) in e

    no_fault : fixed_fault4 (header4 p (checksum4 p) ++ p.payload) ≡ None
    no_fault = passes4 (header4 p (checksum4 p) ++ p.payload) (omega (arith, octets_long)) version_is (omega (arith, head_is)) (omega (arith, head_is, total_is)) (omega (arith, octets_long, total_is)) (ap ones_sum front_is ∙ sum_is_whole)

    area_is : drop 20 (header4 p (checksum4 p)) ≡ option_area p
    area_is = drop_at (p.source ++ p.destination) (option_area p) 8 (omega (arith, length-append p.source p.destination, fields.3, fields.4))

    payload_is : payload4 (header4 p (checksum4 p) ++ p.payload) ≡ p.payload
    payload_is =
        let e : total_length (header4 p (checksum4 p) ++ p.payload) - header_length (header4 p (checksum4 p) ++ p.payload) ≡ length p.payload = omega (arith, head_is, total_is) in
        (λ i. take (e i) (drop (head_is i) (header4 p (checksum4 p) ++ p.payload)))
        ∙ ap (take (length p.payload)) (drop_at (header4 p (checksum4 p)) p.payload (20 + length (option_area p)) length-header)
        ∙ ap (take (length p.payload)) (sym (append-nil p.payload)) ∙ take_at p.payload [] (length p.payload) refl

    back : AreaBack V4 20 (option_area p) p.label p.others
    unfolding kept_options
    back = subst (λ (w : Version). AreaBack w (first_place w) (option_area p) p.label p.others) v (area_back p.version p.label p.others (option_area p) (kept_options p) h.label h.others refl refl)

    source_is : slice_range (header4 p (checksum4 p)) 12 16 ≡ p.source
    source_is = ap (take 4) (append_assoc p.source p.destination (option_area p)) ∙ take_at p.source (p.destination ++ option_area p) 4 fields.3

    destination_is : slice_range (header4 p (checksum4 p)) 16 20 ≡ p.destination
    destination_is =
        ap (λ (x : List ℕ). take 4 (drop 4 x)) (append_assoc p.source p.destination (option_area p)) ∙ ap (take 4) (drop_at p.source (p.destination ++ option_area p) 4 fields.3)
        ∙ take_at p.destination (option_area p) 4 fields.4

    says : parsed V4 (header4 p (checksum4 p)) back.options p.payload ≡ settled p
    says =
        let label_is : option_map (λ o. let q : Placed = record { place = first_place p.version; octets = o.octets } in q) p.label ≡ slice_get (labels_of V4 back.options) 0 =
        ap (λ (w : Version). option_map (λ o. let q : Placed = record { place = first_place w; octets = o.octets } in q) p.label) v
        ∙ sym (ap (λ (x : List Placed). slice_get x 0) back.labels ∙ first_label 20 p.label) in
        let id_is : p.identification ≡ from_be_bytes w16 (p.identification / 256 % 256 ∷ p.identification % 256 ∷ []) = omega (arith, fields.0) in
        let flags_is : p.flags_offset ≡ from_be_bytes w16 (p.flags_offset / 256 % 256 ∷ p.flags_offset % 256 ∷ []) = omega (arith, fields.1) in
        let source = sym source_is in
        let destination = sym destination_is in
        let others_is : others_at p.version (first_place p.version + length (label_octets p.label)) p.others ≡ Rattle.ip_headers.specs.Options.others_of V4 back.options =
        ap (λ (w : Version). others_at w (first_place w + length (label_octets p.label)) p.others) v ∙ sym back.others_are in
        let flow : p.flow_label ≡ 0 = fields.2 in
        let e : settled p ≡ parsed V4 (header4 p (checksum4 p)) back.options p.payload =
        λ i. record {
          version = v i;
          class = p.class;
          identification = id_is i;
          flags_offset = flags_is i;
          flow_label = flow i;
          hops = p.hops;
          protocol = p.protocol;
          source = source i;
          destination = destination i;
          label = label_is i;
          others = others_is i;
          payload = p.payload;
        } in
        sym e

    pub reads_back4 : packet_of V4 (head_octets V4 p ++ p.payload) ≡ Ok (settled p)
    reads_back4 =
        reads_as V4 (header4 p (checksum4 p) ++ p.payload) (header4 p (checksum4 p)) p.payload back.options (settled p) no_fault front_is payload_is (ap (Rattle.ip_headers.specs.Options.options_from V4 20) area_is ∙ back.list)
        (rw back.jumbos refl) (rw (back.labels, no_second 20 p.label) refl) says
