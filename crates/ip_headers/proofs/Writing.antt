-- A packet written, part by part.
use Rattle.std.proofs.Common.{◌≡◌, ℕ, ◌+◌, ◌-◌, ◌/◌, ◌%◌, ◌≤◌, ◌≢◌, Bool, true, false, cond, eqb, ne_eqb, ◌||◌, List, [], ◌∷◌, ◌++◌, length, Option, Some, None, refl, sym, ap, ◌∙◌, append_assoc, arith, length-append}
use Rattle.std.proofs.lemmas.List.{append-nil}
use Rattle.std.specs.Prelude.{IfSome, slice_index}
use Rattle.std.specs.Borrow.{Bor}
use Rattle.std.specs.Option.{option_copied}
use Rattle.ip_headers.specs.declared.version.Version.{Version}
use Rattle.ip_headers.specs.declared.version.Version.TheVariants.{V4, V6}
use Rattle.ip_headers.specs.declared.fields.Fields4.{Fields4}
use Rattle.ip_headers.specs.declared.fields.Fields6.{Fields6}
use Rattle.ip_headers.specs.Options.{Placed, has_any}
use Rattle.ip_headers.specs.Reading.{first_place}
use Rattle.ip_headers.specs.Fields.{packet4, packet6}
use Rattle.ip_headers.specs.Written.{gap_to, padding, packed, unit_of, filled, label_octets, kept_options, option_area, hop_by_hop_with, hop_by_hop, has_options, next_header, fixed4, fixed6, header4, checksum4, packet_octets, first_option, rebuilt_room, rebuilt_length, IsLabelOption}
use Rattle.ip_headers.specs.Swapped.{IsWholeOption}
use Rattle.ip_headers.specs.inside.Write.{octets_or_none, area_with, writes_any, hop_size, hop_of, put_checksum4}
use Rattle.ip_headers.proofs.Walks.{is_some-map}
use Rattle.ip_headers.proofs.Layouts.{length-padding}

-- an option that is written is short
pub whole_small : (option : Option (Bor (List ℕ))) → IfSome option (λ o. IsWholeOption o.now) → length (octets_or_none (option_copied option)) ≤ 40
whole_small None h = omega arith
whole_small (Some o) h = h.short

-- a label option is one
pub label_whole : (option : Option (Bor (List ℕ))) → IfSome option (λ o. IsLabelOption V4 o.now) → IfSome option (λ o. IsWholeOption o.now)
label_whole None h = tt
label_whole (Some o) h = let exact : slice_index o.now 1 + 0 ≡ length o.now = h.exact in record { long = h.long; short = h.short; exact = omega (arith, exact) }

label_octets-is : (version : Version) (option : Option (List ℕ)) → label_octets (first_option version option) ≡ octets_or_none option
label_octets-is version None = refl
label_octets-is version (Some o) = refl

-- what stands before the options, then the label, the kept options and the padding, in as many writes
pub area_from : (version : Version) (front label labelled kept out : List ℕ) (others : List Placed) → length front ≡ first_place version
    → labelled ≡ front ++ label → kept ≡ labelled ++ packed version (length labelled) others → out ≡ kept ++ padding version (gap_to (unit_of version) 0 (length kept))
    → out ≡ front ++ filled version (first_place version) (label ++ packed version (first_place version + length label) others)
area_from version front label labelled kept out others long labelled_is kept_is out_is =
    let first = first_place version in
    let k1 : length labelled ≡ first + length label = ap length labelled_is ∙ length-append front label ∙ ap (λ (n : ℕ). n + length label) long in
    let packed_label = packed version (first + length label) others in
    let kept2 : kept ≡ front ++ (label ++ packed_label) = kept_is ∙ (λ i. labelled_is i ++ packed version (k1 i) others) ∙ append_assoc front label packed_label in
    let k2 : length kept ≡ first + length (label ++ packed_label) = ap length kept2 ∙ length-append front (label ++ packed_label) ∙ ap (λ (n : ℕ). n + length (label ++ packed_label)) long in
    out_is ∙ (λ i. kept2 i ++ padding version (gap_to (unit_of version) 0 (k2 i))) ∙ append_assoc front (label ++ packed_label) (padding version (gap_to (unit_of version) 0 (first + length (label ++ packed_label))))

-- the options with the padding after them
pub length-area : (version : Version) (option : Option (List ℕ)) (others : List Placed) (label kept size : ℕ) → label ≡ length (octets_or_none option)
    → kept ≡ label + length (packed version (first_place version + label) others)
    → size ≡ kept + gap_to (unit_of version) 0 (first_place version + kept)
    → (kept ≡ length (octets_or_none option ++ packed version (first_place version + length (octets_or_none option)) others)) × (size ≡ length (area_with version option others))
length-area version option others label kept size label_is kept_is size_is =
    let first = first_place version in
    let options = octets_or_none option ++ packed version (first + length (octets_or_none option)) others in
    let kept_long : kept ≡ length options =
    kept_is ∙ ap (λ (n : ℕ). n + length (packed version (first + n) others)) label_is ∙ sym (length-append (octets_or_none option) (packed version (first + length (octets_or_none option)) others)) in (
      kept_long,
      size_is ∙ ap (λ (n : ℕ). n + gap_to (unit_of version) 0 (first + n)) kept_long
          ∙ ap (λ (n : ℕ). length options + n) (sym (length-padding version (gap_to (unit_of version) 0 (first + length options))))
          ∙ sym (length-append options (padding version (gap_to (unit_of version) 0 (first + length options)))),
    )

-- ---- version 4

module _ (f : Fields4) (option : Option (List ℕ)) (others : List Placed) (payload : List ℕ) where
  kept4 : kept_options (packet4 f option others payload) ≡ octets_or_none option ++ packed V4 (20 + length (octets_or_none option)) others
  unfolding kept_options
  kept4 = ap (λ (l : List ℕ). l ++ packed V4 (20 + length l) others) (label_octets-is V4 option)

  area4 : option_area (packet4 f option others payload) ≡ area_with V4 option others
  area4 = ap (filled V4 20) kept4

  pub room4 : (kept : ℕ) → kept ≡ length (octets_or_none option ++ packed V4 (20 + length (octets_or_none option)) others) → kept ≡ rebuilt_room (packet4 f option others payload)
  unfolding rebuilt_room
  room4 kept e = e ∙ ap length (sym kept4)

  pub area_size4 : (size : ℕ) → size ≡ length (area_with V4 option others) → size ≡ length (option_area (packet4 f option others payload))
  area_size4 size e = e ∙ ap length (sym area4)

  pub length4 : (size : ℕ) → size ≡ length (area_with V4 option others) → rebuilt_length (packet4 f option others payload) ≡ 20 + size + length payload
  unfolding rebuilt_length
  length4 size e = ap (λ (n : ℕ). 20 + n + length payload) (sym (area_size4 size e))

  pub header_from4 : (size : ℕ) (front labelled kept out : List ℕ) → length front ≡ 20 → front ≡ fixed4 (packet4 f None [] payload) size 0
      → labelled ≡ front ++ octets_or_none option → kept ≡ labelled ++ packed V4 (length labelled) others
      → size ≡ length (option_area (packet4 f option others payload))
      → out ≡ kept ++ padding V4 (gap_to 4 0 (length kept)) → out ≡ header4 (packet4 f option others payload) 0
  header_from4 size front labelled kept out long front_is labelled_is kept_is size_is out_is =
      let area = area_from V4 front (octets_or_none option) labelled kept out others long labelled_is kept_is out_is in
      let fixed_is : front ≡ fixed4 (packet4 f option others payload) (length (option_area (packet4 f option others payload))) 0 = front_is ∙ ap (λ (n : ℕ). fixed4 (packet4 f None [] payload) n 0) size_is in
      area ∙ (λ i. fixed_is i ++ sym area4 i)

  -- a header with its checksum, and the payload
  pub with_checksum4 : (header checked out : List ℕ) → header ≡ header4 (packet4 f option others payload) 0 → checked ≡ put_checksum4 header → out ≡ checked ++ payload → out ≡ packet_octets (packet4 f option others payload)
  unfolding packet_octets
  with_checksum4 header checked out header_is checked_is out_is =
      let set_is : checked ≡ header4 (packet4 f option others payload) (checksum4 (packet4 f option others payload)) = checked_is ∙ ap put_checksum4 header_is in
      out_is ∙ ap (λ (h : List ℕ). h ++ payload) set_is

-- ---- version 6

-- what a gap is for
gap_8 : (free : ℕ) → (free + gap_to 8 0 free) % 8 ≡ 0
gap_8 free = omega arith

-- a list of options ends where a header may end
area6_unit : (option : Option (List ℕ)) (others : List Placed) → (2 + length (area_with V6 option others)) % 8 ≡ 0
area6_unit option others =
    let options = octets_or_none option ++ packed V6 (42 + length (octets_or_none option)) others in
    let long : length (area_with V6 option others) ≡ length options + gap_to 8 0 (42 + length options) =
    length-append options (padding V6 (gap_to 8 0 (42 + length options))) ∙ ap (λ (n : ℕ). length options + n) (length-padding V6 (gap_to 8 0 (42 + length options))) in
    omega (arith, long, gap_8 (42 + length options))

-- no option, no header
size_none : (any : Bool) (area : List ℕ) (protocol size : ℕ) → size ≡ cond any (2 + length area) 0 → size ≡ 0 → hop_by_hop_with any protocol area ≡ []
size_none true area protocol size size_is none = absurd (omega (arith, size_is, none))
size_none false area protocol size size_is none = refl

size_some : (any : Bool) (area : List ℕ) (size : ℕ) → (2 + length area) % 8 ≡ 0 → size ≡ cond any (2 + length area) 0 → size ≢ 0 → (any ≡ true) × (size ≡ 2 + length area) × (8 ≤ size)
size_some true area size unit size_is some = (refl, size_is, omega (arith, size_is))
size_some false area size unit size_is some = absurd (some size_is)

length-hop_by_hop_with : (any : Bool) (protocol : ℕ) (area : List ℕ) → length (hop_by_hop_with any protocol area) ≡ cond any (2 + length area) 0
length-hop_by_hop_with true protocol area = omega arith
length-hop_by_hop_with false protocol area = refl

-- the next header, by the size of the Hop-by-Hop header
next_if : (any : Bool) (area : List ℕ) (size protocol : ℕ) → size ≡ cond any (2 + length area) 0 → cond (eqb size 0) protocol 0 ≡ cond any 0 protocol
next_if true area size protocol size_is = rw (ne_eqb size 0 (omega (arith, size_is))) refl
next_if false area size protocol size_is = rw size_is refl

module _ (option : Option (List ℕ)) (others : List Placed) where
  pub no_hop : (protocol size : ℕ) (old : List ℕ) → size ≡ hop_size option others → size ≡ 0 → old ≡ old ++ hop_of protocol option others
  no_hop protocol size old size_is none = rw (size_none (writes_any option others) (area_with V6 option others) protocol size size_is none) (sym (append-nil old))

  pub some_hop : (size : ℕ) → size ≡ hop_size option others → size ≢ 0 → 8 ≤ size
  some_hop size size_is some = (size_some (writes_any option others) (area_with V6 option others) size (area6_unit option others) size_is some).2

  -- the header in as many writes
  pub hop_from : (protocol size : ℕ) (old one front labelled kept out : List ℕ) → length old ≡ 40 → size ≡ hop_size option others → size ≢ 0
      → one ≡ old ++ protocol ∷ [] → front ≡ one ++ (size / 8 - 1) ∷ []
      → labelled ≡ front ++ octets_or_none option → kept ≡ labelled ++ packed V6 (length labelled) others
      → out ≡ kept ++ padding V6 (gap_to 8 0 (length kept)) → out ≡ old ++ hop_of protocol option others
  hop_from protocol size old one front labelled kept out long size_is some one_is front_is labelled_is kept_is out_is =
      let area = area_with V6 option others in
      let whole = size_some (writes_any option others) area size (area6_unit option others) size_is some in
      let x = size / 8 - 1 in
      let front2 : front ≡ old ++ protocol ∷ x ∷ [] = front_is ∙ ap (λ (l : List ℕ). l ++ x ∷ []) one_is ∙ append_assoc old (protocol ∷ []) (x ∷ []) in
      let front_long : length front ≡ 42 = ap length front2 ∙ length-append old (protocol ∷ x ∷ []) ∙ omega (arith, long) in
      let all = area_from V6 front (octets_or_none option) labelled kept out others front_long labelled_is kept_is out_is in
      all ∙ ap (λ (l : List ℕ). l ++ area) front2 ∙ append_assoc old (protocol ∷ x ∷ []) area
      ∙ ap (λ (n : ℕ). old ++ protocol ∷ (n / 8 - 1) ∷ area) whole.1
      ∙ ap (λ (b : Bool). old ++ hop_by_hop_with b protocol area) (sym whole.0)

  module _ (f : Fields6) (payload : List ℕ) where
    any6 : has_options (packet6 f option others payload) ≡ writes_any option others
    any6 = ap (λ (b : Bool). b || has_any others) (is_some-map (λ o. let p : Placed = record { place = 42; octets = o } in p) option)

    hop6 : hop_by_hop (packet6 f option others payload) ≡ hop_of f.protocol option others
    unfolding hop_by_hop kept_options
    hop6 i = hop_by_hop_with (any6 i) f.protocol (filled V6 42 (label_octets-is V6 option i ++ packed V6 (42 + length (label_octets-is V6 option i)) others))

    size6 : (size : ℕ) → size ≡ hop_size option others → size ≡ length (hop_by_hop (packet6 f option others payload))
    size6 size e = e ∙ sym (ap length hop6 ∙ length-hop_by_hop_with (writes_any option others) f.protocol (area_with V6 option others))

    pub room6 : (size : ℕ) → size ≡ hop_size option others → size ≡ rebuilt_room (packet6 f option others payload)
    unfolding rebuilt_room
    room6 size e = size6 size e

    pub length6 : (size : ℕ) → size ≡ hop_size option others → rebuilt_length (packet6 f option others payload) ≡ size + length payload
    unfolding rebuilt_length
    length6 size e = ap (λ (n : ℕ). n + length payload) (sym (size6 size e))

    pub octets6 : (size : ℕ) (fixed hop out : List ℕ) → size ≡ hop_size option others → fixed ≡ fixed6 (packet6 f None [] payload) size (cond (eqb size 0) f.protocol 0)
        → hop ≡ fixed ++ hop_of f.protocol option others → out ≡ hop ++ payload → out ≡ packet_octets (packet6 f option others payload)
    unfolding packet_octets
    octets6 size fixed hop out size_is fixed_is hop_is out_is =
        let p = packet6 f option others payload in
        let next : cond (eqb size 0) f.protocol 0 ≡ next_header p = next_if (writes_any option others) (area_with V6 option others) size f.protocol size_is ∙ ap (λ (b : Bool). cond b 0 f.protocol) (sym any6) in
        let fixed_at : fixed ≡ fixed6 p (length (hop_by_hop p)) (next_header p) = fixed_is ∙ (λ i. fixed6 p (size6 size size_is i) (next i)) in
        out_is ∙ (λ i. (hop_is ∙ (λ j. fixed_at j ++ sym hop6 j)) i ++ payload)
