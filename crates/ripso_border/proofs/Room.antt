-- What stands in the header of a packet of version 4, and how much room and length it takes without a label option.
use Rattle.std.proofs.Common.{◌≡◌, ℕ, zero, suc, ◌+◌, ◌-◌, ◌≤◌, Bool, true, false, not, ◌==◌, ◌||◌, cond, nat_lt, List, [], ◌∷◌, ◌++◌, length, take, drop, filter, map, replicate, refl, ap, subst, ◌∙◌, arith, length-append, length-take, length-drop}
use Rattle.std.specs.Prelude.{Option, Some, None, Ok, slice_get, slice_range}
use Rattle.std.specs.Option.{option_or}
use Rattle.std.proofs.lemmas.Bool.Decides.{nat_tests}
use Rattle.std.proofs.lemmas.List.{length-replicate}
use Rattle.ip_headers.specs.declared.version.Version.{Version}
use Rattle.ip_headers.specs.declared.version.Version.TheVariants.{V4, V6}
use Rattle.ip_headers.specs.declared.fault.HeadFault.{HeadFault}
use Rattle.ip_headers.specs.declared.fault.HeadKind.TheVariants.{Short, Version as VersionKind, HeaderLength, TotalLength, Checksum}
use Rattle.ip_headers.specs.Sum.{ones_sum}
use Rattle.ip_headers.specs.Options.{Placed, options_within, ends_list, is_whole, announced, is_label, is_other, labels_of, others_of, aligned, type_octet}
use Rattle.ip_headers.specs.Packet.{Headers}
use Rattle.ip_headers.specs.Header4.{version_number, header_length, total_length, payload4, head4, fixed_fault4}
use Rattle.ip_headers.specs.Reading.{first_place, front_of, unless, options_of, parsed}
use Rattle.ip_headers.specs.Written.{gap_to, filled, packed, kept_options, option_area, label_octets, rebuilt_room, rebuilt_length, room_of, length_of}
use Rattle.packet_label.specs.Choice.{chosen, read_in, front_in}

-- ---- options one behind another

abbrev pub total : List Placed → ℕ
total [] = 0
total (option ∷ options) = length option.octets + total options

listed_within : (n place : ℕ) (octets : List ℕ) → total ((options_within n V4 place octets).options) ≤ length octets
unfolding options_within
listed_within zero place octets = omega arith
listed_within (suc n) place octets =
    by_front (ends_list V4 octets) (is_whole V4 octets) refl refl (listed_within n (place + announced V4 octets) (drop (announced V4 octets) octets)) where
      by_front : (e w : Bool) → ends_list V4 octets ≡ e → is_whole V4 octets ≡ w
          → total ((options_within n V4 (place + announced V4 octets) (drop (announced V4 octets) octets)).options) ≤ length (drop (announced V4 octets) octets)
          → total ((options_within (suc n) V4 place octets).options) ≤ length octets
      by_front true w ie iw next = rw ie (omega arith)
      by_front false false ie iw next = rw (ie, iw) (omega arith)
      by_front false true ie iw next = rw (ie, iw) (omega (arith, next, length-take (announced V4 octets) octets, length-drop (announced V4 octets) octets))

-- a label option is no other one
no_label : (a b c : Bool) → not (a || b || c) ≡ true → c ≡ false
no_label true b c e = absurd (cc)
no_label false true c e = absurd (cc)
no_label false false true e = absurd (cc)
no_label false false false e = refl

part_step : (x y : Bool) (option : Placed) (others labels : List Placed) (rest : ℕ) → (x ≡ true → y ≡ false) → total others + total labels ≤ rest
    → total (cond x (option ∷ others) others) + total (cond y (option ∷ labels) labels) ≤ length option.octets + rest
part_step true true option others labels rest apart few = let no = apart refl in absurd (cc)
part_step true false option others labels rest apart few = omega (arith, few)
part_step false true option others labels rest apart few = omega (arith, few)
part_step false false option others labels rest apart few = omega (arith, few)

parts : (options : List Placed) → total (filter (is_other V4) options) + total (filter (is_label V4) options) ≤ total options
parts [] = omega arith
parts (option ∷ options) =
    part_step (is_other V4 option) (is_label V4 option) option (filter (is_other V4) options) (filter (is_label V4) options) (total options)
    (no_label (type_octet option.octets == 0) (type_octet option.octets == 1) (is_label V4 option)) (parts options)

unaligned : (options : List Placed) → total (map (aligned V4) options) ≡ total options
unaligned [] = refl
unaligned (option ∷ options) = ap (λ (n : ℕ). length option.octets + n) (unaligned options)

-- how long the label option is
abbrev pub label_long : Option Placed → ℕ
label_long None = 0
label_long (Some option) = length option.octets

first_long : (labels : List Placed) → label_long (slice_get labels 0) ≤ total labels
first_long [] = omega arith
first_long (option ∷ labels) = omega arith

-- written one behind another they are as long
no_gap : (place free : ℕ) → gap_to 1 place free ≡ 0
no_gap place free = omega arith

packed_long : (free : ℕ) (options : List Placed) → length (packed V4 free options) ≡ total options
unfolding packed
packed_long free [] = refl
packed_long free (option ∷ options) =
    let gap = gap_to 1 option.place free in
    let rest = packed V4 (free + gap + length option.octets) options in
    let first : length (packed V4 free (option ∷ options)) ≡ length ((replicate gap 0 ++ option.octets) ++ rest) = refl in
    let zeros : length (replicate {A = ℕ} gap 0) ≡ gap = length-replicate gap 0 in
    let none : gap ≡ 0 = no_gap option.place free in
    omega (arith, first, none, length-append (replicate gap 0 ++ option.octets) rest, length-append (replicate gap 0) option.octets, zeros, packed_long (free + gap + length option.octets) options)

-- ---- what is written without a label option

kept_by : (version : Version) (label : Option Placed) (others : List Placed) → version ≡ V4 → label ≡ None
    → length (label_octets label ++ packed version (first_place version + length (label_octets label)) others) ≡ total others
kept_by V4 None others is none = packed_long 20 others
kept_by V4 (Some option) others is none = absurd (cc)
kept_by V6 label others is none = absurd (cc)

room_by : (version : Version) (h : Headers) → version ≡ V4 → room_of version h ≡ length (kept_options h)
room_by V4 h is = refl
room_by V6 h is = absurd (cc)

area_by : (version : Version) (kept : List ℕ) → version ≡ V4 → length (filled version (first_place version) kept) ≡ length kept + gap_to 4 0 (20 + length kept)
area_by V4 kept is =
    let gap = gap_to 4 0 (20 + length kept) in
    length-append kept (replicate gap 0) ∙ ap (λ (n : ℕ). length kept + n) (length-replicate gap 0)
area_by V6 kept is = absurd (cc)

length_by : (version : Version) (h : Headers) → version ≡ V4 → length_of version h ≡ 20 + length (option_area h) + length h.payload
length_by V4 h is = refl
length_by V6 h is = absurd (cc)

module _ (h : Headers) (version : h.version ≡ V4) where
  pub length_of_area : rebuilt_length h ≡ 20 + length (option_area h) + length h.payload
  unfolding rebuilt_length
  length_of_area = length_by h.version h version

  module _ (none : h.label ≡ None) where
    kept_long : length (kept_options h) ≡ total h.others
    unfolding kept_options
    kept_long = kept_by h.version h.label h.others version none

    pub room_is : rebuilt_room h ≡ total h.others
    unfolding rebuilt_room
    room_is = room_by h.version h version ∙ kept_long

    pub length_is : rebuilt_length h ≡ 20 + (total h.others + gap_to 4 0 (20 + total h.others)) + length h.payload
    length_is = length_of_area ∙ ap (λ (n : ℕ). 20 + n + length h.payload) (area_by h.version (kept_options h) version ∙ ap (λ (n : ℕ). n + gap_to 4 0 (20 + n)) kept_long)

-- ---- what was read

-- the tests of the fixed fields have passed
pub record Passes (octets : List ℕ) : Type 0 where
  pub low : 20 ≤ header_length octets
  pub whole : header_length octets ≤ total_length octets

passes_by : (octets : List ℕ) (short other low total cut sum : Bool) (a b c d e : HeadFault) → nat_lt (header_length octets) 20 ≡ low → nat_lt (total_length octets) (header_length octets) ≡ total
    → cond short (Some a) (cond other (Some b) (cond low (Some c) (cond (total || cut) (Some d) (cond sum (Some e) None)))) ≡ None → Passes octets
passes_by octets true other low total cut sum a b c d e il it is = absurd (cc)
passes_by octets false true low total cut sum a b c d e il it is = absurd (cc)
passes_by octets false false true total cut sum a b c d e il it is = absurd (cc)
passes_by octets false false false true cut sum a b c d e il it is = absurd (cc)
passes_by octets false false false false true sum a b c d e il it is = absurd (cc)
passes_by octets false false false false false sum a b c d e il it is = record { low = grind (arith, nat_tests); whole = grind (arith, nat_tests) }

passes : (octets : List ℕ) → fixed_fault4 octets ≡ None → Passes octets
unfolding fixed_fault4
passes octets is =
    passes_by octets (nat_lt (length octets) 20) (not (version_number octets == 4)) (nat_lt (header_length octets) 20) (nat_lt (total_length octets) (header_length octets))
    (nat_lt (length octets) (total_length octets)) (not (ones_sum (take (header_length octets) octets) == 65535)) (record { octet = length octets; kind = Short }) (record { octet = 0; kind = VersionKind })
    (record { octet = 0; kind = HeaderLength }) (record { octet = 2; kind = TotalLength }) (record { octet = 10; kind = Checksum }) refl refl is

-- the headers of a packet of version 4 that was read: its options stand in its header, and its payload behind it
pub record IsRead (octets : List ℕ) (h : Headers) : Type 0 where
  pub low : 20 ≤ header_length octets
  pub room : 20 + total h.others + label_long h.label ≤ header_length octets
  pub long : header_length octets + length h.payload ≤ total_length octets
  pub source : length h.source ≤ 4
  pub destination : length h.destination ≤ 4

pub slice_long : (xs : List ℕ) (a b : ℕ) → length (slice_range xs a b) ≤ b - a
slice_long xs a b = omega (arith, length-take (b - a) (drop a xs))

abbrev head_options : List ℕ → List Placed
head_options octets = (options_of V4 (head4 octets)).options

abbrev said : List ℕ → Headers
said octets = parsed V4 (head4 octets) (head_options octets) (payload4 octets)

read_of : (octets : List ℕ) → Passes octets → IsRead octets (said octets)
read_of octets p =
    let options = head_options octets in
    let list = drop 20 (head4 octets) in
    let within : total options ≤ length list = listed_within (length list) 20 list in
    let size : length list ≤ header_length octets - 20 = omega (arith, length-drop 20 (head4 octets), length-take (header_length octets) octets) in
    let others : total (others_of V4 options) ≡ total (filter (is_other V4) options) = unaligned (filter (is_other V4) options) in
    record {
      low = p.low;
      room = omega (arith, p.low, within, size, others, parts options, first_long (labels_of V4 options));
      long = omega (arith, p.whole, slice_long octets (header_length octets) (total_length octets));
      source = slice_long (head4 octets) 12 16;
      destination = slice_long (head4 octets) 16 20;
    }

unless_is : (fault : Option HeadFault) (p h : Headers) → unless fault p ≡ Ok h → (fault ≡ None) × (p ≡ h)
unless_is None p h e = (refl, cc)
unless_is (Some fault) p h e = absurd (cc)

first_none : (a b : Option HeadFault) → option_or a b ≡ None → a ≡ None
first_none None b e = refl
first_none (Some fault) b e = absurd (cc)

read_by : (octets : List ℕ) (h : Headers) (version : Option Version) → h.version ≡ V4 → read_in front_of version octets ≡ Ok h → IsRead octets h
unfolding front_of
read_by octets h None v e = absurd (cc)
read_by octets h (Some V6) v e =
    let six : V6 ≡ V4 = ap (λ (x : Headers). x.version) (unless_is _ _ h e).1 ∙ v in
    absurd (cc)
read_by octets h (Some V4) v e =
    let is = unless_is _ _ h e in
    subst (IsRead octets) is.1 (read_of octets (passes octets (first_none (fixed_fault4 octets) _ is.0)))

pub reads_version_4 : (octets : List ℕ) (h : Headers) → h.version ≡ V4 → front_in octets ≡ Ok h → IsRead octets h
reads_version_4 octets h v e = read_by octets h (chosen octets) v e
