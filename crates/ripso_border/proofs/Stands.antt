-- The options of a header of version 4 stand in its 60 octets.
use Rattle.std.proofs.Common.{◌≡◌, ℕ, zero, suc, ◌+◌, ◌%◌, ◌≤◌, Bool, true, false, ◌&&◌, ◌||◌, cond, leb, List, [], ◌∷◌, length, get_or, take, drop, refl, ap, subst, ◌∙◌, arith, length-take, length-drop}
use Rattle.std.specs.Prelude.{Option, Some, None, Ok, filter, map, slice_index}
use Rattle.std.specs.List.{All}
use Rattle.std.proofs.lemmas.Bool.Decides.{nat_tests}
use Rattle.std.proofs.lemmas.List.Elements.{All-nil, All-cons, All-head, All-tail, All-filter}
use Rattle.ip_headers.specs.declared.version.Version.{Version}
use Rattle.ip_headers.specs.declared.version.Version.TheVariants.{V4, V6}
use Rattle.ip_headers.specs.Options.{Placed, announced, ends_list, is_whole, is_single, type_octet, uncounted, options_within, is_other, aligned, others_of}
use Rattle.ip_headers.specs.Packet.{Headers}
use Rattle.ip_headers.specs.Header4.{header_length, head4}
use Rattle.ip_headers.specs.Reading.{front_of, options_of}
use Rattle.packet_label.specs.Choice.{chosen, read_in, front_in}
use Rattle.ripso_border.specs.inside.Steps.{ArePlaced}
use Rattle.ripso_border.proofs.Back.{unless_is}

abbrev IsBelow : Placed → Type 0
IsBelow option = option.place + length option.octets ≤ 60

abbrev Ends : ℕ → List ℕ → Type 0
Ends place octets = 1 ≤ length octets → place + length octets ≤ 60

some_octets : (octets : List ℕ) → ends_list V4 octets ≡ false → 1 ≤ length octets
some_octets [] e = absurd cc
some_octets (t ∷ octets) e = omega arith

bounds : (single : Bool) (counted n : ℕ) → 1 ≤ n → single || leb 2 (cond single 1 counted) && leb (cond single 1 counted) n ≡ true → (1 ≤ cond single 1 counted) × (cond single 1 counted ≤ n)
bounds true counted n some e = (omega arith, some)
bounds false counted n some e = (grind (arith, nat_tests), grind (arith, nat_tests))

option_size : (octets : List ℕ) → ends_list V4 octets ≡ false → is_whole V4 octets ≡ true → (1 ≤ announced V4 octets) × (announced V4 octets ≤ length octets)
option_size octets e w = bounds (is_single V4 (type_octet octets)) (get_or octets 1 0 + uncounted V4) (length octets) (some_octets octets e) w

below : (n place : ℕ) (octets : List ℕ) → Ends place octets → All IsBelow (options_within n V4 place octets).options
unfolding options_within
below zero place octets ends = All-nil IsBelow
below (suc n) place octets ends =
    by_front (ends_list V4 octets) (is_whole V4 octets) refl refl (λ more. below n (place + announced V4 octets) (drop (announced V4 octets) octets) more) where
      by_front : (e w : Bool) → ends_list V4 octets ≡ e → is_whole V4 octets ≡ w
          → (Ends (place + announced V4 octets) (drop (announced V4 octets) octets) → All IsBelow (options_within n V4 (place + announced V4 octets) (drop (announced V4 octets) octets)).options)
          → All IsBelow (options_within (suc n) V4 place octets).options
      by_front true w ie iw next = rw ie (All-nil IsBelow)
      by_front false false ie iw next = rw (ie, iw) (All-nil IsBelow)
      by_front false true ie iw next =
          let s = option_size octets ie iw in
          let here : IsBelow (record { place = place; octets = take (announced V4 octets) octets }) = omega (arith, length-take (announced V4 octets) octets, s.0, s.1, ends (omega (arith, s.0, s.1))) in
          let behind : Ends (place + announced V4 octets) (drop (announced V4 octets) octets) = λ some. omega (arith, s.0, s.1, ends (omega (arith, s.0, s.1)), length-drop (announced V4 octets) octets) in
          rw (ie, iw) (All-cons IsBelow (record { place = place; octets = take (announced V4 octets) octets }) (options_within n V4 (place + announced V4 octets) (drop (announced V4 octets) octets)).options here (next behind))

head_ends : (octets : List ℕ) → Ends 20 (drop 20 (head4 octets))
head_ends octets some =
    let low : slice_index octets 0 % 16 ≤ 15 = omega arith in
    omega (arith, low, some, length-drop 20 (head4 octets), length-take (header_length octets) octets)

aligned_below : (options : List Placed) → All IsBelow options → All IsBelow (map (aligned V4) options)
aligned_below [] all = All-nil IsBelow
aligned_below (o ∷ options) all = All-cons IsBelow o (map (aligned V4) options) (All-head IsBelow o options all) (aligned_below options (All-tail IsBelow o options all))

others_below : (options : List Placed) → All IsBelow options → All IsBelow (others_of V4 options)
others_below options all = aligned_below (filter (is_other V4) options) (All-filter (is_other V4) IsBelow options all)

front_below : (octets : List ℕ) (h : Headers) (version : Option Version) → h.version ≡ V4 → read_in front_of version octets ≡ Ok h → All IsBelow h.others
unfolding front_of
front_below octets h None v e = absurd (cc)
front_below octets h (Some V4) v e =
    let is = unless_is _ _ h e in
    subst (λ (x : Headers). All IsBelow x.others) is
    (others_below (options_of V4 (head4 octets)).options (below (length (drop 20 (head4 octets))) 20 (drop 20 (head4 octets)) (head_ends octets)))
front_below octets h (Some V6) v e =
    let is = unless_is _ _ h e in
    let six : V6 ≡ V4 = ap (λ (x : Headers). x.version) is ∙ v in
    absurd (cc)

pub others_placed : (octets : List ℕ) (h : Headers) → front_in octets ≡ Ok h → h.version ≡ V4 → ArePlaced h.others
others_placed octets h reads v = λ k d within. let at = front_below octets h (chosen octets) v reads k d within in omega (arith, at)
