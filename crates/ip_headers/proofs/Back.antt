-- What is written is read again: the options of a written header, one after another.
use Rattle.std.proofs.Common.{◌≡◌, ℕ, zero, suc, ◌+◌, ◌%◌, ◌<◌, ◌≤◌, Bool, true, false, not, ◌&&◌, ◌||◌, eqb, leb, get_or, List, [], ◌∷◌, ◌++◌, length, All, map, filter, replicate, Option, Some, None, Ok, refl, sym, ap, ◌∙◌, append_assoc, arith, length-append}
use Rattle.std.specs.Prelude.{slice_get, IfSome}
use Rattle.std.proofs.lemmas.Bool.Decides.{nat_tests}
use Rattle.std.specs.Option.{option_map}
use Rattle.std.specs.List.{concat}
use Rattle.std.proofs.lemmas.List.{append-nil, length-replicate, map-append}
use Rattle.std.proofs.lemmas.List.Elements.{All-nil, All-cons, All-append, All-head, All-tail, filter-append}
use Rattle.ip_headers.specs.declared.version.Version.{Version}
use Rattle.ip_headers.specs.declared.version.Version.TheVariants.{V4, V6}
use Rattle.mls_label.specs.octet_grammar.Octets.{IsOctets}
use Rattle.ip_headers.specs.Options.{Placed, IsOption, ends_list, options_from, type_octet, is_label, is_jumbo, is_other, aligned, labels_of, others_of}
use Rattle.mls_label.proofs.octet_grammar.Octets.{octets-append, octets-cons, octets-zeros}
use Rattle.ip_headers.specs.Packet.{Headers}
use Rattle.ip_headers.specs.Reading.{first_place, fixed_fault, head_of, payload_of, options_of, jumbo_fault, second_fault, parsed, packet_of}
use Rattle.ip_headers.specs.Written.{alignment, gap_to, padding, packed, unit_of, filled, label_octets, kept_options, option_area, in_turn, others_at, IsLabelOption, IsKept, IsParsed}
use Rattle.ip_headers.proofs.Lists.{placed_from, listed_whole}
use Rattle.ip_headers.proofs.Layouts.{length-padding}

-- ---- padding as options

-- the padding options of a gap, and what stands behind the last option
pad_options : Version → ℕ → List (List ℕ)
pad_options V4 n = []
pad_options V6 zero = []
pad_options V6 (suc zero) = (0 ∷ []) ∷ []
pad_options V6 (suc (suc n)) = (1 ∷ n ∷ replicate n 0) ∷ []

pad_rest : Version → ℕ → List ℕ
pad_rest V4 n = replicate n 0
pad_rest V6 n = []

padding-is : (version : Version) (n : ℕ) → padding version n ≡ concat (pad_options version n) ++ pad_rest version n
unfolding pad_options pad_rest
padding-is V4 n = refl
padding-is V6 zero = refl
padding-is V6 (suc zero) = refl
padding-is V6 (suc (suc n)) = ap (λ (x : List ℕ). 1 ∷ n ∷ x) (sym (append-nil (replicate n 0)) ∙ ap (λ (x : List ℕ). x) (sym (append-nil (replicate n 0 ++ []))))

is_pad_n : (n : ℕ) → IsOption V6 (1 ∷ n ∷ replicate n 0)
is_pad_n n =
    let long : n + 2 ≡ length (1 ∷ n ∷ replicate n 0) = omega (arith, length-replicate {A = ℕ} n 0) in
    record { goes_on = refl; whole = pad_whole (n + 2) (length (1 ∷ n ∷ replicate n 0)) (omega arith) (omega (arith, long)); exact = long } where
      pad_whole : (a m : ℕ) → 2 ≤ a → a ≤ m → leb 2 a && leb a m ≡ true
      pad_whole a m low high = grind (arith, nat_tests)

is_pad_1 : IsOption V6 (0 ∷ [])
is_pad_1 = record { goes_on = refl; whole = refl; exact = refl }

pads_are : (version : Version) (n : ℕ) → All (IsOption version) (pad_options version n)
unfolding pad_options
pads_are V4 n = All-nil (IsOption V4)
pads_are V6 zero = All-nil (IsOption V6)
pads_are V6 (suc zero) = All-cons (IsOption V6) (0 ∷ []) [] is_pad_1 (All-nil (IsOption V6))
pads_are V6 (suc (suc n)) = All-cons (IsOption V6) (1 ∷ n ∷ replicate n 0) [] (is_pad_n n) (All-nil (IsOption V6))

pad_ends : (version : Version) (n : ℕ) → ends_list version (pad_rest version n) ≡ true
unfolding pad_rest
pad_ends V4 zero = refl
pad_ends V4 (suc n) = refl
pad_ends V6 n = refl

-- padding is neither a label nor a jumbo payload nor another option
record Unseen (version : Version) (options : List Placed) : Type 0 where
  pub labels : labels_of version options ≡ []
  pub jumbos : filter (is_jumbo version) options ≡ []
  pub others : others_of version options ≡ []

pads_unseen : (version : Version) (at n : ℕ) → Unseen version (placed_from at (pad_options version n))
unfolding pad_options placed_from
pads_unseen V4 at n = record { labels = refl; jumbos = refl; others = refl }
pads_unseen V6 at zero = record { labels = refl; jumbos = refl; others = refl }
pads_unseen V6 at (suc zero) = record { labels = refl; jumbos = refl; others = refl }
pads_unseen V6 at (suc (suc n)) = record { labels = refl; jumbos = refl; others = refl }

-- ---- the kept options with the padding between them

-- in version 4 there is none
pub gap4 : (place free : ℕ) → gap_to 1 place free ≡ 0
gap4 place free = omega arith

packed_options : Version → ℕ → List Placed → List (List ℕ)
packed_options version free [] = []
packed_options version free (x ∷ xs) =
    pad_options version (gap_to (alignment version) x.place free) ++ x.octets ∷ packed_options version (free + gap_to (alignment version) x.place free + length x.octets) xs

gap_whole : (version : Version) (place free : ℕ) → concat (pad_options version (gap_to (alignment version) place free)) ≡ padding version (gap_to (alignment version) place free)
unfolding pad_options pad_rest
gap_whole V4 place free = ap (λ (n : ℕ). replicate n 0) (sym (gap4 place free))
gap_whole V6 place free = sym (padding-is V6 (gap_to 8 place free) ∙ append-nil (concat (pad_options V6 (gap_to 8 place free))))

pub concat-append : (xs ys : List (List ℕ)) → concat (xs ++ ys) ≡ concat xs ++ concat ys
concat-append [] ys = refl
concat-append (x ∷ xs) ys = ap (λ (z : List ℕ). x ++ z) (concat-append xs ys) ∙ sym (append_assoc x (concat xs) (concat ys))

packed_whole : (version : Version) (free : ℕ) (xs : List Placed) → concat (packed_options version free xs) ≡ packed version free xs
unfolding packed_options packed
packed_whole version free [] = refl
packed_whole version free (x ∷ xs) =
    let gap = gap_to (alignment version) x.place free in
    let more = packed_options version (free + gap + length x.octets) xs in
    concat-append (pad_options version gap) (x.octets ∷ more)
    ∙ (λ i. gap_whole version x.place free i ++ (x.octets ++ packed_whole version (free + gap + length x.octets) xs i))
    ∙ sym (append_assoc (padding version gap) x.octets (packed version (free + gap + length x.octets) xs))

packed_are : (version : Version) (free : ℕ) (xs : List Placed) → All (IsKept version) xs → All (IsOption version) (packed_options version free xs)
unfolding packed_options
packed_are version free [] kept = All-nil (IsOption version)
packed_are version free (x ∷ xs) kept =
    let gap = gap_to (alignment version) x.place free in
    let more = packed_options version (free + gap + length x.octets) xs in
    All-append (IsOption version) (pad_options version gap) (x.octets ∷ more) (pads_are version gap)
    (All-cons (IsOption version) x.octets more (All-head (IsKept version) x xs kept).is (packed_are version (free + gap + length x.octets) xs (All-tail (IsKept version) x xs kept)))

pub placed_from-append : (at : ℕ) (xs ys : List (List ℕ)) → placed_from at (xs ++ ys) ≡ placed_from at xs ++ placed_from (at + length (concat xs)) ys
unfolding placed_from
placed_from-append at [] ys = let e : at ≡ at + 0 = omega arith in ap (λ (n : ℕ). placed_from n ys) e
placed_from-append at (x ∷ xs) ys =
    let p : Placed = record { place = at; octets = x } in
    let e : at + length x + length (concat xs) ≡ at + length (x ++ concat xs) = omega (arith, length-append x (concat xs)) in
    ap (λ (z : List Placed). p ∷ z) (placed_from-append (at + length x) xs ys ∙ ap (λ (n : ℕ). placed_from (at + length x) xs ++ placed_from n ys) e)

-- an option lands where it is kept: in version 6 at its own place modulo 8
lands : (version : Version) (x : Placed) (free at : ℕ) (others : List Placed) → aligned version x ≡ x → at ≡ free + gap_to (alignment version) x.place free + length x.octets
    → aligned version (record { place = free + gap_to (alignment version) x.place free; octets = x.octets }) ∷ others_at version at others ≡ others_at version free (x ∷ others)
lands V4 x free at others kept at_is =
    let none : free + gap_to 1 x.place free ≡ free = omega (arith, gap4 x.place free) in
    let next : at ≡ free + length x.octets = omega (arith, at_is, none) in
    λ i. record { place = none i; octets = x.octets } ∷ in_turn (next i) others
lands V6 x free at others kept at_is =
    let place_is : x.place % 8 ≡ x.place = ap (λ (p : Placed). p.place) kept in
    let same : (free + gap_to 8 x.place free) % 8 ≡ x.place = omega (arith, place_is) in
    λ i. record { place = same i; octets = x.octets } ∷ others

-- a kept option is no label
other_no_label : (version : Version) (x : Placed) → is_other version x ≡ true → is_label version x ≡ false
other_no_label version x e = not_or (eqb (type_octet x.octets) 0 || eqb (type_octet x.octets) 1) (is_label version x) e where
  not_or : (a b : Bool) → not (a || b) ≡ true → b ≡ false
  not_or true b e = absurd cc
  not_or false true e = absurd cc
  not_or false false e = refl

-- what is seen of a list that begins with padding and one kept option
record Seen (version : Version) (options : List Placed) (others : List Placed) : Type 0 where
  pub labels : labels_of version options ≡ []
  pub jumbos : filter (is_jumbo version) options ≡ []
  pub others_are : others_of version options ≡ others

packed_seen : (version : Version) (free : ℕ) (xs : List Placed) → All (IsKept version) xs → Seen version (placed_from free (packed_options version free xs)) (others_at version free xs)
unfolding packed_options placed_from
packed_seen V4 free [] kept = record { labels = refl; jumbos = refl; others_are = refl }
packed_seen V6 free [] kept = record { labels = refl; jumbos = refl; others_are = refl }
packed_seen version free (x ∷ xs) kept =
    let gap = gap_to (alignment version) x.place free in
    let pads = pad_options version gap in
    let at = free + gap + length x.octets in
    let more = packed_options version at xs in
    let k = All-head (IsKept version) x xs kept in
    let p : Placed = record { place = free + gap; octets = x.octets } in
    let unseen = pads_unseen version free gap in
    let seen = packed_seen version at xs (All-tail (IsKept version) x xs kept) in
    let long : free + length (concat pads) ≡ free + gap = ap (λ (n : ℕ). free + n) (ap length (gap_whole version x.place free) ∙ length-padding version gap) in
    let split : placed_from free (pads ++ x.octets ∷ more) ≡ placed_from free pads ++ (p ∷ placed_from at more) =
    placed_from-append free pads (x.octets ∷ more) ∙ ap (λ (n : ℕ). placed_from free pads ++ placed_from n (x.octets ∷ more)) long in
    record {
      labels = ap (filter (is_label version)) split ∙ filter-append (is_label version) (placed_from free pads) (p ∷ placed_from at more)
          ∙ (λ i. unseen.labels i ++ filter (is_label version) (p ∷ placed_from at more)) ∙ rw (other_no_label version p k.other) seen.labels;
      jumbos = ap (filter (is_jumbo version)) split ∙ filter-append (is_jumbo version) (placed_from free pads) (p ∷ placed_from at more)
          ∙ (λ i. unseen.jumbos i ++ filter (is_jumbo version) (p ∷ placed_from at more)) ∙ rw k.no_jumbo seen.jumbos;
      others_are = ap (others_of version) split ∙ ap (map (aligned version)) (filter-append (is_other version) (placed_from free pads) (p ∷ placed_from at more))
          ∙ map-append (aligned version) (filter (is_other version) (placed_from free pads)) (filter (is_other version) (p ∷ placed_from at more))
          ∙ (λ i. unseen.others i ++ map (aligned version) (filter (is_other version) (p ∷ placed_from at more))) ∙ rw k.other (ap (λ (l : List Placed). aligned version p ∷ l) seen.others_are)
          ∙ lands version x free at xs k.place refl;
    }

-- ---- a whole list of options

-- what is seen of a list of options
record Sees (version : Version) (options : List Placed) (labels others : List Placed) : Type 0 where
  pub labels_are : labels_of version options ≡ labels
  pub no_jumbo : filter (is_jumbo version) options ≡ []
  pub others_are : others_of version options ≡ others

Sees-append : (version : Version) (xs ys l m o q : List Placed) → Sees version xs l o → Sees version ys m q → Sees version (xs ++ ys) (l ++ m) (o ++ q)
Sees-append version xs ys l m o q a b = record {
  labels_are = filter-append (is_label version) xs ys ∙ (λ i. a.labels_are i ++ b.labels_are i);
  no_jumbo = filter-append (is_jumbo version) xs ys ∙ (λ i. a.no_jumbo i ++ b.no_jumbo i);
  others_are = ap (map (aligned version)) (filter-append (is_other version) xs ys) ∙ map-append (aligned version) (filter (is_other version) xs) (filter (is_other version) ys) ∙ (λ i. a.others_are i ++ b.others_are i);
}

label_list : Option Placed → List (List ℕ)
label_list None = []
label_list (Some o) = o.octets ∷ []

-- the label option where it is written
pub label_placed : ℕ → Option Placed → List Placed
label_placed at None = []
label_placed at (Some o) = record { place = at; octets = o.octets } ∷ []

label_is : (version : Version) (at : ℕ) (octets : List ℕ) → IsLabelOption version octets → is_label version (record { place = at; octets = octets }) ≡ true
label_is V4 at octets l = rw l.type refl
label_is V6 at octets l = rw l.type refl

label_no_jumbo : (version : Version) (at : ℕ) (octets : List ℕ) → IsLabelOption version octets → is_jumbo version (record { place = at; octets = octets }) ≡ false
label_no_jumbo V4 at octets l = refl
label_no_jumbo V6 at octets l = rw l.type refl

label_no_other : (version : Version) (at : ℕ) (octets : List ℕ) → IsLabelOption version octets → is_other version (record { place = at; octets = octets }) ≡ false
label_no_other V4 at octets l = rw l.type refl
label_no_other V6 at octets l = rw l.type refl

-- a length octet that counts the whole option
counts : (n m : ℕ) → 2 ≤ m → n ≡ m → leb 2 n && leb n m ≡ true
counts n m low e = grind (arith, nat_tests)

label_option_is : (version : Version) (octets : List ℕ) → IsLabelOption version octets → IsOption version octets
label_option_is version [] l = absurd (omega (arith, l.long))
label_option_is V4 (t ∷ octets) l =
    let type : t ≡ 134 = l.type in
    record { goes_on = rw type refl; whole = rw type (counts (get_or (t ∷ octets) 1 0 + 0) (length (t ∷ octets)) l.long l.exact); exact = rw type l.exact }
label_option_is V6 (t ∷ octets) l =
    let type : t ≡ 7 = l.type in
    record { goes_on = refl; whole = rw type (counts (get_or (t ∷ octets) 1 0 + 2) (length (t ∷ octets)) l.long l.exact); exact = rw type l.exact }

label_whole : (label : Option Placed) → concat (label_list label) ≡ label_octets label
unfolding label_list
label_whole None = refl
label_whole (Some o) = append-nil o.octets

label_are : (version : Version) (label : Option Placed) → IfSome label (λ o. IsLabelOption version o.octets × IsOctets o.octets) → All (IsOption version) (label_list label)
unfolding label_list
label_are version None h = All-nil (IsOption version)
label_are version (Some o) h = All-cons (IsOption version) o.octets [] (label_option_is version o.octets h.0) (All-nil (IsOption version))

label_seen : (version : Version) (at : ℕ) (label : Option Placed) → IfSome label (λ o. IsLabelOption version o.octets × IsOctets o.octets) → Sees version (placed_from at (label_list label)) (label_placed at label) []
unfolding label_list label_placed placed_from
label_seen version at None h = record { labels_are = refl; no_jumbo = refl; others_are = refl }
label_seen version at (Some o) h = record {
  labels_are = rw (label_is version at o.octets h.0) refl;
  no_jumbo = rw (label_no_jumbo version at o.octets h.0) refl;
  others_are = rw (label_no_other version at o.octets h.0) refl;
}

-- the first of the labels, and no second
pub first_label : (at : ℕ) (label : Option Placed) → slice_get (label_placed at label) 0 ≡ option_map (λ o. let q : Placed = record { place = at; octets = o.octets } in q) label
unfolding label_placed
first_label at None = refl
first_label at (Some o) = refl

pub no_second : (at : ℕ) (label : Option Placed) → slice_get (label_placed at label) 1 ≡ None
unfolding label_placed
no_second at None = refl
no_second at (Some o) = refl

-- what the area of a packet is read as
pub record AreaBack (version : Version) (first : ℕ) (area : List ℕ) (label : Option Placed) (others : List Placed) : Type 0 where
  pub options : List Placed
  pub list : options_from version first area ≡ record { options = options; broken = None }
  pub labels : labels_of version options ≡ label_placed first label
  pub jumbos : filter (is_jumbo version) options ≡ []
  pub others_are : others_of version options ≡ others_at version (first + length (label_octets label)) others

pub area_back : (version : Version) (label : Option Placed) (others : List Placed) (area kept : List ℕ) → IfSome label (λ o. IsLabelOption version o.octets × IsOctets o.octets) → All (IsKept version) others
    → kept ≡ label_octets label ++ packed version (first_place version + length (label_octets label)) others → area ≡ filled version (first_place version) kept
    → AreaBack version (first_place version) area label others
area_back version label others area kept h k kept_is area_is =
    let first = first_place version in
    let l = label_list label in
    let f1 = first + length (label_octets label) in
    let ks = packed_options version f1 others in
    let n = gap_to (unit_of version) 0 (first + length kept) in
    let es = pad_options version n in
    let l_whole = label_whole label in
    let k_whole = packed_whole version f1 others in
    let at1 : first + length (concat l) ≡ f1 = ap (λ (x : List ℕ). first + length x) l_whole in
    let placed : placed_from first (l ++ (ks ++ es)) ≡ placed_from first l ++ (placed_from f1 ks ++ placed_from (f1 + length (concat ks)) es) =
    placed_from-append first l (ks ++ es) ∙ ap (λ (m : ℕ). placed_from first l ++ placed_from m (ks ++ es)) at1 ∙ ap (λ (x : List Placed). placed_from first l ++ x) (placed_from-append f1 ks es) in
    let s1 = label_seen version first label h in
    let ps = packed_seen version f1 others k in
    let s2 : Sees version (placed_from f1 ks) [] (others_at version f1 others) = record { labels_are = ps.labels; no_jumbo = ps.jumbos; others_are = ps.others_are } in
    let us = pads_unseen version (f1 + length (concat ks)) n in
    let s3 : Sees version (placed_from (f1 + length (concat ks)) es) [] [] = record { labels_are = us.labels; no_jumbo = us.jumbos; others_are = us.others } in
    let s23 = Sees-append version (placed_from f1 ks) (placed_from (f1 + length (concat ks)) es) [] [] (others_at version f1 others) [] s2 s3 in
    let s = Sees-append version (placed_from first l) (placed_from f1 ks ++ placed_from (f1 + length (concat ks)) es) (label_placed first label) [] [] (others_at version f1 others ++ []) s1 s23 in
    let whole : area ≡ concat (l ++ (ks ++ es)) ++ pad_rest version n =
    area_is ∙ ap (λ (x : List ℕ). x ++ padding version n) kept_is
    ∙ (λ i. (sym l_whole i ++ sym k_whole i) ++ padding-is version n i)
    ∙ sym (append_assoc (concat l ++ concat ks) (concat es) (pad_rest version n))
    ∙ ap (λ (x : List ℕ). x ++ pad_rest version n) (append_assoc (concat l) (concat ks) (concat es) ∙ ap (λ (x : List ℕ). concat l ++ x) (sym (concat-append ks es)) ∙ sym (concat-append l (ks ++ es))) in
    let each = All-append (IsOption version) l (ks ++ es) (label_are version label h) (All-append (IsOption version) ks es (packed_are version f1 others k) (pads_are version n)) in
    record {
      options = placed_from first (l ++ (ks ++ es));
      list = ap (options_from version first) whole ∙ listed_whole version first (l ++ (ks ++ es)) (pad_rest version n) each (pad_ends version n);
      labels = ap (labels_of version) placed ∙ s.labels_are ∙ append-nil (label_placed first label);
      jumbos = ap (filter (is_jumbo version)) placed ∙ s.no_jumbo;
      others_are = ap (others_of version) placed ∙ s.others_are ∙ append-nil (others_at version f1 others);
    }

-- ---- octets

padding_octets : (version : Version) (n : ℕ) → n < 256 → IsOctets (padding version n)
padding_octets V4 n low = octets-zeros n
padding_octets V6 zero low = octets-zeros 0
padding_octets V6 (suc zero) low = octets-zeros 1
padding_octets V6 (suc (suc n)) low = octets-cons 1 (n ∷ replicate n 0) (omega arith) (octets-cons n (replicate n 0) (omega (arith, low)) (octets-zeros n))

gap_low : (version : Version) (place free : ℕ) → gap_to (alignment version) place free < 256
gap_low V4 place free = omega arith
gap_low V6 place free = omega arith

unit_low : (version : Version) (free : ℕ) → gap_to (unit_of version) 0 free < 256
unit_low V4 free = omega arith
unit_low V6 free = omega arith

packed_octets : (version : Version) (free : ℕ) (xs : List Placed) → All (IsKept version) xs → IsOctets (packed version free xs)
unfolding packed
packed_octets version free [] kept = octets-zeros 0
packed_octets version free (x ∷ xs) kept =
    let gap = gap_to (alignment version) x.place free in
    octets-append (padding version gap ++ x.octets) (packed version (free + gap + length x.octets) xs)
    (octets-append (padding version gap) x.octets (padding_octets version gap (gap_low version x.place free)) (All-head (IsKept version) x xs kept).octets)
    (packed_octets version (free + gap + length x.octets) xs (All-tail (IsKept version) x xs kept))

label_are_octets : (version : Version) (label : Option Placed) → IfSome label (λ o. IsLabelOption version o.octets × IsOctets o.octets) → IsOctets (label_octets label)
label_are_octets version None h = octets-zeros 0
label_are_octets version (Some o) h = h.1

pub area_octets : (p : Headers) → IsParsed p → IsOctets (option_area p)
unfolding kept_options
area_octets p h =
    let l = label_octets p.label in
    let free = first_place p.version + length l in
    let gap = gap_to (unit_of p.version) 0 (first_place p.version + length (kept_options p)) in
    octets-append (kept_options p) (padding p.version gap)
    (octets-append l (packed p.version free p.others) (label_are_octets p.version p.label h.label) (packed_octets p.version free p.others h.others))
    (padding_octets p.version gap (unit_low p.version (first_place p.version + length (kept_options p))))

-- ---- a packet, from its parts

pub reads_as : (version : Version) (octets head payload : List ℕ) (options : List Placed) (q : Headers) → fixed_fault version octets ≡ None → head_of version octets ≡ head → payload_of version octets ≡ payload
    → options_of version head ≡ record { options = options; broken = None } → jumbo_fault version options ≡ None → second_fault version options ≡ None → parsed version head options payload ≡ q
    → packet_of version octets ≡ Ok q
unfolding packet_of
reads_as version octets head payload options q fixed head_is payload_is list jumbo second says = rw (fixed, head_is, payload_is, list, jumbo, second, says) refl
