-- What octets say, and their first fault.
use Rattle.std.proofs.Common.{◌≡◌, ℕ, zero, suc, ◌+◌, ◌-◌, ◌*◌, ◌%◌, ◌<◌, ◌≤◌, Bool, true, false, not, ◌&&◌, ◌||◌, cond, eqb, ltb, List, [], ◌∷◌, length, get_or, take, drop, All, filter, Option, Some, None, Ok, refl, sym, ap, subst, ◌∙◌, arith, length-take, length-drop}
use Rattle.std.specs.Prelude.{slice_get, slice_index, slice_range, IfErr, IfSome}
use Rattle.std.specs.Option.{option_map, option_or}
use Rattle.std.proofs.lemmas.Bool.{ltb-false, ltb-true, eqb-true}
use Rattle.std.proofs.lemmas.List.Elements.{All-nil, All-cons, All-head, All-tail, All-filter, filter_passes}
use Rattle.mls_label.specs.octet_grammar.Octets.{IsOctets}
use Rattle.mls_label.proofs.octet_grammar.Octets.{octets-take, octets-drop}
use Rattle.mls_label.proofs.octet_grammar.Numbers.{u16_small}
use Rattle.ip_headers.specs.declared.version.Version.{Version}
use Rattle.ip_headers.specs.declared.version.Version.TheVariants.{V4, V6}
use Rattle.ip_headers.specs.declared.fault.HeadFault.{HeadFault}
use Rattle.ip_headers.specs.declared.fault.HeadKind.{HeadKind}
use Rattle.ip_headers.specs.declared.fault.HeadKind.TheVariants.{Short, Version as VersionKind, HeaderLength, TotalLength, Checksum, Jumbo, SecondLabel}
use Rattle.ip_headers.specs.Options.{Placed, IsOption, type_octet, label_type, is_label, is_jumbo, is_other, labels_of, others_of, aligned}
use Rattle.ip_headers.specs.Packet.{Headers}
use Rattle.ip_headers.specs.Header4.{fault_at, version_number, header_length, total_length, fixed_fault4, head4}
use Rattle.ip_headers.specs.Header6.{payload_length, has_hop_by_hop, hop_by_hop_length, fixed_fault6, head6}
use Rattle.ip_headers.specs.Reading.{first_place, fixed_fault, head_of, payload_of, options_of, parsed, jumbo_fault, second_fault, front_fault, unless, packet_of, front_of}
use Rattle.ip_headers.specs.Written.{first_option, IsLabelOption, IsKept, IsParsed, rewritten}
use Rattle.ip_headers.specs.Laws.{StandsIn, nibble}
use Rattle.ip_headers.proofs.Lists.{IsBelow, HasOctets, Ends, options_below, broken_below, options_octets}

-- ---- the first fault

-- what is found at a place of a list
at_place : {X : Type 0} (P : X → Type 0) (xs : List X) (k : ℕ) (x : X) → All P xs → slice_get xs k ≡ Some x → P x
at_place P [] k x all e = absurd cc
at_place P (y ∷ xs) zero x all e = let h : y ≡ x = cc in subst P h (All-head P y xs all)
at_place P (y ∷ xs) (suc k) x all e = at_place P xs k x (All-tail P y xs all) e

abbrev Within : ℕ → Option HeadFault → Type 0
Within n o = (f : HeadFault) → o ≡ Some f → f.octet ≤ n

or_within : (n : ℕ) (a b : Option HeadFault) → Within n a → Within n b → Within n (option_or a b)
or_within n None b first second = second
or_within n (Some g) b first second = first

unless_within : (n : ℕ) (o : Option HeadFault) (p : Headers) → Within n o → IfErr (unless o p) (λ f. f.octet ≤ n)
unless_within n None p within = tt
unless_within n (Some f) p within = within f refl

at_octet : (o : ℕ) (k : HeadKind) (n : ℕ) → o ≤ n → Within n (fault_at o k)
at_octet o k n low f e = let h : o ≡ f.octet = cc in omega (arith, h, low)

-- the chains of tests of the fixed fields: where they all pass, and where the first stands that fails
chain4 : (n : ℕ) (b c d t s : Bool) → (b ≡ false → 20 ≤ n)
    → Within n (cond b (fault_at n Short) (cond c (fault_at 0 VersionKind) (cond d (fault_at 0 HeaderLength) (cond t (fault_at 2 TotalLength) (cond s (fault_at 10 Checksum) None)))))
chain4 n true c d t s long = at_octet n Short n (omega arith)
chain4 n false true d t s long = at_octet 0 VersionKind n (omega arith)
chain4 n false false true t s long = at_octet 0 HeaderLength n (omega arith)
chain4 n false false false true s long = at_octet 2 TotalLength n (omega (arith, long refl))
chain4 n false false false false true long = at_octet 10 Checksum n (omega (arith, long refl))
chain4 n false false false false false long = λ f e. absurd cc

chain6 : (n : ℕ) (b c d t s : Bool) → (b ≡ false → 40 ≤ n) → (b ≡ false → d ≡ false → t ≡ false → s ≡ true → 41 ≤ n)
    → Within n (cond b (fault_at n Short) (cond c (fault_at 0 VersionKind) (cond d (fault_at 4 TotalLength) (cond t (fault_at 4 TotalLength) (cond s (fault_at 41 HeaderLength) None)))))
chain6 n true c d t s long hop = at_octet n Short n (omega arith)
chain6 n false true d t s long hop = at_octet 0 VersionKind n (omega arith)
chain6 n false false true t s long hop = at_octet 4 TotalLength n (omega (arith, long refl))
chain6 n false false false true s long hop = at_octet 4 TotalLength n (omega (arith, long refl))
chain6 n false false false false true long hop = at_octet 41 HeaderLength n (hop refl refl refl refl)
chain6 n false false false false false long hop = λ f e. absurd cc

passed : {F : Type 0} (b c d t s : Bool) (f g h i j : F) → cond b (Some f) (cond c (Some g) (cond d (Some h) (cond t (Some i) (cond s (Some j) None)))) ≡ None
    → (b ≡ false) × (c ≡ false) × (d ≡ false) × (t ≡ false) × (s ≡ false)
passed true c d t s f g h i j e = absurd cc
passed false true d t s f g h i j e = absurd cc
passed false false true t s f g h i j e = absurd cc
passed false false false true s f g h i j e = absurd cc
passed false false false false true f g h i j e = absurd cc
passed false false false false false f g h i j e = (refl, refl, refl, refl, refl)

-- a Hop-by-Hop header that passes the payload begins in it
hop_within : (n size : ℕ) (any : Bool) (x : ℕ) → ltb n 40 ≡ false → ltb (n - 40) size ≡ false → any && ltb size 8 ≡ false → ltb size (cond any x 0) ≡ true → 41 ≤ n
hop_within n size true x a b c d = omega (arith, ltb-false n 40 a, ltb-false (n - 40) size b, ltb-false size 8 c)
hop_within n size false x a b c d = absurd (omega (arith, ltb-true size 0 d))

fixed_within : (version : Version) (octets : List ℕ) → Within (length octets) (fixed_fault version octets)
unfolding fixed_fault4 fixed_fault6
fixed_within V4 octets = chain4 (length octets) (ltb (length octets) 20) _ _ _ _ (ltb-false (length octets) 20)
fixed_within V6 octets =
    chain6 (length octets) (ltb (length octets) 40) _ _ _ _ (ltb-false (length octets) 40)
    (λ a b c d. hop_within (length octets) (payload_length octets) (has_hop_by_hop octets) ((get_or octets 41 0 + 1) * 8) a b c d)

-- a fault of the whole list stands at one of its options
listed_within : (version : Version) (kind : HeadKind) (n k : ℕ) (options : List Placed) → All (IsBelow version n) options
    → Within n (option_map (λ o. let f : HeadFault = record { octet = o.place; kind = kind } in f) (slice_get options k))
listed_within version kind n k options all f e = found (slice_get options k) (λ p at. at_place (IsBelow version n) options k p all at) e where
  found : (o : Option Placed) → ((p : Placed) → o ≡ Some p → IsBelow version n p) → option_map (λ o. let f : HeadFault = record { octet = o.place; kind = kind } in f) o ≡ Some f → f.octet ≤ n
  found None low e = absurd cc
  found (Some p) low e = let h : p.place ≡ f.octet = cc in omega (arith, h, (low p refl).1)

head_short : (version : Version) (octets : List ℕ) → length (head_of version octets) ≤ length octets
head_short V4 octets = omega (arith, length-take (header_length octets) octets)
head_short V6 octets = omega (arith, length-take (40 + hop_by_hop_length octets) octets)

-- the options of a header end in the octets
list_ends : (version : Version) (octets : List ℕ) → Ends (length octets) (first_place version) (drop (first_place version) (head_of version octets))
list_ends version octets some = omega (arith, some, length-drop (first_place version) (head_of version octets), head_short version octets)

front_within : (version : Version) (octets : List ℕ) → Within (length octets) (front_fault version octets (options_of version (head_of version octets)))
front_within version octets =
    let area = drop (first_place version) (head_of version octets) in
    let list = options_of version (head_of version octets) in
    let ends = list_ends version octets in
    let below = options_below version (first_place version) (length octets) area ends in
    or_within (length octets) (fixed_fault version octets) (option_or list.broken (jumbo_fault version list.options)) (fixed_within version octets)
    (or_within (length octets) list.broken (jumbo_fault version list.options) (λ f e. broken_below version (first_place version) (length octets) area f ends e)
    (listed_within version Jumbo (length octets) 0 (filter (is_jumbo version) list.options) (All-filter (is_jumbo version) (IsBelow version (length octets)) list.options below)))

pub fronts_within : (version : Version) (octets : List ℕ) → IfErr (front_of version octets) (λ f. f.octet ≤ length octets)
unfolding front_of
fronts_within version octets = unless_within (length octets) (front_fault version octets (options_of version (head_of version octets))) _ (front_within version octets)

pub packets_within : (version : Version) (octets : List ℕ) → IfErr (packet_of version octets) (λ f. f.octet ≤ length octets)
unfolding packet_of
packets_within version octets =
    let list = options_of version (head_of version octets) in
    let below = options_below version (first_place version) (length octets) (drop (first_place version) (head_of version octets)) (list_ends version octets) in
    unless_within (length octets) (option_or (front_fault version octets list) (second_fault version list.options)) _
    (or_within (length octets) (front_fault version octets list) (second_fault version list.options) (front_within version octets)
    (listed_within version SecondLabel (length octets) 1 (labels_of version list.options) (All-filter (is_label version) (IsBelow version (length octets)) list.options below)))

-- ---- fronts and packets

unless_or : (a b : Option HeadFault) (x p : Headers) → unless (option_or a b) x ≡ Ok p → unless a x ≡ Ok p
unless_or None None x p e = e
unless_or None (Some f) x p e = absurd cc
unless_or (Some f) b x p e = absurd cc

pub is_front : (version : Version) (octets : List ℕ) (p : Headers) → packet_of version octets ≡ Ok p → front_of version octets ≡ Ok p
unfolding packet_of front_of
is_front version octets p e =
    let list = options_of version (head_of version octets) in
    unless_or (front_fault version octets list) (second_fault version list.options) _ p e

pub parsed_label : (version : Version) (head : List ℕ) (options : List Placed) (payload : List ℕ) → (parsed version head options payload).label ≡ slice_get (labels_of version options) 0
parsed_label V4 head options payload = refl
parsed_label V6 head options payload = refl

no_second : (labels : List Placed) → slice_get labels 0 ≡ None → slice_get labels 1 ≡ None
no_second [] e = refl
no_second (o ∷ labels) e = absurd cc

unless_both : (a b : Option HeadFault) (x p : Headers) → unless a x ≡ Ok p → (x ≡ p → b ≡ None) → unless (option_or a b) x ≡ Ok p
unless_both None b x p e none = let same : x ≡ p = cc in rw (none same) e
unless_both (Some f) b x p e none = absurd cc

pub is_packet : (version : Version) (octets : List ℕ) (p : Headers) → front_of version octets ≡ Ok p → p.label ≡ None → packet_of version octets ≡ Ok p
unfolding packet_of front_of
is_packet version octets p e none =
    let list = options_of version (head_of version octets) in
    unless_both (front_fault version octets list) (second_fault version list.options) _ p e
    (λ same. ap (option_map (λ o. let f : HeadFault = record { octet = o.place; kind = SecondLabel } in f))
    (no_second (labels_of version list.options) (sym (parsed_label version (head_of version octets) list.options (payload_of version octets)) ∙ ap (λ (q : Headers). q.label) same ∙ none)))

-- ---- the fields of a header that was read

-- no test of the front failed, and this is what the octets say
pub record Passes (version : Version) (octets : List ℕ) (p : Headers) : Type 0 where
  pub fixed : fixed_fault version octets ≡ None
  pub whole : (options_of version (head_of version octets)).broken ≡ None
  pub no_jumbo : jumbo_fault version (options_of version (head_of version octets)).options ≡ None
  pub says : parsed version (head_of version octets) (options_of version (head_of version octets)).options (payload_of version octets) ≡ p

three : (a b c : Option HeadFault) (x p : Headers) → unless (option_or a (option_or b c)) x ≡ Ok p → (a ≡ None) × (b ≡ None) × (c ≡ None) × (x ≡ p)
three None None None x p e = (refl, refl, refl, cc)
three None None (Some f) x p e = absurd cc
three None (Some f) c x p e = absurd cc
three (Some f) b c x p e = absurd cc

pub passes : (version : Version) (octets : List ℕ) (p : Headers) → front_of version octets ≡ Ok p → Passes version octets p
unfolding front_of
passes version octets p e =
    let h = three (fixed_fault version octets) _ _ _ p e in
    record { fixed = h.0; whole = h.1; no_jumbo = h.2; says = h.3 }

-- how long its header and its payload are
abbrev Sizes : Version → List ℕ → Type 0
Sizes V4 octets = (20 ≤ header_length octets) × (header_length octets ≤ total_length octets) × (total_length octets ≤ length octets)
Sizes V6 octets = (40 ≤ length octets) × (hop_by_hop_length octets ≤ payload_length octets) × (payload_length octets ≤ length octets - 40)

either_false : (a b : Bool) → a || b ≡ false → (a ≡ false) × (b ≡ false)
either_false true b e = absurd cc
either_false false b e = (refl, e)

sizes : (version : Version) (octets : List ℕ) → fixed_fault version octets ≡ None → Sizes version octets
unfolding fixed_fault4 fixed_fault6
sizes V4 octets e =
    let h = passed (ltb (length octets) 20) _ (ltb (header_length octets) 20) (ltb (total_length octets) (header_length octets) || ltb (length octets) (total_length octets)) _ _ _ _ _ _ e in
    let t = either_false (ltb (total_length octets) (header_length octets)) (ltb (length octets) (total_length octets)) h.3 in
    (ltb-false (header_length octets) 20 h.2, ltb-false (total_length octets) (header_length octets) t.0, ltb-false (length octets) (total_length octets) t.1)
sizes V6 octets e =
    let h = passed (ltb (length octets) 40) _ (ltb (length octets - 40) (payload_length octets)) _ (ltb (payload_length octets) (hop_by_hop_length octets)) _ _ _ _ _ e in
    (ltb-false (length octets) 40 h.0, ltb-false (payload_length octets) (hop_by_hop_length octets) h.4, ltb-false (length octets - 40) (payload_length octets) h.2)

not_false : (b : Bool) → not b ≡ false → b ≡ true
not_false true e = refl
not_false false e = absurd cc

named : (version : Version) (octets : List ℕ) → fixed_fault version octets ≡ None → version_number octets ≡ nibble version
unfolding fixed_fault4 fixed_fault6
named V4 octets e =
    let h = passed (ltb (length octets) 20) (not (eqb (version_number octets) 4)) (ltb (header_length octets) 20) (ltb (total_length octets) (header_length octets) || ltb (length octets) (total_length octets)) _ _ _ _ _ _ e in
    eqb-true (version_number octets) 4 (not_false (eqb (version_number octets) 4) h.1)
named V6 octets e =
    let h = passed (ltb (length octets) 40) (not (eqb (version_number octets) 6)) (ltb (length octets - 40) (payload_length octets)) _ (ltb (payload_length octets) (hop_by_hop_length octets)) _ _ _ _ _ e in
    eqb-true (version_number octets) 6 (not_false (eqb (version_number octets) 6) h.1)

pub head_octets_are : (version : Version) (octets : List ℕ) → IsOctets octets → IsOctets (head_of version octets)
head_octets_are V4 octets are = octets-take (header_length octets) octets are
head_octets_are V6 octets are = octets-take (40 + hop_by_hop_length octets) octets are

part_octets : (octets : List ℕ) (from to : ℕ) → IsOctets octets → IsOctets (slice_range octets from to)
part_octets octets from to are = octets-take (to - from) (drop from octets) (octets-drop from octets are)

part_short : (octets : List ℕ) (from to : ℕ) → length (slice_range octets from to) ≤ to
part_short octets from to = omega (arith, length-take (to - from) (drop from octets))

part_length : (octets : List ℕ) (from n : ℕ) → from + n ≤ length octets → length (take n (drop from octets)) ≡ n
part_length octets from n le = omega (arith, length-take n (drop from octets), length-drop from octets)

-- where the addresses end
abbrev first_address : Version → ℕ
first_address V4 = 20
first_address V6 = 40

head_long : (version : Version) (octets : List ℕ) → Sizes version octets → first_address version ≤ length (head_of version octets)
head_long V4 octets s = omega (arith, length-take (header_length octets) octets, s.0, s.1, s.2)
head_long V6 octets s = omega (arith, length-take (40 + hop_by_hop_length octets) octets, s.0, s.1, s.2)

-- ---- the other options of a packet that was read

abbrev NoJumbo : Version → Placed → Type 0
NoJumbo version option = is_jumbo version option ≡ false

no_jumbo_each : (version : Version) (options : List Placed) → jumbo_fault version options ≡ None → All (NoJumbo version) options
no_jumbo_each version [] e = All-nil (NoJumbo version)
no_jumbo_each version (o ∷ options) e = by_first (is_jumbo version o) refl (no_jumbo_each version options) where
  by_first : (b : Bool) → is_jumbo version o ≡ b → (jumbo_fault version options ≡ None → All (NoJumbo version) options) → All (NoJumbo version) (o ∷ options)
  by_first true is next = absurd (let h = rw is at e in cc)
  by_first false is next = All-cons (NoJumbo version) o options is (next (rw is at e))

aligned_kept : (version : Version) (limit : ℕ) (o : Placed) → IsBelow version limit o → HasOctets o → NoJumbo version o → is_other version o ≡ true → IsKept version (aligned version o)
aligned_kept V4 limit o below octets jumbo other = record { is = below.0; octets = octets; other = other; no_jumbo = jumbo; place = refl }
aligned_kept V6 limit o below octets jumbo other =
    let twice : o.place % 8 % 8 ≡ o.place % 8 = omega arith in
    record { is = below.0; octets = octets; other = other; no_jumbo = jumbo; place = λ i. record { place = twice i; octets = o.octets } }

others_kept : (version : Version) (limit : ℕ) (options : List Placed) → All (IsBelow version limit) options → All HasOctets options → All (NoJumbo version) options → All (IsKept version) (others_of version options)
others_kept version limit [] below octets jumbo = All-nil (IsKept version)
others_kept version limit (o ∷ options) below octets jumbo =
    by_first (is_other version o) refl (others_kept version limit options (All-tail (IsBelow version limit) o options below) (All-tail HasOctets o options octets) (All-tail (NoJumbo version) o options jumbo)) where
      by_first : (b : Bool) → is_other version o ≡ b → All (IsKept version) (others_of version options) → All (IsKept version) (others_of version (o ∷ options))
      by_first true is next =
          rw is (All-cons (IsKept version) (aligned version o) (others_of version options)
          (aligned_kept version limit o (All-head (IsBelow version limit) o options below) (All-head HasOctets o options octets) (All-head (NoJumbo version) o options jumbo) is) next)
      by_first false is next = rw is next

-- ---- the laws on packets that were read

label_in : (octets : List ℕ) (version : Version) (label : Option Placed) → label ≡ slice_get (labels_of version (options_of version (head_of version octets)).options) 0
    → IfSome label (λ o. IsOption version o.octets × (type_octet o.octets ≡ label_type version) × (o.place + length o.octets ≤ length octets))
label_in octets version None e = tt
label_in octets version (Some o) e =
    let options = (options_of version (head_of version octets)).options in
    let below = options_below version (first_place version) (length octets) (drop (first_place version) (head_of version octets)) (list_ends version octets) in
    let b = at_place (IsBelow version (length octets)) (labels_of version options) 0 o (All-filter (is_label version) (IsBelow version (length octets)) options below) (sym e) in
    let t = at_place (λ (q : Placed). is_label version q ≡ true) (labels_of version options) 0 o (filter_passes (is_label version) options) (sym e) in
    (b.0, eqb-true (type_octet o.octets) (label_type version) t, b.1)

stands : (octets : List ℕ) (version : Version) → version_number octets ≡ nibble version
    → StandsIn version octets (parsed version (head_of version octets) (options_of version (head_of version octets)).options (payload_of version octets))
stands octets V4 e = record { version_is = refl; named = e; label = label_in octets V4 _ refl }
stands octets V6 e = record { version_is = refl; named = e; label = label_in octets V6 _ refl }

pub stands_in : (version : Version) (octets : List ℕ) (p : Headers) → front_of version octets ≡ Ok p → StandsIn version octets p
stands_in version octets p e = let r = passes version octets p e in subst (StandsIn version octets) r.says (stands octets version (named version octets r.fixed))

module _ (octets : List ℕ) (are : IsOctets octets) where
  kept : (version : Version) → (options_of version (head_of version octets)).broken ≡ None → jumbo_fault version (options_of version (head_of version octets)).options ≡ None
      → All (IsKept version) (others_of version (options_of version (head_of version octets)).options)
  kept version whole jumbo =
      let list = options_of version (head_of version octets) in
      others_kept version (length octets) list.options
      (options_below version (first_place version) (length octets) (drop (first_place version) (head_of version octets)) (list_ends version octets))
      (options_octets version (first_place version) (drop (first_place version) (head_of version octets)) (octets-drop (first_place version) (head_of version octets) (head_octets_are version octets are)))
      (no_jumbo_each version list.options jumbo)

  option_fits : (version : Version) (option : Option (List ℕ)) → IfSome option (λ o. IsLabelOption version o × IsOctets o)
      → IfSome (first_option version option) (λ o. IsLabelOption version o.octets × IsOctets o.octets)
  option_fits version None h = tt
  option_fits version (Some o) h = h

  written : (version : Version) (option : Option (List ℕ)) (hops : ℕ) → Sizes version octets → hops < 256 → IfSome option (λ o. IsLabelOption version o × IsOctets o)
      → (options_of version (head_of version octets)).broken ≡ None → jumbo_fault version (options_of version (head_of version octets)).options ≡ None
      → IsParsed (rewritten (parsed version (head_of version octets) (options_of version (head_of version octets)).options (payload_of version octets)) option hops)
  written V4 option hops s low h whole jumbo =
      let head = head4 octets in
      let all = head_octets_are V4 octets are in
      let long = head_long V4 octets s in
      record {
        class = all.at 1;
        hops = low;
        protocol = all.at 9;
        fields = (u16_small head 4 all, u16_small head 6 all, refl, part_length head 12 4 (omega (arith, long)), part_length head 16 4 (omega (arith, long)));
        source = part_octets head 12 16 all;
        destination = part_octets head 16 20 all;
        label = option_fits V4 option h;
        others = kept V4 whole jumbo;
      }
  written V6 option hops s low h whole jumbo =
      let head = head6 octets in
      let all = head_octets_are V6 octets are in
      let long = head_long V6 octets s in
      record {
        class = omega (arith, all.at 0, all.at 1);
        hops = low;
        protocol = by_next (has_hop_by_hop head) all;
        fields = (refl, refl, omega (arith, all.at 1, u16_small head 2 all), part_length head 8 16 (omega (arith, long)), part_length head 24 16 (omega (arith, long)));
        source = part_octets head 8 24 all;
        destination = part_octets head 24 40 all;
        label = option_fits V6 option h;
        others = kept V6 whole jumbo;
      } where
        by_next : (b : Bool) → IsOctets (head6 octets) → cond b (slice_index (head6 octets) 40) (slice_index (head6 octets) 6) < 256
        by_next true all = all.at 40
        by_next false all = all.at 6

  pub may_be_written : (version : Version) (p : Headers) (option : Option (List ℕ)) (hops : ℕ) → front_of version octets ≡ Ok p → hops < 256 → IfSome option (λ o. IsLabelOption version o × IsOctets o) → IsParsed (rewritten p option hops)
  may_be_written version p option hops e low h =
      let r = passes version octets p e in
      subst (λ (q : Headers). IsParsed (rewritten q option hops)) r.says (written version option hops (sizes version octets r.fixed) low h r.whole r.no_jumbo)

  payload_in : (version : Version) → IsOctets (payload_of version octets) × (length (payload_of version octets) ≤ 65535)
  payload_in V4 = (part_octets octets (header_length octets) (total_length octets) are, omega (arith, part_short octets (header_length octets) (total_length octets), u16_small octets 2 are))
  payload_in V6 =
      let n = hop_by_hop_length octets in
      (part_octets octets (40 + n) (40 + payload_length octets) are, omega (arith, length-take (40 + payload_length octets - (40 + n)) (drop (40 + n) octets), u16_small octets 4 are))

  says_payload : (version : Version) → (parsed version (head_of version octets) (options_of version (head_of version octets)).options (payload_of version octets)).payload ≡ payload_of version octets
  says_payload V4 = refl
  says_payload V6 = refl

  pub payload_fits : (version : Version) (p : Headers) → front_of version octets ≡ Ok p → IsOctets p.payload × (length p.payload ≤ 65535)
  payload_fits version p e =
      let same = sym (says_payload version) ∙ ap (λ (q : Headers). q.payload) (passes version octets p e).says in
      subst (λ (x : List ℕ). IsOctets x × (length x ≤ 65535)) same (payload_in version)
