-- A segment with another checksum.
use Rattle.std.proofs.Common.{◌≡◌, ℕ, suc, ◌+◌, ◌*◌, ◌/◌, ◌%◌, ◌<◌, ◌≤◌, Bool, true, false, ◌&&◌, cond, eqb, List, [], ◌∷◌, ◌++◌, length, get_or, set, take, drop, refl, sym, ap, ◌∙◌, append_assoc, arith, length-append, length-drop}
use Rattle.std.specs.Int.{w16, to_be_bytes}
use Rattle.std.proofs.lemmas.Bool.Decides.{nat_tests}
use Rattle.std.proofs.lemmas.List.{length-take-le, take-append-drop, take_at, drop_at, drop-drop, get_or_at}
use Rattle.std.proofs.lemmas.List.Edits.{sets-eq}
use Rattle.mls_label.specs.octet_grammar.Octets.{IsOctets}
use Rattle.mls_label.specs.octet_grammar.Numbers.{u16_at}
use Rattle.mls_label.proofs.octet_grammar.Octets.{octets-append, octets-cons, octets-take, octets-drop, octets-zeros}
use Rattle.version_cross.specs.Segment.{is_udp, segment_minimum, checksum_place, segment_checksum}
use Rattle.version_cross.specs.Checksum.{updated_checksum, written_checksum, with_checksum, crossed_segment}
use Rattle.version_cross.proofs.Words.{total, total-number, total-at, updated-same}

-- ---- where the checksum stands

place-half : (udp : Bool) → cond udp 6 16 ≡ 2 * cond udp 3 8
place-half true = refl
place-half false = refl

place_in : (udp : Bool) (n : ℕ) → cond udp 8 20 ≤ n → cond udp 6 16 + 2 ≤ n
place_in true n h = omega (arith, h)
place_in false n h = omega (arith, h)

-- a segment has the octets of its checksum
pub place_within : (protocol : ℕ) (segment : List ℕ) → segment_minimum protocol ≤ length segment → checksum_place protocol + 2 ≤ length segment
place_within protocol segment h = place_in (is_udp protocol) (length segment) h

-- ---- a number put into octets

-- two octets that are set one after the other
pub put_is : (octets : List ℕ) (place a b : ℕ) → place + 1 < length octets → set (set octets place a) (place + 1) b ≡ take place octets ++ (a ∷ b ∷ []) ++ drop (place + 2) octets
put_is octets place a b within =
    let next : suc place ≡ place + 1 = omega arith in
    ap (λ (i : ℕ). set (set octets place a) i b) (sym next) ∙ sets-eq (a ∷ b ∷ []) octets place (omega (arith, within))

-- the number is put into the back part
pub put_behind : (head back bytes : List ℕ) (n place : ℕ) → place ≡ length head + n → n + 2 ≤ length back
    → take place (head ++ back) ++ bytes ++ drop (place + 2) (head ++ back) ≡ head ++ (take n back ++ bytes ++ drop (n + 2) back)
put_behind head back bytes n place place_is within =
    let front = head ++ take n back in
    let long : length front ≡ place = omega (arith, length-append head (take n back), length-take-le n back (omega (arith, within)), place_is) in
    let whole : head ++ back ≡ front ++ drop n back = ap (λ (l : List ℕ). head ++ l) (sym (take-append-drop n back)) ∙ sym (append_assoc head (take n back) (drop n back)) in
    let start : take place (head ++ back) ≡ front = ap (take place) whole ∙ take_at front (drop n back) place long in
    let end : drop (place + 2) (head ++ back) ≡ drop (n + 2) back =
    sym (drop-drop 2 place (head ++ back)) ∙ ap (drop 2) (ap (drop place) whole ∙ drop_at front (drop n back) place long) ∙ drop-drop 2 n back in
    (λ i. start i ++ bytes ++ end i) ∙ ap (λ (l : List ℕ). l ++ drop (n + 2) back) (append_assoc head (take n back) bytes) ∙ append_assoc head (take n back ++ bytes) (drop (n + 2) back)

-- ---- a segment with this checksum

module _ (protocol : ℕ) (segment : List ℕ) (whole : segment_minimum protocol ≤ length segment) where
  front_long : length (take (checksum_place protocol) segment) ≡ checksum_place protocol
  front_long = length-take-le (checksum_place protocol) segment (omega (arith, place_within protocol segment whole))

  pub length-with_checksum : (c : ℕ) → length (with_checksum protocol segment c) ≡ length segment
  length-with_checksum c =
      let n = checksum_place protocol in
      omega (arith, length-append (take n segment ++ to_be_bytes w16 c) (drop (n + 2) segment), length-append (take n segment) (to_be_bytes w16 c), front_long, length-drop (n + 2) segment, place_within protocol segment whole)

  pub octets-with_checksum : (c : ℕ) → IsOctets segment → IsOctets (with_checksum protocol segment c)
  octets-with_checksum c are =
      let n = checksum_place protocol in
      let two : IsOctets (to_be_bytes w16 c) = octets-cons (c / 256 % 256) (c % 256 ∷ []) (omega arith) (octets-cons (c % 256) [] (omega arith) (octets-zeros 0)) in
      octets-append (take n segment ++ to_be_bytes w16 c) (drop (n + 2) segment) (octets-append (take n segment) (to_be_bytes w16 c) (octets-take n segment are) two) (octets-drop (n + 2) segment are)

  pub checksum-with_checksum : (c : ℕ) → c < 65536 → segment_checksum protocol (with_checksum protocol segment c) ≡ c
  checksum-with_checksum c small =
      let n = checksum_place protocol in
      let front = take n segment in
      let rest = drop (n + 2) segment in
      let a = c / 256 % 256 in
      let b = c % 256 in
      let first_is : with_checksum protocol segment c ≡ front ++ (a ∷ b ∷ rest) = append_assoc front (a ∷ b ∷ []) rest in
      let second_is : with_checksum protocol segment c ≡ (front ++ a ∷ []) ++ (b ∷ rest) = first_is ∙ sym (append_assoc front (a ∷ []) (b ∷ rest)) in
      let high : get_or (with_checksum protocol segment c) n 0 ≡ a = ap (λ (l : List ℕ). get_or l n 0) first_is ∙ get_or_at front a (b ∷ rest) 0 n front_long in
      let low : get_or (with_checksum protocol segment c) (n + 1) 0 ≡ b =
      ap (λ (l : List ℕ). get_or l (n + 1) 0) second_is ∙ get_or_at (front ++ a ∷ []) b rest 0 (n + 1) (omega (arith, length-append front (a ∷ []), front_long)) in
      omega (arith, high, low, small)

  -- what is summed is the rest of the segment and its checksum
  pub total-with_checksum : (c : ℕ) → c < 65536 → total (with_checksum protocol segment c) + segment_checksum protocol segment ≡ total segment + c
  total-with_checksum c small = at_half (checksum_place protocol) (cond (is_udp protocol) 3 8) (place-half (is_udp protocol)) (place_within protocol segment whole) where
    at_half : (n k : ℕ) → n ≡ 2 * k → n + 2 ≤ length segment → total (take n segment ++ to_be_bytes w16 c ++ drop (n + 2) segment) + u16_at segment n ≡ total segment + c
    at_half n k half within =
        let t = total-number k (take n segment) (drop (n + 2) segment) c (length-take-le n segment (omega (arith, within)) ∙ half) small in
        let s : total segment ≡ total (take n segment) + u16_at segment n + total (drop (n + 2) segment) =
        total-at k segment (omega (arith, within, half)) ∙ ap (λ (m : ℕ). total (take m segment) + u16_at segment m + total (drop (m + 2) segment)) (sym half) in
        omega (arith, t, s)

-- ---- the written checksum

written_cases : (udp zero : Bool) (c : ℕ) → (zero ≡ true → c ≡ 0) → c < 65536 → (cond (udp && zero) 65535 c < 65536) × (cond (udp && zero) 65535 c % 65535 ≡ c % 65535)
written_cases true true c is small = let none : c ≡ 0 = is refl in (omega arith, ap (λ (n : ℕ). n % 65535) (sym none))
written_cases true false c is small = (small, refl)
written_cases false zero c is small = (small, refl)

eqb-zero : (c : ℕ) → eqb c 0 ≡ true → c ≡ 0
eqb-zero c e = grind (arith, nat_tests)

-- it is of 16 bits, and the same modulo 65535
pub written_is : (protocol c : ℕ) → c < 65536 → (written_checksum protocol c < 65536) × (written_checksum protocol c % 65535 ≡ c % 65535)
written_is protocol c small = written_cases (is_udp protocol) (eqb c 0) c (eqb-zero c) small

-- UDP never has 0
never_zero : (udp zero : Bool) (c : ℕ) → eqb c 0 ≡ zero → udp && eqb (cond (udp && zero) 65535 c) 0 ≡ false
never_zero true true c is = refl
never_zero true false c is = is
never_zero false zero c is = refl

pub written_never_zero : (protocol c : ℕ) → is_udp protocol && eqb (written_checksum protocol c) 0 ≡ false
written_never_zero protocol c = never_zero (is_udp protocol) (eqb c 0) c refl

pub updated_small : (h old new : ℕ) → updated_checksum h old new < 65536
updated_small h old new = omega arith

-- ---- a segment that crossed

pub crossed-same : (protocol old new old' new' : ℕ) (segment : List ℕ) → old % 65535 ≡ old' % 65535 → new % 65535 ≡ new' % 65535 → crossed_segment protocol old new segment ≡ crossed_segment protocol old' new' segment
unfolding crossed_segment
crossed-same protocol old new old' new' segment old_is new_is =
    ap (λ (c : ℕ). with_checksum protocol segment (written_checksum protocol c)) (updated-same (segment_checksum protocol segment) old new old' new' old_is new_is)

pub length-crossed : (protocol old new : ℕ) (segment : List ℕ) → segment_minimum protocol ≤ length segment → length (crossed_segment protocol old new segment) ≡ length segment
unfolding crossed_segment
length-crossed protocol old new segment whole = length-with_checksum protocol segment whole (written_checksum protocol (updated_checksum (segment_checksum protocol segment) old new))

-- behind the head of a packet
pub crossed_behind : (protocol old new : ℕ) (head segment : List ℕ) (place : ℕ) → segment_minimum protocol ≤ length segment → place ≡ length head + checksum_place protocol
    → take place (head ++ segment) ++ to_be_bytes w16 (written_checksum protocol (updated_checksum (segment_checksum protocol segment) old new)) ++ drop (place + 2) (head ++ segment) ≡ head ++ crossed_segment protocol old new segment
unfolding crossed_segment
crossed_behind protocol old new head segment place whole place_is =
    put_behind head segment (to_be_bytes w16 (written_checksum protocol (updated_checksum (segment_checksum protocol segment) old new))) (checksum_place protocol) place place_is (place_within protocol segment whole)
