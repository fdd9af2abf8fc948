-- Tops and bottoms in turn, each range below the one before it.
use Rattle.std.proofs.Common.{◌≡◌, ℕ, zero, suc, ◌+◌, ◌-◌, ◌*◌, ◌/◌, ◌%◌, ◌<◌, ◌≤◌, min, Bool, true, nat_lt, take, MatchBool, ◌||◌, false, List, [], ◌∷◌, ◌++◌, length, refl, sym, ap, subst, ◌∙◌, append_assoc, arith, length-append}
use Rattle.std.proofs.Math.Bool.{or_assoc, or-false}
use Rattle.std.proofs.lemmas.Bool.{ltb-true, ltb-false}
use Rattle.mls_label.specs.octet_grammar.Octets.{IsOctets}
use Rattle.mls_label.specs.Cats.{has, cats_where, is_within}
use Rattle.mls_label.proofs.Law.{sets_are_what_they_have, equal_tests_give_equal_sets, sets_of_a_test_have_what_passes}
use Rattle.mls_label.specs.octet_grammar.Numbers.{u16_at}
use Rattle.mls_label.specs.octet_grammar.Place.{IsNumberAt, FaultsInNumber}
use Rattle.cipso_tags.specs.Body.{words, Descends, covers}
use Rattle.cipso_tags.proofs.Words.{AreSmall, take_number}
use Rattle.mls_label.specs.declared.octet_grammar.fault.WireFault.{WireFault}
use Rattle.mls_label.specs.octet_grammar.Front.{ReadsFront}
use Rattle.mls_label.specs.octet_grammar.Fault.{FailsFront}
use Rattle.cipso_tags.proofs.Numbers.{NumbersOf, IsStep, IsAfter, after_start, step_fails, numbers_read}

descends_small : (upper : ℕ) (ns : List ℕ) → upper ≤ 65536 → Descends upper ns → AreSmall ns
descends_small upper [] le d = tt
descends_small upper (top ∷ []) le d = (omega (arith, d), tt)
descends_small upper (top ∷ bottom ∷ ns) le d =
    (omega (arith, d.0), (omega (arith, d.0, d.1), descends_small bottom ns (omega (arith, d.0, d.1)) d.2))

pub ranges_small : (ns : List ℕ) → Descends 65535 ns → AreSmall ns
ranges_small ns d = descends_small 65535 ns (omega arith) d

-- each range needs a number of its own
descends_room : (upper : ℕ) (ys : List ℕ) → Descends upper ys → (length ys + 1) / 2 ≤ upper
descends_room upper [] d = omega arith
descends_room upper (top ∷ []) d = omega (arith, d)
descends_room upper (top ∷ bottom ∷ ys) d = omega (arith, d.0, d.1, descends_room bottom ys d.2)

-- the lowest ranges of so many numbers
pub lowest : ℕ → List ℕ
lowest zero = []
lowest (suc zero) = 0 ∷ []
lowest (suc (suc n)) = (n + 1) / 2 ∷ (n + 1) / 2 ∷ lowest n

pub length-lowest : (n : ℕ) → length (lowest n) ≡ n
unfolding lowest
length-lowest zero = refl
length-lowest (suc zero) = refl
length-lowest (suc (suc n)) = omega (arith, length-lowest n)

pub lowest_descends : (upper n : ℕ) → (n + 1) / 2 ≤ upper → Descends upper (lowest n)
unfolding lowest
lowest_descends upper zero le = tt
lowest_descends upper (suc zero) le = omega arith
lowest_descends upper (suc (suc n)) le = (omega arith, omega arith, lowest_descends ((n + 1) / 2) n (omega arith))

below_top : (top : ℕ) (ys : List ℕ) (upper : ℕ) → Descends upper (top ∷ ys) → (top < upper) × (length ys / 2 ≤ top)
below_top top [] upper d = (d, omega arith)
below_top top (bottom ∷ ys) upper d = (d.0, omega (arith, d.1, descends_room bottom ys d.2))

-- what may stand behind a top: its bottom, and the lowest ranges
lowest_behind : ℕ → List ℕ
lowest_behind zero = []
lowest_behind (suc n) = (n + 1) / 2 ∷ lowest n

length-lowest_behind : (n : ℕ) → length (lowest_behind n) ≡ n
unfolding lowest_behind
length-lowest_behind zero = refl
length-lowest_behind (suc n) = omega (arith, length-lowest n)

behind_top : (c later upper : ℕ) → later / 2 ≤ c → c < upper → Descends upper (c ∷ lowest_behind later)
unfolding lowest_behind
behind_top c zero upper le lt = lt
behind_top c (suc n) upper le lt = (lt, omega arith, lowest_descends ((n + 1) / 2) n (omega arith))

pub top_step : (count : ℕ) (xs : List ℕ) (upper later low : ℕ) → length xs + 1 + later ≡ count → low ≡ later / 2 → 0 < upper → IsAfter (Descends 65535) (Descends upper) xs → IsStep (Descends 65535) count xs low (upper - 1)
top_step count xs upper later low long half some after =
    record {
      bound = λ y ys d same.
          let b = below_top y ys upper (after.tight (y ∷ ys) d) in
          (omega (arith, b.1), omega (arith, b.0));
      extend = λ c le ge. (
        lowest_behind later,
        omega (arith, length-lowest_behind later),
        after.loose (c ∷ lowest_behind later) (behind_top c later upper (omega arith) (omega arith)),
      );
    }

pub bottom_step : (count : ℕ) (xs : List ℕ) (upper top later low : ℕ) → length xs + 2 + later ≡ count → low ≡ (later + 1) / 2 → top < upper → IsAfter (Descends 65535) (Descends upper) xs → IsStep (Descends 65535) count (xs ++ top ∷ []) low top
bottom_step count xs upper top later low long half lt after =
    record {
      bound = λ y ys d same.
          let a : Descends upper (top ∷ y ∷ ys) = after.tight (top ∷ y ∷ ys) (subst (Descends 65535) (append_assoc xs (top ∷ []) (y ∷ ys)) d) in
          (omega (arith, descends_room y ys a.2, same, length-append xs (top ∷ [])), a.1);
      extend = λ c le ge. (
        lowest later,
        omega (arith, length-lowest later, length-append xs (top ∷ [])),
        subst (Descends 65535) (sym (append_assoc xs (top ∷ []) (c ∷ lowest later))) (after.loose (top ∷ c ∷ lowest later) (lt, ge, lowest_descends c later (omega arith))),
      );
    }

pub ranges_more : (xs : List ℕ) (upper top bottom : ℕ) → top < upper → bottom ≤ top → IsAfter (Descends 65535) (Descends upper) xs → IsAfter (Descends 65535) (Descends bottom) (xs ++ top ∷ bottom ∷ [])
ranges_more xs upper top bottom lt le after =
    record {
      tight = λ ys d. (after.tight (top ∷ bottom ∷ ys) (subst (Descends 65535) (append_assoc xs (top ∷ bottom ∷ []) ys) d)).2;
      loose = λ ys a. subst (Descends 65535) (sym (append_assoc xs (top ∷ bottom ∷ []) ys)) (after.loose (top ∷ bottom ∷ ys) (lt, le, a));
    }

-- ---- the categories

pub covers-append : (xs ys : List ℕ) (c : ℕ) → length xs % 2 ≡ 0 → covers (xs ++ ys) c ≡ (covers xs c || covers ys c)
covers-append [] ys c even = refl
covers-append (x ∷ []) ys c even = absurd (omega (arith, even))
covers-append (top ∷ bottom ∷ xs) ys c even =
    ap (λ b. is_within bottom top c || b) (covers-append xs ys c (omega (arith, even))) ∙ sym (or_assoc (is_within bottom top c) (covers xs c) (covers ys c))

pub covers_more : (xs ys cats new : List ℕ) (top bottom : ℕ) → length xs % 2 ≡ 0 → cats ≡ cats_where (covers xs) → ((c : ℕ) → covers ys c ≡ is_within bottom top c) → new ≡ cats_where (λ c. has cats c || is_within bottom top c) → new ≡ cats_where (covers (xs ++ ys))
covers_more xs ys cats new top bottom even so_far last added =
    added
    ∙ equal_tests_give_equal_sets (λ c. has cats c || is_within bottom top c) (covers (xs ++ ys))
    (λ c small.
    ap (λ b. b || is_within bottom top c) (ap (λ x. has x c) so_far ∙ sets_of_a_test_have_what_passes (covers xs) c small)
    ∙ ap (λ b. covers xs c || b) (sym (last c))
    ∙ sym (covers-append xs ys c even))

-- ---- ranges read

-- so many ranges were read, and the next lies below upper
pub record HasRanges (s : List ℕ) (count done upper : ℕ) (cats : List ℕ) : Type 0 where
  pub numbers : List ℕ
  pub read : take (2 * length numbers) s ≡ words numbers
  pub within : 2 * length numbers ≤ length s
  pub long : length numbers ≡ min (2 * done) count
  pub descends : Descends 65535 numbers
  pub after : 2 * done ≤ count → IsAfter (Descends 65535) (Descends upper) numbers
  pub covered : cats ≡ cats_where (covers numbers)

pub ranges_start : (s : List ℕ) (count : ℕ) (cats : List ℕ) → cats ≡ [] → HasRanges s count 0 65535 cats
ranges_start s count cats none =
    record {
      numbers = [];
      read = refl;
      within = omega arith;
      long = omega arith;
      descends = tt;
      after = λ le. after_start (Descends 65535);
      covered = none ∙ sets_are_what_they_have [] (covers []) tt (λ c small. refl);
    }

top_read : (s xs : List ℕ) (o top : ℕ) → IsOctets s → o ≡ 2 * length xs → take (2 * length xs) s ≡ words xs → o + 1 < length s → top ≡ u16_at s o → take (o + 2) s ≡ words (xs ++ top ∷ [])
top_read s xs o top octets at read lt is = take_number s xs o top octets (ap (λ k. take k s) at ∙ read) lt is

pub range_whole : (s : List ℕ) (count done upper : ℕ) (cats new : List ℕ) (low top bottom : ℕ) → IsOctets s → 2 * done + 1 < count → 0 < upper → HasRanges s count done upper cats → IsNumberAt s (4 * done) low (upper - 1) top → IsNumberAt s (4 * done + 2) low top bottom → new ≡ cats_where (λ c. has cats c || is_within bottom top c) → HasRanges s count (done + 1) bottom new
range_whole s count done upper cats new low top bottom octets more some seen first second added =
    let xs = seen.numbers in
    let long : length xs ≡ 2 * done = omega (arith, seen.long) in
    let lt : top < upper = omega (arith, first.bounds.1) in
    let long_top : length (xs ++ top ∷ []) ≡ 2 * done + 1 = omega (arith, length-append xs (top ∷ [])) in
    let long_all : length (xs ++ top ∷ bottom ∷ []) ≡ 2 * done + 2 = omega (arith, length-append xs (top ∷ bottom ∷ [])) in
    let half : take (4 * done + 2) s ≡ words (xs ++ top ∷ []) = top_read s xs (4 * done) top octets (omega arith) seen.read first.within first.is in
    let whole : take (4 * done + 2 + 2) s ≡ words ((xs ++ top ∷ []) ++ bottom ∷ []) = take_number s (xs ++ top ∷ []) (4 * done + 2) bottom octets half second.within second.is in
    let at : 2 * length (xs ++ top ∷ bottom ∷ []) ≡ 4 * done + 2 + 2 = omega arith in
    let after = seen.after (omega arith) in
    record {
      numbers = xs ++ top ∷ bottom ∷ [];
      read = ap (λ k. take k s) at ∙ whole ∙ ap words (append_assoc xs (top ∷ []) (bottom ∷ []));
      within = omega (arith, second.within);
      long = omega arith;
      descends = after.loose (top ∷ bottom ∷ []) (lt, second.bounds.1, tt);
      after = λ le. ranges_more xs upper top bottom lt second.bounds.1 after;
      covered = covers_more xs (top ∷ bottom ∷ []) cats new top bottom (omega arith) seen.covered (λ c. or-false (is_within bottom top c)) added;
    }

pub range_half : (s : List ℕ) (count done upper : ℕ) (cats new : List ℕ) (low top bottom : ℕ) → IsOctets s → 2 * done + 1 ≡ count → 0 < upper → HasRanges s count done upper cats → IsNumberAt s (4 * done) low (upper - 1) top → bottom ≡ 0 → new ≡ cats_where (λ c. has cats c || is_within bottom top c) → HasRanges s count (done + 1) bottom new
range_half s count done upper cats new low top bottom octets last some seen first none added =
    let xs = seen.numbers in
    let long : length xs ≡ 2 * done = omega (arith, seen.long) in
    let lt : top < upper = omega (arith, first.bounds.1) in
    let long_top : length (xs ++ top ∷ []) ≡ 2 * done + 1 = omega (arith, length-append xs (top ∷ [])) in
    let half : take (4 * done + 2) s ≡ words (xs ++ top ∷ []) = top_read s xs (4 * done) top octets (omega arith) seen.read first.within first.is in
    let at : 2 * length (xs ++ top ∷ []) ≡ 4 * done + 2 = omega arith in
    let after = seen.after (omega arith) in
    record {
      numbers = xs ++ top ∷ [];
      read = ap (λ k. take k s) at ∙ half;
      within = omega (arith, first.within);
      long = omega arith;
      descends = after.loose (top ∷ []) lt;
      after = λ le. absurd (omega arith);
      covered = covers_more xs (top ∷ []) cats new top bottom (omega arith) seen.covered (λ c. ap (λ b. is_within b top c) (sym none)) added;
    }

pub range_next : (b : Bool) (s : List ℕ) (count done upper : ℕ) (cats new : List ℕ) (low top bottom : ℕ) → b ≡ nat_lt (2 * done + 1) count → IsOctets s → 2 * done < count → 0 < upper → HasRanges s count done upper cats → IsNumberAt s (4 * done) low (upper - 1) top → MatchBool b (IsNumberAt s (4 * done + 2) low top bottom) (bottom ≡ 0) → new ≡ cats_where (λ c. has cats c || is_within bottom top c) → HasRanges s count (done + 1) bottom new
range_next true s count done upper cats new low top bottom is octets more some seen first second added =
    range_whole s count done upper cats new low top bottom octets (ltb-true (2 * done + 1) count (sym is)) some seen first second added
range_next false s count done upper cats new low top bottom is octets more some seen first second added =
    range_half s count done upper cats new low top bottom octets (omega (arith, ltb-false (2 * done + 1) count (sym is))) some seen first second added

pub range_room : (b : Bool) (s : List ℕ) (at count done low top bottom : ℕ) → b ≡ nat_lt (2 * done + 1) count → low ≡ (count + 1) / 2 - 1 - done → MatchBool b (IsNumberAt s at low top bottom) (bottom ≡ 0) → (count + 1) / 2 ≤ bottom + (done + 1)
range_room true s at count done low top bottom is later number = omega (arith, number.bounds.0)
range_room false s at count done low top bottom is later none = omega (arith, ltb-false (2 * done + 1) count (sym is))

-- ---- faults

abbrev pub covered_by : List ℕ → List ℕ
covered_by numbers = cats_where (covers numbers)

pub top_fails : (s : List ℕ) (count done upper low : ℕ) (cats : List ℕ) (e : WireFault) → count ≤ 14 → 2 * done < count → low ≡ (count + 1) / 2 - 1 - done → (count + 1) / 2 ≤ upper + done → upper ≤ 65535 → IsOctets s → HasRanges s count done upper cats → FaultsInNumber s (4 * done) low (upper - 1) e → FailsFront (NumbersOf 14 (Descends 65535) covered_by count) s e
top_fails s count done upper low cats e fits more later room small octets seen faults =
    let xs = seen.numbers in
    let long : length xs ≡ 2 * done = omega (arith, seen.long) in
    let at : 4 * done ≡ 2 * length xs = omega arith in
    let step = top_step count xs upper (count - 2 * done - 1) low (omega arith) (omega arith) (omega arith) (seen.after (omega arith)) in
    step_fails 14 (Descends 65535) covered_by count s xs (4 * done) low (upper - 1) e ranges_small fits (omega (arith, seen.within)) (ap (λ k. take k s) at ∙ seen.read) (omega arith) (omega arith) (omega arith) (octets.at (4 * done)) step faults

pub bottom_fails : (s : List ℕ) (count done upper low top : ℕ) (cats : List ℕ) (e : WireFault) → count ≤ 14 → 2 * done + 1 < count → low ≡ (count + 1) / 2 - 1 - done → (count + 1) / 2 ≤ upper + done → upper ≤ 65535 → IsOctets s → HasRanges s count done upper cats → IsNumberAt s (4 * done) low (upper - 1) top → FaultsInNumber s (4 * done + 2) low top e → FailsFront (NumbersOf 14 (Descends 65535) covered_by count) s e
bottom_fails s count done upper low top cats e fits more later room small octets seen number faults =
    let xs = seen.numbers in
    let long : length xs ≡ 2 * done = omega (arith, seen.long) in
    let long_top : length (xs ++ top ∷ []) ≡ 2 * done + 1 = omega (arith, length-append xs (top ∷ [])) in
    let step = bottom_step count xs upper top (count - 2 * done - 2) low (omega arith) (omega arith) (omega (arith, number.bounds.1)) (seen.after (omega arith)) in
    let half : take (4 * done + 2) s ≡ words (xs ++ top ∷ []) = top_read s xs (4 * done) top octets (omega arith) seen.read number.within number.is in
    step_fails 14 (Descends 65535) covered_by count s (xs ++ top ∷ []) (4 * done + 2) low top e ranges_small fits (omega (arith, number.within)) half (omega arith) number.bounds.0 (omega (arith, number.bounds.1, small)) (octets.at (4 * done + 2)) step faults

pub ranges_read : (s : List ℕ) (count done upper : ℕ) (cats : List ℕ) → count ≤ 14 → count ≤ 2 * done → HasRanges s count done upper cats → ReadsFront (NumbersOf 14 (Descends 65535) covered_by count) s cats (2 * count)
ranges_read s count done upper cats fits all seen =
    let long : length seen.numbers ≡ count = omega (arith, seen.long) in
    let read : take (2 * count) s ≡ words seen.numbers = ap (λ k. take (2 * k) s) (sym long) ∙ seen.read in
    subst (λ x. ReadsFront (NumbersOf 14 (Descends 65535) covered_by count) s x (2 * count)) (sym seen.covered)
    (numbers_read 14 (Descends 65535) covered_by count s seen.numbers fits (omega (arith, seen.within)) read long seen.descends)
