-- Bitmaps in which runs are set one after another.
use Rattle.std.proofs.Common.{◌≡◌, ℕ, ◌+◌, ◌-◌, ◌*◌, ◌/◌, ◌%◌, ◌<◌, ◌≤◌, min, Bool, true, false, ◌==◌, ◌&&◌, ◌||◌, nat_lt, nat_le, List, [], ◌∷◌, ◌++◌, length, length-set, get_or, take, set, replicate, bit_or, Some, refl, sym, ap, subst, ◌∙◌, arith, inl, inr}
use Rattle.std.specs.Int.{bit_at}
use Rattle.std.specs.List.{list_any, slice_get}
use Rattle.std.proofs.Math.Bool.{or-false}
use Rattle.std.proofs.lemmas.Bool.{cases_lt, cases_eq, true≢false, leb-true, and_parts}
use Rattle.std.proofs.lemmas.Option.{slice_get_within, get_or_from_slice_get}
use Rattle.std.proofs.lemmas.Bool.Decides.{nat_tests}
use Rattle.std.proofs.lemmas.Nat.Bits.{bit_at-lt, bit_at-zero, same_from_bits_below}
use Rattle.std.proofs.lemmas.Grind.{same_number_lists}
use Rattle.std.proofs.lemmas.List.{get_or-set_same, get_or-set_other, get_or-replicate, take_more, take_all}
use Rattle.std.proofs.lemmas.List.Folds.{list_any-append}
use Rattle.mls_label.specs.octet_grammar.Octets.{IsOctets}
use Rattle.mls_label.specs.Cats.{has, is_within}
use Rattle.mls_label.specs.Runs.{runs_of}
use Rattle.mls_label.proofs.Law.{runs_have_their_numbers, runs_have_what_each_has}
use Rattle.mls_label.specs.category_bitmap.Bitmap.{has_bit, bitmap_of}
use Rattle.mls_label.proofs.category_bitmap.Places.{or_bits}
use Rattle.mls_label.proofs.category_bitmap.Written.{length-bitmap_of, bitmap_octets, bitmap_bit}

-- ---- the same bits, the same octets

no_bit : true ≡ false → ⊥
no_bit e = true≢false e

bit_of : (x y : ℕ) → x < 2 → y < 2 → (x == 1) ≡ (y == 1) → x ≡ y
bit_of x y p q e =
    elim (cases_eq x 1) [
      | inl one ↦ elim (cases_eq y 1) [
        | inl same ↦ omega arith
        | inr other ↦ let z : y ≡ 0 = omega arith in absurd (no_bit (sym (ap (λ n. n == 1) one) ∙ e ∙ ap (λ n. n == 1) z))
      ]
      | inr ne ↦ elim (cases_eq y 1) [
        | inl one ↦ let z : x ≡ 0 = omega arith in absurd (no_bit (sym (ap (λ n. n == 1) one) ∙ sym e ∙ ap (λ n. n == 1) z))
        | inr other ↦ omega arith
      ]
    ]

pub same_bitmaps : (a b : List ℕ) → length a ≡ length b → IsOctets a → IsOctets b → ((c : ℕ) → c < 8 * length a → has_bit a c ≡ has_bit b c) → a ≡ b
same_bitmaps a b long x y same =
    same_number_lists a b long (λ i lt.
    same_from_bits_below 8 (get_or a i 0) (get_or b i 0) (x.at i) (y.at i) (λ j small.
    let c = 8 * i + (7 - j) in
    let octet : c / 8 ≡ i = omega arith in
    let place : 7 - c % 8 ≡ j = omega arith in
    let bits : (bit_at (get_or a i 0) j == 1) ≡ (bit_at (get_or b i 0) j == 1) =
    sym (λ k. bit_at (get_or a (octet k) 0) (place k) == 1) ∙ same c (omega arith) ∙ (λ k. bit_at (get_or b (octet k) 0) (place k) == 1) in
    bit_of (bit_at (get_or a i 0) j) (bit_at (get_or b i 0) j) (bit_at-lt (get_or a i 0) j) (bit_at-lt (get_or b i 0) j) bits))

-- ---- the bits of a run

-- the run is set in the octets before a place
pub record HasRun (old bitmap : List ℕ) (first last at : ℕ) : Type 0 where
  pub long : length bitmap ≡ length old
  pub bits : (c : ℕ) → c < 8 * length old → has_bit bitmap c ≡ (has_bit old c || (is_within first last c && nat_lt c (8 * at)))

nothing_more : (b w : Bool) → w ≡ false → b ≡ (b || w)
nothing_more b w e = sym (ap (λ x. b || x) e ∙ or-false b)

none_yet : (first last c : ℕ) → (is_within first last c && nat_lt c (8 * (first / 8))) ≡ false
none_yet first last c =
    elim (cases_lt c first) [
      | inl before ↦ grind (arith, nat_tests)
      | inr from ↦ let past : 8 * (first / 8) ≤ c = omega arith in grind (arith, nat_tests)
    ]

pub has_none : (old : List ℕ) (first last : ℕ) → HasRun old old first last (first / 8)
has_none old first last = record {
  long = refl;
  bits = λ c lt. nothing_more (has_bit old c) _ (none_yet first last c);
}

-- the bits of the run in one octet
in_octet : (first last at c : ℕ) → first / 8 ≤ at → at ≤ last / 8 → c / 8 ≡ at → is_within (first - 8 * at) (min (last - 8 * at) 7) (c % 8) ≡ is_within first last c
in_octet first last at c begun ends e =
    elim (cases_lt c first) [
      | inl before ↦ grind (arith, nat_tests)
      | inr from ↦ elim (cases_lt last c) [
        | inl past ↦ grind (arith, nat_tests)
        | inr to ↦ grind (arith, nat_tests)
      ]
    ]

elsewhere : (w : Bool) (c at : ℕ) → (c / 8 ≡ at → ⊥) → (w && nat_lt c (8 * at)) ≡ (w && nat_lt c (8 * (at + 1)))
elsewhere w c at other =
    elim (cases_lt c (8 * at)) [
      | inl before ↦ let more : c < 8 * (at + 1) = omega arith in grind (arith, nat_tests)
      | inr from ↦ let more : 8 * (at + 1) ≤ c = omega arith in grind (arith, nat_tests)
    ]

by_tests : (b w x y : Bool) → x ≡ false → y ≡ true → ((b || (w && x)) || w) ≡ (b || (w && y))
by_tests true w x y p q = refl
by_tests false true x y p q = ap (λ z. z || true) p ∙ sym q
by_tests false false x y p q = refl

here_more : (b w : Bool) (c at : ℕ) → c / 8 ≡ at → ((b || (w && nat_lt c (8 * at))) || w) ≡ (b || (w && nat_lt c (8 * (at + 1))))
here_more b w c at e =
    let from : 8 * at ≤ c = omega arith in
    let to : c < 8 * (at + 1) = omega arith in
    let past : nat_lt c (8 * at) ≡ false = grind (arith, nat_tests) in
    let within : nat_lt c (8 * (at + 1)) ≡ true = grind (arith, nat_tests) in
    by_tests b w _ _ past within

pub has_more : (old bitmap : List ℕ) (first last at ones : ℕ) → at < length bitmap → first / 8 ≤ at → at ≤ last / 8 → HasRun old bitmap first last at → ((k : ℕ) → k < 8 → (bit_at ones (7 - k) == 1) ≡ is_within (first - 8 * at) (min (last - 8 * at) 7) k) → HasRun old (set bitmap at (bit_or (get_or bitmap at 0) ones)) first last (at + 1)
has_more old bitmap first last at ones lt begun ends h are = record {
  long = length-set bitmap at (bit_or (get_or bitmap at 0) ones) ∙ h.long;
  bits = λ c small. elim (cases_eq (c / 8) at) [
    | inl e ↦
        let new = bit_or (get_or bitmap at 0) ones in
        let octet : get_or (set bitmap at new) (c / 8) 0 ≡ new = ap (λ i. get_or (set bitmap at new) i 0) e ∙ get_or-set_same bitmap at new 0 lt in
        ap (λ o. bit_at o (7 - c % 8) == 1) octet
        ∙ or_bits (get_or bitmap at 0) ones (7 - c % 8)
        ∙ (λ i. (bit_at (get_or bitmap (sym e i) 0) (7 - c % 8) == 1) || (are (c % 8) (omega arith) ∙ in_octet first last at c begun ends e) i)
        ∙ ap (λ b. b || is_within first last c) (h.bits c small)
        ∙ here_more (has_bit old c) (is_within first last c) c at e
    | inr ne ↦
        ap (λ o. bit_at o (7 - c % 8) == 1) (get_or-set_other bitmap at (c / 8) (bit_or (get_or bitmap at 0) ones) 0 ne)
        ∙ h.bits c small
        ∙ ap (λ b. has_bit old c || b) (elsewhere (is_within first last c) c at ne)
  ];
}

within_last : (first last c : ℕ) → is_within first last c ≡ true → c ≤ last
within_last first last c e = leb-true c last (and_parts (nat_le first c) (nat_le c last) e).1

all_there : (w : Bool) (c last at long : ℕ) → c < 8 * long → (c ≤ last → c < 8 * at) → (w ≡ true → c ≤ last) → (w && nat_lt c (8 * at)) ≡ w
all_there true c last at long lt f g = let within : c < 8 * at = f (g refl) in grind (arith, nat_tests)
all_there false c last at long lt f g = refl

pub has_whole : (old bitmap : List ℕ) (first last at : ℕ) → min (length old) (last / 8 + 1) ≤ at → HasRun old bitmap first last at → (c : ℕ) → c < 8 * length old → has_bit bitmap c ≡ (has_bit old c || is_within first last c)
has_whole old bitmap first last at end h c lt =
    h.bits c lt ∙ ap (λ b. has_bit old c || b) (all_there (is_within first last c) c last at (length old) lt (λ le. omega arith) (λ e. within_last first last c e))

-- a run that stands in one octet
pub one_octet : (old : List ℕ) (first last ones : ℕ) → first / 8 ≡ last / 8 → last / 8 < length old → ((k : ℕ) → k < 8 → (bit_at ones (7 - k) == 1) ≡ is_within (first % 8) (last % 8) k)
    → (c : ℕ) → c < 8 * length old → has_bit (set old (last / 8) (bit_or (get_or old (last / 8) 0) ones)) c ≡ (has_bit old c || is_within first last c)
one_octet old first last ones same lt are =
    let at = last / 8 in
    let from : first % 8 ≡ first - 8 * at = omega (arith, same) in
    let to : last % 8 ≡ min (last - 8 * at) 7 = omega arith in
    let set_there = has_more old old first last at ones lt (omega (arith, same)) (omega arith) (subst (HasRun old old first last) same (has_none old first last)) (λ k small. are k small ∙ (λ i. is_within (from i) (to i) k)) in
    has_whole old (set old at (bit_or (get_or old at 0) ones)) first last (at + 1) (omega arith) set_there

-- ---- the bits of runs

-- of these runs
abbrev pub in_runs : List (ℕ × ℕ) → ℕ → Bool
in_runs runs c = list_any (λ (r : ℕ × ℕ). is_within r.0 r.1 c) runs

-- the first of a set's runs are set
pub record HasRuns (cats bitmap : List ℕ) (long count : ℕ) : Type 0 where
  pub length_is : length bitmap ≡ long
  pub octets : IsOctets bitmap
  pub bits : (c : ℕ) → c < 8 * long → has_bit bitmap c ≡ in_runs (take count (runs_of cats)) c

pub runs_none : (cats bitmap : List ℕ) → IsOctets bitmap → bitmap ≡ replicate (length bitmap) 0 → HasRuns cats bitmap (length bitmap) 0
runs_none cats bitmap octets zeros = record {
  length_is = refl;
  octets = octets;
  bits = λ c lt.
      let octet : get_or bitmap (c / 8) 0 ≡ 0 = ap (λ xs. get_or xs (c / 8) 0) zeros ∙ get_or-replicate (length bitmap) (c / 8) 0 0 (omega arith) in
      ap (λ o. bit_at o (7 - c % 8) == 1) octet ∙ ap (λ b. b == 1) (bit_at-zero (7 - c % 8));
}

pub runs_more : (cats bitmap new : List ℕ) (long count : ℕ) (run : ℕ × ℕ) → slice_get (runs_of cats) count ≡ Some run → HasRuns cats bitmap long count → IsOctets new → length new ≡ length bitmap → ((c : ℕ) → c < 8 * length bitmap → has_bit new c ≡ (has_bit bitmap c || is_within run.0 run.1 c)) → HasRuns cats new long (count + 1)
runs_more cats bitmap new long count run got h octets same bits = record {
  octets = octets;
  length_is = same ∙ h.length_is;
  bits = λ c lt.
      let runs = runs_of cats in
      let p : ℕ × ℕ → Bool = λ r. is_within r.0 r.1 c in
      let there = slice_get_within runs count run got in
      let is : get_or runs count run ≡ run = get_or_from_slice_get runs count run run got in
      let all : take (count + 1) runs ≡ take count runs ++ run ∷ [] = take_more runs count run there ∙ ap (λ r. take count runs ++ r ∷ []) is in
      bits c (omega (arith, lt, h.length_is))
      ∙ ap (λ b. b || is_within run.0 run.1 c) (h.bits c lt)
      ∙ ap (λ b. in_runs (take count runs) c || b) (sym (or-false (is_within run.0 run.1 c)))
      ∙ sym (list_any-append p (take count runs) (run ∷ []))
      ∙ ap (list_any p) (sym all);
}

pub runs_all : (cats bitmap : List ℕ) (long count : ℕ) → length (runs_of cats) ≤ count → HasRuns cats bitmap long count → bitmap ≡ bitmap_of cats long
runs_all cats bitmap long count le h =
    let all : take count (runs_of cats) ≡ runs_of cats = take_all count (runs_of cats) le in
    same_bitmaps bitmap (bitmap_of cats long) (h.length_is ∙ sym (length-bitmap_of cats long)) h.octets (bitmap_octets cats long) (λ c lt.
    h.bits c (omega (arith, lt, h.length_is))
    ∙ ap (λ rs. in_runs rs c) all
    ∙ sym (runs_have_what_each_has (runs_of cats) c)
    ∙ ap (λ xs. has xs c) (runs_have_their_numbers cats)
    ∙ sym (bitmap_bit cats long c (omega (arith, lt, h.length_is))))
