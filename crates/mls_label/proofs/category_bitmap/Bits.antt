-- The categories of a bitmap, collected stretch by stretch.
use Rattle.std.proofs.Common.{◌≡◌, ℕ, ◌+◌, ◌-◌, ◌*◌, ◌/◌, ◌%◌, ◌<◌, ◌≤◌, Bool, true, false, ◌==◌, ◌&&◌, ◌||◌, nat_lt, List, [], length, get_or, Option, Some, None, is_some, sym, ap, subst, ◌∙◌, arith, inl, inr}
use Rattle.std.proofs.lemmas.Bool.{cases_lt, cases_eq, true≢false, and_parts, ltb-true}
use Rattle.std.proofs.lemmas.Bool.Decides.{nat_tests}
use Rattle.std.proofs.lemmas.Nat.Bits.{bit_at-zero}
use Rattle.std.proofs.lemmas.List.{get_or_past}
use Rattle.std.specs.Int.{bit_at}
use Rattle.mls_label.specs.Cats.{has, cats_where, is_within}
use Rattle.mls_label.specs.Runs.{runs_of}
use Rattle.mls_label.proofs.Law.{tests_give_sets, sets_have_categories, sets_of_a_test_have_what_passes, sets_are_what_they_have, equal_tests_give_equal_sets}
use Rattle.mls_label.specs.category_bitmap.Bitmap.{has_bit, bitmap_cats}
use Rattle.mls_label.specs.category_bitmap.inside.Read.{cats_below, IsRead}

-- behind the last octet no bit is 1
pub bits_past : (bitmap : List ℕ) (c : ℕ) → 8 * length bitmap ≤ c → has_bit bitmap c ≡ false
bits_past bitmap c le =
    let none : get_or bitmap (c / 8) 0 ≡ 0 = get_or_past bitmap (c / 8) 0 (omega arith) in
    let zero : bit_at (get_or bitmap (c / 8) 0) (7 - c % 8) ≡ 0 = ap (λ b. bit_at b (7 - c % 8)) none ∙ bit_at-zero (7 - c % 8) in
    ap (λ b. b == 1) zero

none_below : (b : Bool) (c first : ℕ) → (c < first → b ≡ false) → false ≡ (b && nat_lt c first)
none_below b c first zeros =
    elim (cases_lt c first) [
      | inl lt ↦ let z : b ≡ false = zeros lt in grind (arith, nat_tests)
      | inr le ↦ grind (arith, nat_tests)
    ]

pub below_start : (bitmap : List ℕ) → [] ≡ cats_below bitmap 0
below_start bitmap =
    sets_are_what_they_have [] (λ c. has_bit bitmap c && nat_lt c 0) tt (λ c lt. none_below (has_bit bitmap c) c 0 (λ none. absurd (omega (arith, none))))

one_more : (b : Bool) (c first after next : ℕ) → first < after → after ≤ next → (first ≤ c → c < after → b ≡ true) → (after ≤ c → c < next → b ≡ false) → ((b && nat_lt c first) || is_within first (after - 1) c) ≡ (b && nat_lt c next)
one_more b c first after next lt le ones zeros =
    elim (cases_lt c first) [
      | inl below ↦ grind (arith, nat_tests)
      | inr above ↦ elim (cases_lt c after) [
        | inl inside ↦ let o : b ≡ true = ones above inside in grind (arith, nat_tests)
        | inr past ↦ elim (cases_lt c next) [
          | inl between ↦ let z : b ≡ false = zeros past between in grind (arith, nat_tests)
          | inr beyond ↦ grind (arith, nat_tests)
        ]
      ]
    ]

-- a stretch of ones from first on, then zeros up to next
pub below_more : (bitmap cats new : List ℕ) (first after next : ℕ) → first < after → after ≤ next → cats ≡ cats_below bitmap first → new ≡ cats_where (λ c. has cats c || is_within first (after - 1) c) → ((c : ℕ) → first ≤ c → c < after → has_bit bitmap c ≡ true) → ((c : ℕ) → after ≤ c → c < next → has_bit bitmap c ≡ false) → new ≡ cats_below bitmap next
below_more bitmap cats new first after next lt le so_far added ones zeros =
    added
    ∙ equal_tests_give_equal_sets (λ c. has cats c || is_within first (after - 1) c) (λ c. has_bit bitmap c && nat_lt c next)
    (λ c small.
    ap (λ xs. has xs c || is_within first (after - 1) c) so_far
    ∙ ap (λ b. b || is_within first (after - 1) c) (sets_of_a_test_have_what_passes (λ d. has_bit bitmap d && nat_lt d first) c small)
    ∙ one_more (has_bit bitmap c) c first after next lt le (ones c) (zeros c))

all_below : (b : Bool) (c end : ℕ) → (end ≤ c → b ≡ false) → (b && nat_lt c end) ≡ b
all_below b c end zeros =
    elim (cases_lt c end) [
      | inl lt ↦ grind (arith, nat_tests)
      | inr le ↦ let z : b ≡ false = zeros le in grind (arith, nat_tests)
    ]

pub below_end : (bitmap cats : List ℕ) (end : ℕ) → 8 * length bitmap ≤ end → cats ≡ cats_below bitmap end → cats ≡ bitmap_cats bitmap
below_end bitmap cats end le so_far =
    so_far ∙ equal_tests_give_equal_sets (λ c. has_bit bitmap c && nat_lt c end) (has_bit bitmap) (λ c small. all_below (has_bit bitmap c) c end (λ past. bits_past bitmap c (omega arith)))

no_more : (b : Bool) (c at next : ℕ) → at ≤ next → (at ≤ c → c < next → b ≡ false) → (b && nat_lt c at) ≡ (b && nat_lt c next)
no_more b c at next le zeros =
    elim (cases_lt c at) [
      | inl below ↦ grind (arith, nat_tests)
      | inr above ↦ elim (cases_lt c next) [
        | inl between ↦ let z : b ≡ false = zeros above between in grind (arith, nat_tests)
        | inr beyond ↦ grind (arith, nat_tests)
      ]
    ]

-- zeros up to next
below_zeros : (bitmap cats : List ℕ) (at next : ℕ) → at ≤ next → cats ≡ cats_below bitmap at → ((c : ℕ) → at ≤ c → c < next → has_bit bitmap c ≡ false) → cats ≡ cats_below bitmap next
below_zeros bitmap cats at next le so_far zeros =
    so_far ∙ equal_tests_give_equal_sets (λ c. has_bit bitmap c && nat_lt c at) (λ c. has_bit bitmap c && nat_lt c next) (λ c small. no_more (has_bit bitmap c) c at next le (zeros c))

-- ---- what is known while a bitmap is read

pub nothing_read : (bitmap cats : List ℕ) → cats ≡ [] → IsRead bitmap cats None 0
nothing_read bitmap cats empty = record {
  so_far = empty ∙ below_start bitmap;
  few = omega (arith, ap (λ xs. length (runs_of xs)) empty);
  gap = λ k e. absurd (omega (arith, e));
  order = tt;
  ones = tt;
}

-- bits that end no run and begin none
pub read_on : (bitmap cats : List ℕ) (begun : Option ℕ) (at next : ℕ) → at ≤ next → IsRead bitmap cats begun at → ((c : ℕ) → at ≤ c → c < next → has_bit bitmap c ≡ is_some begun) → IsRead bitmap cats begun next
read_on bitmap cats None at next le is same = record {
  so_far = below_zeros bitmap cats at next le is.so_far same;
  few = omega (arith, is.few);
  gap = λ k e. elim (cases_lt k at) [
    | inl lt ↦ is.gap k (omega arith)
    | inr ge ↦ same k ge (omega (arith, e))
  ];
  order = tt;
  ones = tt;
}
read_on bitmap cats (Some first) at next le is same = record {
  so_far = is.so_far;
  few = is.few;
  gap = is.gap;
  order = omega (arith, is.order);
  ones = λ k from lt. elim (cases_lt k at) [
    | inl before ↦ is.ones k from before
    | inr ge ↦ same k ge lt
  ];
}

-- no category stands directly before those to come
pub read_behind : (bitmap cats : List ℕ) (first : ℕ) → cats ≡ cats_below bitmap first → ((k : ℕ) → k + 1 ≡ first → has_bit bitmap k ≡ false) → (d : ℕ) → has cats d ≡ true → d + 1 < first
read_behind bitmap cats first so_far gap d h =
    let test : ℕ → Bool = λ c. has_bit bitmap c && nat_lt c first in
    let there : has (cats_below bitmap first) d ≡ true = ap (λ xs. has xs d) (sym so_far) ∙ h in
    let small : d < 65535 = sets_have_categories (cats_below bitmap first) d (tests_give_sets test) there in
    let both = and_parts (has_bit bitmap d) (nat_lt d first) (sym (sets_of_a_test_have_what_passes test d small) ∙ there) in
    let below : d < first = ltb-true d first both.1 in
    elim (cases_eq (d + 1) first) [
      | inl e ↦ absurd (true≢false (sym both.0 ∙ gap d e))
      | inr ne ↦ omega arith
    ]

-- a bit that begins a run
pub run_begins : (bitmap cats : List ℕ) (c : ℕ) → IsRead bitmap cats None c → has_bit bitmap c ≡ true → IsRead bitmap cats (Some c) (c + 1)
run_begins bitmap cats c is bit = record {
  so_far = is.so_far;
  few = is.few;
  gap = is.gap;
  order = omega arith;
  ones = λ k from lt. let same : k ≡ c = omega arith in ap (has_bit bitmap) same ∙ bit;
}

-- a bit that ends the one that has begun
pub run_ends : (bitmap cats new : List ℕ) (first c : ℕ) → IsRead bitmap cats (Some first) c → has_bit bitmap c ≡ false → new ≡ cats_where (λ d. has cats d || is_within first (c - 1) d) → length (runs_of new) ≤ length (runs_of cats) + 1 → IsRead bitmap new None (c + 1)
run_ends bitmap cats new first c is bit added more = record {
  so_far = below_more bitmap cats new first c (c + 1) is.order (omega arith) is.so_far added is.ones (λ k from lt. let same : k ≡ c = omega arith in ap (has_bit bitmap) same ∙ bit);
  few = omega (arith, is.few, is.order, more);
  gap = λ k e. let same : k ≡ c = omega (arith, e) in ap (has_bit bitmap) same ∙ bit;
  order = tt;
  ones = tt;
}

-- ---- the end

-- one that goes on does so to the last octet's end
pub read_to_end : (bitmap cats : List ℕ) (first end : ℕ) → 8 * length bitmap ≤ end → IsRead bitmap cats (Some first) end → IsRead bitmap cats (Some first) (8 * length bitmap)
read_to_end bitmap cats first end le is =
    elim (cases_lt (8 * length bitmap) end) [
      | inl past ↦ absurd (true≢false (sym (is.ones (end - 1) (omega (arith, is.order)) (omega arith)) ∙ bits_past bitmap (end - 1) (omega arith)))
      | inr ge ↦ let same : end ≡ 8 * length bitmap = omega arith in subst (IsRead bitmap cats (Some first)) same is
    ]

pub read_last : (bitmap cats new : List ℕ) (first : ℕ) → IsRead bitmap cats (Some first) (8 * length bitmap) → new ≡ cats_where (λ d. has cats d || is_within first (8 * length bitmap - 1) d) → new ≡ bitmap_cats bitmap
read_last bitmap cats new first is added =
    let end = 8 * length bitmap in
    below_end bitmap new end (omega arith) (below_more bitmap cats new first end end is.order (omega arith) is.so_far added is.ones (λ c from lt. absurd (omega arith)))
