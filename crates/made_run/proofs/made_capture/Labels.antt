-- The label of a number: tag 1 can express it, since its categories stand in two octets.
use Rattle.std.proofs.Common.{◌≡◌, ℕ, ◌/◌, ◌%◌, ◌^◌, ◌-◌, ◌<◌, ◌≤◌, Bool, true, false, ◌==◌, List, [], ◌∷◌, length, get_or, IsTrue, nat_eq, nat_le, refl, sym, ap, ◌∙◌, arith, inl, inr}
use Rattle.std.specs.List.{list_all}
use Rattle.std.specs.Int.{w16, to_be_bytes, bit_at}
use Rattle.std.proofs.lemmas.Bool.{cases_lt, true≢false, and_from, or_left, or_right, eq-eqb, le-leb}
use Rattle.std.proofs.lemmas.List.{get_or_past}
use Rattle.std.proofs.lemmas.Nat.Bits.{bit_at-zero}
use Rattle.mls_label.specs.declared.label.Tag.TheVariants.{One}
use Rattle.mls_label.specs.Cats.{has}
use Rattle.mls_label.specs.Label.{IsLabel}
use Rattle.mls_label.proofs.Law.{tests_give_sets, sets_have_categories, sets_of_a_test_have_what_passes}
use Rattle.mls_label.specs.category_bitmap.Bitmap.{has_bit, bitmap_cats, octets_needed}
use Rattle.mls_label.proofs.category_bitmap.Law.{octets_suffice_for_low_categories}
use Rattle.cipso_tags.specs.Text.{Fits}
use Rattle.made_run.specs.made_capture.Packet.{label_made}

-- behind the last octet no bit is 1
bits_past : (bitmap : List ℕ) (c : ℕ) → length bitmap ≤ c / 8 → has_bit bitmap c ≡ false
bits_past bitmap c past =
    let none : get_or bitmap (c / 8) 0 ≡ 0 = get_or_past bitmap (c / 8) 0 past in
    let zero : bit_at (get_or bitmap (c / 8) 0) (7 - c % 8) ≡ 0 = ap (λ b. bit_at b (7 - c % 8)) none ∙ bit_at-zero (7 - c % 8) in
    ap (λ b. b == 1) zero

-- each category of a bitmap stands in one of its octets
stands_in : (bitmap : List ℕ) (c : ℕ) → IsTrue (has (bitmap_cats bitmap) c) → c / 8 < length bitmap
stands_in bitmap c is =
    let small : c < 65535 = sets_have_categories (bitmap_cats bitmap) c (tests_give_sets (has_bit bitmap)) is in
    let one : has_bit bitmap c ≡ true = sym (sets_of_a_test_have_what_passes (has_bit bitmap) c small) ∙ is in
    elim (cases_lt (c / 8) (length bitmap)) [
      | inl within ↦ within
      | inr past ↦ absurd (true≢false (sym one ∙ bits_past bitmap c past))
    ]

-- what holds of each category that a list has holds of all its elements
all_pass : (passes : ℕ → Bool) (cats : List ℕ) → ((c : ℕ) → IsTrue (has cats c) → passes c ≡ true) → list_all passes cats ≡ true
all_pass passes [] h = refl
all_pass passes (x ∷ cats) h =
    and_from (passes x) (list_all passes cats) (h x (or_left (nat_eq x x) (has cats x) (eq-eqb x x refl)))
    (all_pass passes cats (λ c is. h c (or_right (nat_eq c x) (has cats c) is)))

abbrev bitmap_made : ℕ → List ℕ
bitmap_made x = to_be_bytes w16 ((x / 2 ^ 40) % 2 ^ 16)

pub in_two : (x c : ℕ) → IsTrue (has (label_made x).cats c) → c / 8 < 2
in_two x c is = stands_in (bitmap_made x) c is

pub needs_two : (x : ℕ) → octets_needed (label_made x).cats ≤ 2
needs_two x = (octets_suffice_for_low_categories (label_made x).cats 2).1 (in_two x)

pub fits_one : (x : ℕ) → Fits One (label_made x)
fits_one x = all_pass (λ c. nat_le c 239) (label_made x).cats (λ c is. le-leb c 239 (omega (arith, in_two x c is)))

pub is_label : (x : ℕ) → IsLabel (label_made x)
is_label x = record { level = omega arith; cats = tests_give_sets (has_bit (bitmap_made x)) }
