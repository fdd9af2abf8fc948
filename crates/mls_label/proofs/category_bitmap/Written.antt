-- A written bitmap has the categories of its set.
use Rattle.std.proofs.Common.{◌≡◌, ℕ, ◌+◌, ◌-◌, ◌*◌, ◌/◌, ◌%◌, ◌<◌, ◌≤◌, Bool, true, false, ◌==◌, ◌||◌, List, [], ◌∷◌, length, get_or, refl, sym, ap, ◌∙◌, arith, inl, inr}
use Rattle.std.specs.Int.{bit_at}
use Rattle.std.proofs.lemmas.Bool.{cases_lt, cases_eq, eq-eqb, ne_eqb, false≢true}
use Rattle.std.proofs.lemmas.List.{get_or_past}
use Rattle.std.proofs.lemmas.List.FromFn.{length-map-range_with_len, get_or-map-range_with_len}
use Rattle.mls_label.specs.octet_grammar.Octets.{IsOctets}
use Rattle.mls_label.specs.Cats.{has, IsCats}
use Rattle.mls_label.proofs.Law.{sets_are_what_they_have}
use Rattle.mls_label.specs.category_bitmap.Bitmap.{has_bit, bitmap_cats, octets_needed, octet_of, bitmap_of}
use Rattle.mls_label.proofs.category_bitmap.Bits.{bits_past}
use Rattle.mls_label.proofs.category_bitmap.Octets.{octet_bit, octet_small}

-- ---- the octets that a set needs

has_first : (x : ℕ) (cats : List ℕ) (c : ℕ) → c ≡ x → has (x ∷ cats) c ≡ true
has_first x cats c e = ap (λ b. b || has cats c) (eq-eqb c x e)

has_rest : (x : ℕ) (cats : List ℕ) (c : ℕ) → (c ≡ x → ⊥) → has (x ∷ cats) c ≡ has cats c
has_rest x cats c ne = ap (λ b. b || has cats c) (ne_eqb c x ne)

has_more : (x : ℕ) (cats : List ℕ) (c : ℕ) → has cats c ≡ true → has (x ∷ cats) c ≡ true
has_more x cats c h =
    elim (cases_eq c x) [
      | inl e ↦ has_first x cats c e
      | inr ne ↦ has_rest x cats c ne ∙ h
    ]

pub needs_at_most : (cats : List ℕ) (n : ℕ) → ((c : ℕ) → has cats c ≡ true → c / 8 < n) → octets_needed cats ≤ n
needs_at_most [] n most = omega arith
needs_at_most (c ∷ cats) n most =
    let first : c / 8 < n = most c (has_first c cats c refl) in
    let rest : octets_needed cats ≤ n = needs_at_most cats n (λ d h. most d (has_more c cats d h)) in
    omega arith

pub needs_each : (cats : List ℕ) (c : ℕ) → has cats c ≡ true → c / 8 < octets_needed cats
needs_each [] c h = absurd (false≢true h)
needs_each (x ∷ cats) c h =
    elim (cases_eq c x) [
      | inl e ↦ omega (arith, e)
      | inr ne ↦ omega (arith, needs_each cats c (sym (has_rest x cats c ne) ∙ h))
    ]

pub needs_highest : (cats : List ℕ) (c : ℕ) → has cats c ≡ true → ((d : ℕ) → has cats d ≡ true → d ≤ c) → c / 8 + 1 ≡ octets_needed cats
needs_highest cats c h most =
    let low : c / 8 < octets_needed cats = needs_each cats c h in
    let high : octets_needed cats ≤ c / 8 + 1 = needs_at_most cats (c / 8 + 1) (λ d is. omega (arith, most d is)) in
    omega arith

-- ---- its bitmap

pub length-bitmap_of : (cats : List ℕ) (n : ℕ) → length (bitmap_of cats n) ≡ n
length-bitmap_of cats n = length-map-range_with_len (octet_of cats) 0 n

pub bitmap_octets : (cats : List ℕ) (n : ℕ) → IsOctets (bitmap_of cats n)
bitmap_octets cats n =
    record {
      at = λ i. elim (cases_lt i n) [
        | inl lt ↦ rw (get_or-map-range_with_len (octet_of cats) 0 n i i 0 lt (omega arith)) (octet_small cats i)
        | inr ge ↦ rw (get_or_past (bitmap_of cats n) i 0 (omega (arith, length-bitmap_of cats n))) (omega arith)
      ];
    }

pub bitmap_bit : (cats : List ℕ) (n c : ℕ) → c / 8 < n → has_bit (bitmap_of cats n) c ≡ has cats c
bitmap_bit cats n c lt =
    let at : get_or (bitmap_of cats n) (c / 8) 0 ≡ octet_of cats (c / 8) = get_or-map-range_with_len (octet_of cats) 0 n (c / 8) (c / 8) 0 lt (omega arith) in
    let whole : 8 * (c / 8) + c % 8 ≡ c = omega arith in
    ap (λ octet. bit_at octet (7 - c % 8) == 1) at ∙ octet_bit cats (c / 8) (c % 8) (omega arith) ∙ ap (has cats) whole

none_past : (b : Bool) → (b ≡ true → ⊥) → b ≡ false
none_past true not = absurd (not refl)
none_past false not = refl

pub written_reads_back : (cats : List ℕ) (n : ℕ) → IsCats cats → octets_needed cats ≤ n → bitmap_cats (bitmap_of cats n) ≡ cats
written_reads_back cats n is enough =
    sym (sets_are_what_they_have cats (has_bit (bitmap_of cats n)) is
    (λ c small.
    elim (cases_lt (c / 8) n) [
      | inl lt ↦ sym (bitmap_bit cats n c lt)
      | inr ge ↦
          none_past (has cats c) (λ h. omega (arith, needs_each cats c h)) ∙ sym (bits_past (bitmap_of cats n) c (omega (arith, length-bitmap_of cats n)))
    ]))
