-- What fits a tag, and how long its body is.
use Rattle.std.proofs.Common.{◌≡◌, ℕ, ◌*◌, ◌≤◌, Bool, true, false, ◌&&◌, nat_le, List, [], ◌∷◌, length, refl, arith, inl, inr, length-append}
use Rattle.std.specs.List.{list_all}
use Rattle.std.proofs.lemmas.Bool.{le-leb, leb-true, cases_eq, eq-eqb, ne_eqb}
use Rattle.std.proofs.lemmas.List.FromFn.{length-map-range_with_len}
use Rattle.mls_label.specs.declared.label.Tag.{Tag}
use Rattle.mls_label.specs.declared.label.Tag.TheVariants.{One, Two, Five}
use Rattle.mls_label.specs.declared.label.Label.{Label}
use Rattle.mls_label.specs.Runs.{runs_of}
use Rattle.mls_label.specs.category_bitmap.Bitmap.{octets_needed, octet_of}
use Rattle.cipso_tags.specs.Text.{Fits, body_text, ends_down, range_numbers}
use Rattle.cipso_tags.proofs.Words.{length-words}
use Rattle.cipso_tags.proofs.Runs.{length-ends_down}

both_parts : (x y : Bool) → (x && y) ≡ true → (x ≡ true) × (y ≡ true)
both_parts true true e = (refl, refl)
both_parts true false e = absurd (cc)
both_parts false y e = absurd (cc)

pub bits_fit : (cats : List ℕ) → octets_needed cats ≤ 30 → list_all (λ c. nat_le c 239) cats ≡ true
bits_fit [] le = refl
bits_fit (c ∷ cats) le =
    let first : nat_le c 239 ≡ true = le-leb c 239 (omega arith) in
    let rest : list_all (λ c. nat_le c 239) cats ≡ true = bits_fit cats (omega arith) in
    λ i. first i && rest i

pub bits_need : (cats : List ℕ) → list_all (λ c. nat_le c 239) cats ≡ true → octets_needed cats ≤ 30
bits_need [] low = omega arith
bits_need (c ∷ cats) low =
    let parts = both_parts (nat_le c 239) (list_all (λ d. nat_le d 239) cats) low in
    let first : c ≤ 239 = leb-true c 239 parts.0 in
    let rest : octets_needed cats ≤ 30 = bits_need cats parts.1 in
    omega arith

pub numbers_few : (runs : List (ℕ × ℕ)) → length (range_numbers runs) ≤ 2 * length runs
numbers_few [] = omega arith
numbers_few (r ∷ runs) =
    elim (cases_eq r.0 0) [
      | inl e ↦ rw (eq-eqb r.0 0 e) (omega (arith, length-append (ends_down runs) (r.1 ∷ []), length-ends_down runs))
      | inr ne ↦ rw (ne_eqb r.0 0 ne) (omega (arith, length-append (ends_down runs) (r.1 ∷ r.0 ∷ []), length-ends_down runs))
    ]

-- a body that fits has at most 30 octets
pub body_small : (tag : Tag) (label : Label) → Fits tag label → length (body_text tag label.cats) ≤ 30
body_small One label fit = omega (arith, bits_need label.cats fit, length-map-range_with_len (octet_of label.cats) 0 (octets_needed label.cats))
body_small Two label fit = omega (arith, leb-true (length label.cats) 15 fit, length-words label.cats)
body_small Five label fit =
    omega (arith, leb-true (length (runs_of label.cats)) 7 fit, length-words (range_numbers (runs_of label.cats)), numbers_few (runs_of label.cats))
