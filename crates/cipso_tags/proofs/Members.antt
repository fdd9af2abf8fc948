-- A written tag is a tag with the label that it was written from.
use Rattle.std.proofs.Common.{◌≡◌, ℕ, Bool, ◌+◌, ◌<◌, ◌≤◌, ◌||◌, List, [], ◌∷◌, ◌++◌, length, refl, sym, ap, subst, ◌∙◌, append_assoc, arith, inl, inr}
use Rattle.std.specs.List.{list_any}
use Rattle.std.proofs.Math.Bool.{or_comm, or-false}
use Rattle.std.proofs.lemmas.Bool.{cases_eq, eq-eqb, ne_eqb, leb-true}
use Rattle.std.proofs.lemmas.List.FromFn.{length-map-range_with_len}
use Rattle.mls_label.specs.declared.label.Tag.{Tag}
use Rattle.mls_label.specs.declared.label.Tag.TheVariants.{One, Two, Five}
use Rattle.mls_label.specs.declared.label.Label.{Label}
use Rattle.mls_label.specs.Cats.{has, Ascends, IsCats, is_within}
use Rattle.mls_label.specs.Runs.{join_front, runs_of}
use Rattle.mls_label.proofs.Law.{sets_are_what_they_have, runs_have_their_numbers, runs_have_what_each_has}
use Rattle.mls_label.specs.category_bitmap.Bitmap.{octets_needed, octet_of}
use Rattle.mls_label.proofs.category_bitmap.Law.{written_bitmap_reads_back, written_bitmaps_hold_octets}
use Rattle.cipso_tags.specs.Body.{Descends, covers, IsBody}
use Rattle.cipso_tags.specs.Tag.{IsTag}
use Rattle.cipso_tags.specs.Text.{ends_down, range_numbers, body_text, tag_text, Fits}
use Rattle.cipso_tags.proofs.Ranges.{covers-append}
use Rattle.cipso_tags.proofs.Runs.{length-ends_down}
use Rattle.cipso_tags.proofs.Fitting.{bits_need, numbers_few}

-- ---- the runs of a set, in order

abbrev AreRising : ℕ → ℕ → List (ℕ × ℕ) → Type 0
AreRising low high [] = Unit {0}
AreRising low high (r ∷ runs) = (low ≤ r.0) × (r.0 ≤ r.1) × (r.1 < high) × AreRising (r.1 + 1) high runs

rising_join : (low high c : ℕ) (runs : List (ℕ × ℕ)) → low ≤ c → c < high → AreRising (c + 1) high runs → AreRising low high (join_front c runs)
rising_join low high c [] le lt rise = (le, omega arith, lt, tt)
rising_join low high c (r ∷ runs) le lt rise =
    elim (cases_eq r.0 (c + 1)) [
      | inl e ↦ rw (eq-eqb r.0 (c + 1) e) (le, omega (arith, rise.0, rise.1), rise.2, rise.3)
      | inr ne ↦ rw (ne_eqb r.0 (c + 1) ne) (le, omega arith, lt, rise)
    ]

rising : (low high : ℕ) (cats : List ℕ) → Ascends low high cats → AreRising low high (runs_of cats)
rising low high [] a = tt
rising low high (c ∷ cats) a = rising_join low high c (runs_of cats) a.0 a.1 (rising (c + 1) high cats a.2)

-- ---- their ends descend

descends_less : (upper higher : ℕ) (ys : List ℕ) → upper ≤ higher → Descends upper ys → Descends higher ys
descends_less upper higher [] le d = tt
descends_less upper higher (top ∷ []) le d = omega (arith, d)
descends_less upper higher (top ∷ bottom ∷ ys) le d = (omega (arith, d.0), d.1, d.2)

descends_ends : (low high : ℕ) (runs : List (ℕ × ℕ)) (ys : List ℕ) → low ≤ high → AreRising low high runs → Descends low ys → Descends high (ends_down runs ++ ys)
descends_ends low high [] ys le rise d = descends_less low high ys le d
descends_ends low high (r ∷ runs) ys le rise d =
    let next : Descends (r.1 + 1) (r.1 ∷ r.0 ∷ ys) = (omega arith, rise.1, descends_less low r.0 ys rise.0 d) in
    subst (Descends high) (sym (append_assoc (ends_down runs) (r.1 ∷ r.0 ∷ []) ys)) (descends_ends (r.1 + 1) high runs (r.1 ∷ r.0 ∷ ys) (omega (arith, rise.2)) rise.3 next)

numbers_descend : (runs : List (ℕ × ℕ)) → AreRising 0 65535 runs → Descends 65535 (range_numbers runs)
numbers_descend [] rise = tt
numbers_descend (r ∷ runs) rise =
    elim (cases_eq r.0 0) [
      | inl e ↦ rw (eq-eqb r.0 0 e) (
          let last : Descends (r.1 + 1) (r.1 ∷ []) = omega arith in
          descends_ends (r.1 + 1) 65535 runs (r.1 ∷ []) (omega (arith, rise.2)) rise.3 last
          )
      | inr ne ↦ rw (ne_eqb r.0 0 ne) (
          let last : Descends (r.1 + 1) (r.1 ∷ r.0 ∷ []) = (omega arith, rise.1, tt) in
          descends_ends (r.1 + 1) 65535 runs (r.1 ∷ r.0 ∷ []) (omega (arith, rise.2)) rise.3 last
          )
    ]

-- ---- and cover the set

abbrev each_within : ℕ → List (ℕ × ℕ) → Bool
each_within c runs = list_any (λ (r : ℕ × ℕ). is_within r.0 r.1 c) runs

covers_run : (runs : List (ℕ × ℕ)) (ys : List ℕ) (r : ℕ × ℕ) (c : ℕ) → covers (ends_down runs) c ≡ each_within c runs → covers ys c ≡ is_within r.0 r.1 c → covers (ends_down runs ++ ys) c ≡ each_within c (r ∷ runs)
covers_run runs ys r c above here =
    covers-append (ends_down runs) ys c (omega (arith, length-ends_down runs))
    ∙ (λ i. above i || here i)
    ∙ or_comm (each_within c runs) (is_within r.0 r.1 c)

covers_ends : (runs : List (ℕ × ℕ)) (c : ℕ) → covers (ends_down runs) c ≡ each_within c runs
covers_ends [] c = refl
covers_ends (r ∷ runs) c = covers_run runs (r.1 ∷ r.0 ∷ []) r c (covers_ends runs c) (or-false (is_within r.0 r.1 c))

covers_numbers : (runs : List (ℕ × ℕ)) (c : ℕ) → covers (range_numbers runs) c ≡ each_within c runs
covers_numbers [] c = refl
covers_numbers (r ∷ runs) c =
    elim (cases_eq r.0 0) [
      | inl e ↦ rw (eq-eqb r.0 0 e) (covers_run runs (r.1 ∷ []) r c (covers_ends runs c) (ap (λ k. is_within k r.1 c) (sym e)))
      | inr ne ↦ rw (ne_eqb r.0 0 ne) (covers_run runs (r.1 ∷ r.0 ∷ []) r c (covers_ends runs c) (or-false (is_within r.0 r.1 c)))
    ]

-- ---- members

body_member : (tag : Tag) (label : Label) → IsCats label.cats → Fits tag label → IsBody tag (body_text tag label.cats) label.cats
body_member One label is fit =
    let n = octets_needed label.cats in
    record {
      room = omega (arith, bits_need label.cats fit, length-map-range_with_len (octet_of label.cats) 0 n);
      octets = written_bitmaps_hold_octets label.cats n;
      carries = sym (written_bitmap_reads_back label.cats n is (omega arith));
    }
body_member Two label is fit =
    record { numbers = label.cats; is = refl; room = leb-true (length label.cats) 15 fit; ordered = is; carries = refl }
body_member Five label is fit =
    let runs = runs_of label.cats in
    record {
      numbers = range_numbers runs;
      is = refl;
      room = omega (arith, numbers_few runs, leb-true (length runs) 7 fit);
      ordered = numbers_descend runs (rising 0 65535 label.cats is);
      carries = sets_are_what_they_have label.cats (covers (range_numbers runs)) is (λ c small. ap (λ xs. has xs c) (sym (runs_have_their_numbers label.cats)) ∙ runs_have_what_each_has runs c ∙ sym (covers_numbers runs c));
    }

pub tag_member : (tag : Tag) (label : Label) → label.level < 256 → IsCats label.cats → Fits tag label → IsTag (tag_text tag label) (tag, label)
tag_member tag label level is fit =
    record { body = body_text tag label.cats; is = refl; level = level; carries = body_member tag label is fit }
