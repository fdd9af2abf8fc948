-- Worked rows: what is computed of small texts.
use Rattle.std.specs.Prelude.{◌≡◌, ℕ, List, [], ◌∷◌, Some, None, codes, refl}
use Rattle.std.specs.Fmt.{digits}
use Rattle.mls_label.specs.declared.label.Label.{Label}
use Rattle.mls_range.specs.LabelText.{cats_of_terms}
use Rattle.mls_range.specs.Computed.{terms_of_text, label_of_text, range_of_text}

-- a label that is said by a level and terms
abbrev said : ℕ → List (ℕ × ℕ) → Label
said level terms = record { level = level; cats = cats_of_terms terms }

abbrev is_label : List ℕ → ℕ → List (ℕ × ℕ) → Type 0
is_label text level terms = label_of_text text ≡ Some (said level terms)

abbrev is_none : List ℕ → Type 0
is_none text = label_of_text text ≡ None

abbrev is_range : List ℕ → Label → Label → Type 0
is_range text low high = range_of_text text ≡ Some (record { low = low; high = high })

abbrev is_no_range : List ℕ → Type 0
is_no_range text = range_of_text text ≡ None

labels : is_label (codes "s0") 0 [] × is_label (codes "s2:c0.c5") 2 ((0, 5) ∷ []) × is_label (codes "s255:c3,c1,c7.c65534") 255 ((3, 3) ∷ (1, 1) ∷ (7, 65534) ∷ [])
unfolding digits terms_of_text label_of_text
labels = (refl, refl, refl)

no_levels : is_none (codes "") × is_none (codes "s") × is_none (codes "S0") × is_none (codes "s01") × is_none (codes "s256") × is_none (codes "s0-s1") × is_none (codes "s0:")
unfolding digits terms_of_text label_of_text
no_levels = (refl, refl, refl, refl, refl, refl, refl)

no_terms : is_none (codes "s0:c07") × is_none (codes "s0:c65535") × is_none (codes "s0:c5.c5") × is_none (codes "s0:c5.c4") × is_none (codes "s0:c1,") × is_none (codes "s0,c1") × is_none (codes "s0:c1.c2.c3") × is_none (codes "s0:1")
unfolding digits terms_of_text label_of_text
no_terms = (refl, refl, refl, refl, refl, refl, refl, refl)

ranges : is_range (codes "s1:c1") (said 1 ((1, 1) ∷ [])) (said 1 ((1, 1) ∷ [])) × is_range (codes "s0-s2:c0.c5") (said 0 []) (said 2 ((0, 5) ∷ [])) × is_range (codes "s0:c1-s3:c0.c5") (said 0 ((1, 1) ∷ [])) (said 3 ((0, 5) ∷ []))
unfolding digits terms_of_text label_of_text range_of_text
ranges = (refl, refl, refl)

no_ranges : is_no_range (codes "s0-") × is_no_range (codes "s0-s1-s2") × is_no_range (codes "s3-s0") × is_no_range (codes "s0:c1-s0") × is_no_range (codes "s0:c1-s9:c2")
unfolding digits terms_of_text label_of_text range_of_text
no_ranges = (refl, refl, refl, refl, refl)
