-- How many words a set needs.
use Rattle.std.proofs.Common.{◌≡◌, ℕ, ◌+◌, ◌/◌, ◌≤◌, List, [], ◌∷◌, refl, arith}
use Rattle.mls_label.specs.declared.label.Label.{Label}
use Rattle.mls_label.specs.category_bitmap.Bitmap.{octets_needed}
use Rattle.mls_label.proofs.category_bitmap.Law.{octets_suffice_for_low_categories}
use Rattle.calipso_option.specs.Text.{IsExpressible, words_needed}

-- words of four octets
pub words_are : (cats : List ℕ) → (octets_needed cats + 3) / 4 ≡ words_needed cats
words_are [] = refl
words_are (c ∷ cats) = let rest = words_are cats in omega arith

pub octets_express : (label : Label) → octets_needed label.cats ≤ 244 → IsExpressible label
octets_express label few c is = omega (arith, (octets_suffice_for_low_categories label.cats 244).0 few c is)

pub express_octets : (label : Label) → IsExpressible label → octets_needed label.cats ≤ 244
express_octets label fits = (octets_suffice_for_low_categories label.cats 244).1 (λ c is. omega (arith, fits c is))

pub words_few : (label : Label) → IsExpressible label → words_needed label.cats ≤ 61
words_few label fits = omega (arith, express_octets label fits, words_are label.cats)
