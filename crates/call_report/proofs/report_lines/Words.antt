-- The words of a line against the slots of a form.
use Rattle.std.proofs.Common.{◌≡◌, ◌∙◌, ℕ, ◌+◌, ◌-◌, ◌<◌, false, List, [], ◌∷◌, length, Some, refl, ap, arith}
use Rattle.std.specs.Prelude.{◌==◌}
use Rattle.std.specs.List.{list_any}
use Rattle.std.proofs.lemmas.Bool.{or_parts, cond-false}
use Rattle.std.proofs.lemmas.List.Splits.{length-slice_split}
use Rattle.call_report.specs.declared.report_lines.slot.Field.{Field}
use Rattle.call_report.specs.declared.report_lines.slot.Slot.{Slot}
use Rattle.call_report.specs.report_lines.Line.{line_words, misfit_of}
use Rattle.call_report.specs.report_lines.Told.{tells, told_word}

by_words : (at : ℕ) (before : List ℕ) (words : List (List ℕ)) → 0 < length words → misfit_of at before [] words ≡ Some at
by_words at before [] some = absurd (omega (arith, some))
by_words at before (word ∷ words) some = refl

-- where the slots end, a word is one too many
pub one_too_many : (at : ℕ) (before : List ℕ) (slots : List Slot) (text : List ℕ) → length slots ≡ 0 → misfit_of at before slots (line_words text) ≡ Some at
one_too_many at before [] text none = by_words at before (line_words text) (omega (arith, length-slice_split (λ c. c == 32) text))
one_too_many at before (slot ∷ slots) text none = absurd (omega (arith, none))

-- where the words end, a slot has none
pub too_few : (end : ℕ) (before : List ℕ) (slots : List Slot) → 0 < length slots → Some end ≡ misfit_of (end + 1) before slots []
too_few end before [] some = absurd (omega (arith, some))
too_few end before (slot ∷ slots) some = let same : end ≡ (end + 1) - 1 = omega arith in ap (λ n. Some n) same

-- slots that tell nothing under a field
pub told_nothing : (field : Field) (slots : List Slot) (words : List (List ℕ)) → list_any (λ slot. tells slot field) slots ≡ false → told_word field slots words ≡ []
told_nothing field [] words none = refl
told_nothing field (slot ∷ slots) [] none = refl
told_nothing field (slot ∷ slots) (word ∷ words) none =
    let parts = or_parts (tells slot field) (list_any (λ slot. tells slot field) slots) none in
    cond-false (tells slot field) _ _ parts.0 ∙ told_nothing field slots words parts.1
