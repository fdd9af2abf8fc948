-- The words of a line tell its form: how many there are, and the first, the fourth, the sixth or the eleventh of them.
use Rattle.std.proofs.Common.{◌≡◌, ◌∙◌, ℕ, zero, suc, ◌+◌, ◌<◌, Bool, true, false, not, List, [], ◌∷◌, length, get_or, codes, Option, Some, None, refl, sym, ap, arith}
use Rattle.std.specs.Prelude.{◌==◌, ◌||◌, if◌then◌else◌}
use Rattle.std.specs.Fmt.{digits}
use Rattle.std.specs.List.{list_all}
use Rattle.std.specs.Str.{bytes_eq}
use Rattle.std.proofs.lemmas.Bool.{and_parts, cond-true, cond-false}
use Rattle.std.proofs.lemmas.Slice.Eq.{bytes_eq-Decides}
use Rattle.call_report.specs.declared.report_lines.form.Form.{Form}
use Rattle.call_report.specs.declared.report_lines.form.Form.TheVariants as form
use Rattle.call_report.specs.declared.report_lines.slot.Slot.{Slot}
use Rattle.call_report.specs.declared.report_lines.slot.Slot.TheVariants as slot
use Rattle.call_report.specs.report_lines.Slot.{may_stand, is_one_of, refusals, whole_number, is_versions}
use Rattle.call_report.specs.report_lines.Form.{slots_of}
use Rattle.call_report.specs.report_lines.Line.{misfit_of}

-- ---- words in slots

-- a word stands in each slot, and none beside them
abbrev Stand : List ℕ → List Slot → List (List ℕ) → Type 0
Stand before [] [] = Unit {0}
Stand before [] (word ∷ words) = ⊥
Stand before (slot ∷ slots) [] = ⊥
Stand before (slot ∷ slots) (word ∷ words) = (may_stand slot before word ≡ true) × Stand word slots words

stand : (at : ℕ) (before : List ℕ) (slots : List Slot) (words : List (List ℕ)) → misfit_of at before slots words ≡ None → Stand before slots words
stand at before [] [] fits = tt
stand at before [] (word ∷ words) fits = absurd (cc)
stand at before (slot ∷ slots) [] fits = absurd (cc)
stand at before (slot ∷ slots) (word ∷ words) fits =
    elim (may_stand slot before word) as (λ b. may_stand slot before word ≡ b → ◌≡◌ {A = Option ℕ} (if b then misfit_of (at + length word + 1) word slots words else Some at) None
    → (may_stand slot before word ≡ true) × Stand word slots words) [
      | true ↦ λ is rest. (is, stand (at + length word + 1) word slots words rest)
      | false ↦ λ isnt none. absurd (cc)
    ] refl fits

count : (before : List ℕ) (slots : List Slot) (words : List (List ℕ)) → Stand before slots words → length words ≡ length slots
count before [] [] all = refl
count before [] (word ∷ words) all = absurd all
count before (slot ∷ slots) [] all = absurd all
count before (slot ∷ slots) (word ∷ words) all = let rest = count word slots words all.1 in omega (arith, rest)

abbrev word_at : ℕ → List (List ℕ) → List ℕ
word_at i words = get_or words i []

there : (i : ℕ) (none : Slot) (before : List ℕ) (slots : List Slot) (words : List (List ℕ)) → Stand before slots words → i < length slots → (b : List ℕ) × (may_stand (get_or slots i none) b (word_at i words) ≡ true)
there i none before [] words all within = absurd (omega (arith, within))
there i none before (slot ∷ slots) [] all within = absurd all
there zero none before (slot ∷ slots) (word ∷ words) all within = (before, all.0)
there (suc i) none before (slot ∷ slots) (word ∷ words) all within = there i none word slots words all.1 (omega (arith, within))

-- ---- the form that words tell

abbrev told_form : ℕ → List ℕ → List ℕ → List ℕ → List ℕ → Form
told_form n first fourth sixth eleventh =
    if n == 1 then form.Finished
    else (if n == 3 then (if bytes_eq first (codes "flow") then form.Flow else form.Limit)
    else (if n == 4 then (if bytes_eq fourth (codes "done") then form.Done else form.Refused)
    else (if n == 5 then (if bytes_eq first (codes "capture") then form.Capture else form.Listed)
    else (if n == 6 then (if bytes_eq first (codes "script") then form.Script else form.Sent)
    else (if n == 7 then form.Ok
    else (if n == 8 then (if bytes_eq first (codes "end") then form.End else form.Delivered)
    else (if n == 11 then (if bytes_eq eleventh (codes "-") then form.DeniedFrame else form.DeniedPlain)
    else (if n == 12 then form.DeniedCause
    else (if bytes_eq sixth (codes "octet") then form.DeniedOctet else form.DeniedCategory)))))))))

abbrev form_told : List (List ℕ) → Form
form_told words = told_form (length words) (word_at 0 words) (word_at 3 words) (word_at 5 words) (word_at 10 words)

-- a text that is one text isn't another one
other : (text own it : List ℕ) → bytes_eq text own ≡ true → bytes_eq own it ≡ false → bytes_eq text it ≡ false
other text own it same differs = ap (λ t. bytes_eq t it) ((bytes_eq-Decides text own).0 same) ∙ differs

none_of : (names : List (List ℕ)) (text it : List ℕ) → is_one_of names text ≡ true → list_all (λ name. not (bytes_eq name it)) names ≡ true → bytes_eq text it ≡ false
none_of [] text it one all = absurd (cc)
none_of (name ∷ names) text it one all =
    let parts = and_parts (not (bytes_eq name it)) (list_all (λ name. not (bytes_eq name it)) names) all in
    elim (bytes_eq text name) as (λ b. bytes_eq text name ≡ b → (b || is_one_of names text) ≡ true → bytes_eq text it ≡ false) [
      | true ↦ λ same any. other text name it same (not_true (bytes_eq name it) parts.0)
      | false ↦ λ differs any. none_of names text it any parts.1
    ] refl one
  where
    not_true : (b : Bool) → not b ≡ true → b ≡ false
    not_true true h = absurd (cc)
    not_true false h = refl

-- versions aren't `-`
no_dash : (text : List ℕ) → is_versions text ≡ true → bytes_eq text (codes "-") ≡ false
unfolding whole_number digits
no_dash text is =
    elim (bytes_eq text (codes "-")) as (λ b. bytes_eq text (codes "-") ≡ b → b ≡ false) [
      | true ↦ λ same. absurd (let none : is_versions text ≡ false = ap is_versions ((bytes_eq-Decides text (codes "-")).0 same) in cc)
      | false ↦ λ differs. refl
    ] refl

-- by the number of slots
by_count : (form : Form) (words : List (List ℕ)) → Stand [] (slots_of form) words → form_told words ≡ told_form (length (slots_of form)) (word_at 0 words) (word_at 3 words) (word_at 5 words) (word_at 10 words)
by_count form words all = ap (λ n. told_form n (word_at 0 words) (word_at 3 words) (word_at 5 words) (word_at 10 words)) (count [] (slots_of form) words all)

told : (f : Form) (words : List (List ℕ)) → Stand [] (slots_of f) words → form_told words ≡ f
unfolding may_stand refusals
told form.Finished words all = by_count form.Finished words all
told form.Ok words all = by_count form.Ok words all
told form.DeniedPlain words all = by_count form.DeniedPlain words all ∙ cond-false _ _ _ (no_dash (word_at 10 words) (there 10 slot.Place [] (slots_of form.DeniedPlain) words all (omega arith)).1)
told form.DeniedFrame words all = by_count form.DeniedFrame words all ∙ cond-true _ _ _ (there 10 slot.Place [] (slots_of form.DeniedFrame) words all (omega arith)).1
told form.DeniedCause words all = by_count form.DeniedCause words all
told form.Flow words all = by_count form.Flow words all ∙ cond-true _ _ _ (there 0 slot.Place [] (slots_of form.Flow) words all (omega arith)).1
told form.Limit words all = by_count form.Limit words all ∙ cond-false _ _ _ (other (word_at 0 words) (codes "limit") (codes "flow") (there 0 slot.Place [] (slots_of form.Limit) words all (omega arith)).1 refl)
told form.Done words all = by_count form.Done words all ∙ cond-true _ _ _ (there 3 slot.Place [] (slots_of form.Done) words all (omega arith)).1
told form.Refused words all = by_count form.Refused words all ∙ cond-false _ _ _ (none_of refusals (word_at 3 words) (codes "done") (there 3 slot.Place [] (slots_of form.Refused) words all (omega arith)).1 refl)
told form.Capture words all = by_count form.Capture words all ∙ cond-true _ _ _ (there 0 slot.Place [] (slots_of form.Capture) words all (omega arith)).1
told form.Listed words all = by_count form.Listed words all ∙ cond-false _ _ _ (other (word_at 0 words) (codes "command") (codes "capture") (there 0 slot.Place [] (slots_of form.Listed) words all (omega arith)).1 refl)
told form.Script words all = by_count form.Script words all ∙ cond-true _ _ _ (there 0 slot.Place [] (slots_of form.Script) words all (omega arith)).1
told form.Sent words all = by_count form.Sent words all ∙ cond-false _ _ _ (other (word_at 0 words) (codes "packet") (codes "script") (there 0 slot.Place [] (slots_of form.Sent) words all (omega arith)).1 refl)
told form.End words all = by_count form.End words all ∙ cond-true _ _ _ (there 0 slot.Place [] (slots_of form.End) words all (omega arith)).1
told form.Delivered words all = by_count form.Delivered words all ∙ cond-false _ _ _ (other (word_at 0 words) (codes "packet") (codes "end") (there 0 slot.Place [] (slots_of form.Delivered) words all (omega arith)).1 refl)
told form.DeniedOctet words all = by_count form.DeniedOctet words all ∙ cond-true _ _ _ (there 5 slot.Place [] (slots_of form.DeniedOctet) words all (omega arith)).1
told form.DeniedCategory words all = by_count form.DeniedCategory words all ∙ cond-false _ _ _ (other (word_at 5 words) (codes "category") (codes "octet") (there 5 slot.Place [] (slots_of form.DeniedCategory) words all (omega arith)).1 refl)

-- words fit one form at most
pub one_form : (a b : Form) (words : List (List ℕ)) → misfit_of 0 [] (slots_of a) words ≡ None → misfit_of 0 [] (slots_of b) words ≡ None → a ≡ b
one_form a b words fa fb = sym (told a words (stand 0 [] (slots_of a) words fa)) ∙ told b words (stand 0 [] (slots_of b) words fb)
