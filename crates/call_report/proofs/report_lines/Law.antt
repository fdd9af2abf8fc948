-- The laws, each under the name of its function.
use Rattle.std.proofs.Common.{◌≡◌, ◌⊎◌, inl, inr, ◌∙◌, ℕ, ◌<◌, List, [], ◌∷◌, length, Some, None, Result, Ok, refl, ap, subst, arith}
use Rattle.std.specs.Prelude.{◌==◌}
use Rattle.std.specs.List.{join_with_byte}
use Rattle.std.proofs.lemmas.List.Splits.{join_with_byte-slice_split, slice_split_none, slice_split_at}
use Rattle.call_report.specs.declared.report_lines.form.Form.{Form}
use Rattle.call_report.specs.declared.report_lines.form.Form.TheVariants as form
use Rattle.call_report.specs.report_lines.Form.{forms, slots_of}
use Rattle.call_report.specs.report_lines.Line.{line_words, misfit_of, further, first_form, line_form, AreWords}
use Rattle.call_report.proofs.report_lines.OneForm.{one_form}

pub a_line_is_its_words : (line : List ℕ) → join_with_byte 32 (line_words line) ≡ line
a_line_is_its_words line = join_with_byte-slice_split 32 line

pub joined_words_are_read_back : (words : List (List ℕ)) → 0 < length words → AreWords words → line_words (join_with_byte 32 words) ≡ words
joined_words_are_read_back [] some are = absurd (omega (arith, some))
joined_words_are_read_back (word ∷ []) some are = slice_split_none (λ c. c == 32) word are.0
joined_words_are_read_back (word ∷ next ∷ words) some are =
    slice_split_at (λ c. c == 32) word 32 (join_with_byte 32 (next ∷ words)) are.0 refl ∙ ap (λ ws. word ∷ ws) (joined_words_are_read_back (next ∷ words) (omega arith) are.1)

read_form : (forms : List Form) (furthest : ℕ) (line : List ℕ) (form : Form) → first_form furthest forms line ≡ Ok form → misfit_of 0 [] (slots_of form) (line_words line) ≡ None
read_form [] furthest line form is = absurd (cc)
read_form (first ∷ forms) furthest line form is =
    elim (misfit_of 0 [] (slots_of first) (line_words line)) as (λ o. misfit_of 0 [] (slots_of first) (line_words line) ≡ o
    → ◌≡◌ {A = Result Form ℕ} (elim o [ None ↦ Ok first | Some octet ↦ first_form (further furthest octet) forms line ]) (Ok form) → misfit_of 0 [] (slots_of form) (line_words line) ≡ None) [
      | None ↦ λ fits one. let same : first ≡ form = cc in subst (λ (f : Form). misfit_of 0 [] (slots_of f) (line_words line) ≡ None) same fits
      | Some octet ↦ λ stops other. read_form forms (further furthest octet) line form other
    ] refl is

pub a_line_that_is_read_fits : (line : List ℕ) (form : Form) → line_form line ≡ Ok form → misfit_of 0 [] (slots_of form) (line_words line) ≡ None
unfolding line_form
a_line_that_is_read_fits line form is = read_form forms 0 line form is

-- a form is among some
abbrev Has : Form → List Form → Type 0
Has form [] = ⊥
Has form (first ∷ forms) = (form ≡ first) ⊎ Has form forms

found : (forms : List Form) (furthest : ℕ) (line : List ℕ) (form : Form) → Has form forms → misfit_of 0 [] (slots_of form) (line_words line) ≡ None → first_form furthest forms line ≡ Ok form
found [] furthest line form has fits = absurd has
found (first ∷ forms) furthest line form has fits =
    elim (misfit_of 0 [] (slots_of first) (line_words line)) as (λ o. misfit_of 0 [] (slots_of first) (line_words line) ≡ o
    → ◌≡◌ {A = Result Form ℕ} (elim o [ None ↦ Ok first | Some octet ↦ first_form (further furthest octet) forms line ]) (Ok form)) [
      | None ↦ λ here. ap (λ (f : Form). Ok f) (one_form first form (line_words line) here fits)
      | Some octet ↦ λ stops. elim has [
        | inl same ↦ absurd (let other = ap (λ (f : Form). misfit_of 0 [] (slots_of f) (line_words line)) same in cc)
        | inr more ↦ found forms (further furthest octet) line form more fits
      ]
    ] refl

all_there : (form : Form) → Has form forms
all_there form.Delivered = inl refl
all_there form.Sent = inr (inl refl)
all_there form.DeniedPlain = inr (inr (inl refl))
all_there form.DeniedOctet = inr (inr (inr (inl refl)))
all_there form.DeniedCategory = inr (inr (inr (inr (inl refl))))
all_there form.DeniedCause = inr (inr (inr (inr (inr (inl refl)))))
all_there form.DeniedFrame = inr (inr (inr (inr (inr (inr (inl refl))))))
all_there form.Done = inr (inr (inr (inr (inr (inr (inr (inl refl)))))))
all_there form.Refused = inr (inr (inr (inr (inr (inr (inr (inr (inl refl))))))))
all_there form.Listed = inr (inr (inr (inr (inr (inr (inr (inr (inr (inl refl)))))))))
all_there form.Flow = inr (inr (inr (inr (inr (inr (inr (inr (inr (inr (inl refl))))))))))
all_there form.End = inr (inr (inr (inr (inr (inr (inr (inr (inr (inr (inr (inl refl)))))))))))
all_there form.Capture = inr (inr (inr (inr (inr (inr (inr (inr (inr (inr (inr (inr (inl refl))))))))))))
all_there form.Limit = inr (inr (inr (inr (inr (inr (inr (inr (inr (inr (inr (inr (inr (inl refl)))))))))))))
all_there form.Script = inr (inr (inr (inr (inr (inr (inr (inr (inr (inr (inr (inr (inr (inr (inl refl))))))))))))))
all_there form.Finished = inr (inr (inr (inr (inr (inr (inr (inr (inr (inr (inr (inr (inr (inr (inr (inl refl)))))))))))))))
all_there form.Ok = inr (inr (inr (inr (inr (inr (inr (inr (inr (inr (inr (inr (inr (inr (inr (inr (inl refl))))))))))))))))

pub a_line_that_fits_is_read : (line : List ℕ) (form : Form) → misfit_of 0 [] (slots_of form) (line_words line) ≡ None → line_form line ≡ Ok form
unfolding line_form
a_line_that_fits_is_read line form fits = found forms 0 line form (all_there form) fits
