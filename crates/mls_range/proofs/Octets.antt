-- Which octets stand in a label's text.
use Rattle.std.proofs.Common.{◌≡◌, ℕ, ◌+◌, ◌≤◌, Bool, false, not, List, [], ◌∷◌, ◌++◌, IsTrue, refl, ap, ◌∙◌, arith}
use Rattle.std.specs.Prelude.{◌==◌, count_by}
use Rattle.std.specs.Fmt.{decimal}
use Rattle.std.specs.List.{All}
use Rattle.std.proofs.lemmas.Bool.{not-false, ne_eqb}
use Rattle.std.proofs.lemmas.Bool.Decides.{nat_tests}
use Rattle.std.proofs.lemmas.List.Elements.{All-head, All-tail, All-weaker}
use Rattle.std.proofs.lemmas.List.Sums.{sum_by-append}
use Rattle.mls_label.specs.declared.label.Label.{Label}
use Rattle.mls_range.specs.LabelText.{IsTerm, term_text, IsLabelText, is_label_octet}
use Rattle.mls_range.specs.inside.Rest.{separated}
use Rattle.mls_range.proofs.Written.{terms_text_is}
use Rattle.mls_range.proofs.Splits.{Misses, MissesTerms, misses_number, misses_term, misses_terms, label_misses}

abbrev is_other : ℕ → Bool
is_other c = not (is_label_octet c)

others_miss : MissesTerms is_other
others_miss = record { digit = λ c d. grind (arith, nat_tests, d); letter = refl; dot = refl }

pub label_octets : (text : List ℕ) (label : Label) → IsLabelText text label → All (λ c. IsTrue (is_label_octet c)) text
label_octets text label l =
    All-weaker (λ c. is_other c ≡ false) (λ c. IsTrue (is_label_octet c)) (λ c e. not-false (is_label_octet c) e) text (label_misses is_other others_miss refl refl refl text label l)

abbrev is_colon : ℕ → Bool
is_colon c = c == 58

colons_miss : MissesTerms is_colon
colons_miss = record { digit = λ c d. ne_eqb c 58 (λ e. omega (arith, d.1)); letter = refl; dot = refl }

none_counted : (test : ℕ → Bool) (text : List ℕ) → Misses test text → count_by test text ≡ 0
none_counted test [] misses = refl
none_counted test (c ∷ text) misses =
    let first = All-head (λ x. test x ≡ false) c text misses in
    let others = none_counted test text (All-tail (λ x. test x ≡ false) c text misses) in rw first others

count-append : (test : ℕ → Bool) (a b : List ℕ) → count_by test (a ++ b) ≡ count_by test a + count_by test b
count-append test a b = sum_by-append _ a b

one_in_terms : (terms : List (ℕ × ℕ)) → All IsTerm terms → count_by is_colon (separated 58 terms) ≤ 1
one_in_terms [] are = omega arith
one_in_terms (t ∷ terms) are =
    let first = none_counted is_colon (term_text t) (misses_term is_colon t colons_miss (All-head IsTerm t terms are)) in
    let others = none_counted is_colon (separated 44 terms) (misses_terms is_colon 44 terms colons_miss refl refl (All-tail IsTerm t terms are)) in
    let rest = term_text t ++ separated 44 terms in
    let head : count_by is_colon (separated 58 (t ∷ terms)) ≡ 1 + count_by is_colon rest = count-append is_colon (58 ∷ []) rest in
    omega (arith, head, first, others, count-append is_colon (term_text t) (separated 44 terms))

pub one_colon : (text : List ℕ) (label : Label) → IsLabelText text label → count_by is_colon text ≤ 1
one_colon text label l =
    let front : List ℕ = 115 ∷ decimal label.level in
    let whole : text ≡ front ++ separated 58 l.terms = l.is ∙ ap (λ t. front ++ t) (terms_text_is l.terms) in
    let none = none_counted is_colon front (misses_number is_colon 115 label.level colons_miss.digit refl (omega (arith, l.level))) in
    omega (arith, ap (count_by is_colon) whole, count-append is_colon front (separated 58 l.terms), none, one_in_terms l.terms l.are)
