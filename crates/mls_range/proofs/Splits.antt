-- The parts of a label's text: what they would say is what the text says.
use Rattle.std.proofs.Common.{◌≡◌, ℕ, ◌<◌, ◌≤◌, Bool, true, false, ◌||◌, List, [], ◌∷◌, ◌++◌, map, refl, sym, ap, ◌∙◌, arith, inl, inr}
use Rattle.std.specs.Prelude.{◌==◌}
use Rattle.std.specs.Fmt.{decimal}
use Rattle.std.specs.List.{All, slice_split}
use Rattle.std.specs.Str.Parse.{digits_value}
use Rattle.std.proofs.lemmas.Bool.{cases_lt, ne_eqb, or_from}
use Rattle.std.proofs.lemmas.Fmt.{decimal_is_IsNumeral}
use Rattle.std.proofs.lemmas.List.{append-nil}
use Rattle.std.proofs.lemmas.List.Elements.{All-nil, All-cons, All-head, All-tail, All-append, All-same}
use Rattle.std.proofs.lemmas.List.Splits.{slice_split_none, slice_split_at}
use Rattle.mls_label.specs.declared.label.Label.{Label}
use Rattle.mls_range.specs.LabelText.{IsTerm, term_text, terms_text, IsLabelText}
use Rattle.mls_range.specs.Computed.{LabelTerms, term_of_parts, said_by_parts}
use Rattle.mls_range.specs.inside.Number.{IsDigit, AllDigits}
use Rattle.mls_range.specs.inside.Rest.{separated, last_text}
use Rattle.mls_range.proofs.Digits.{digits_of_decimal}
use Rattle.mls_range.proofs.TermRests.{term_text_is, last_none, last_some}
use Rattle.mls_range.proofs.Written.{terms_text_is}

-- ---- texts without some octet

abbrev pub Misses : (ℕ → Bool) → List ℕ → Type 0
Misses test text = All (λ c. test c ≡ false) text

-- no octet of a term passes the test
pub record MissesTerms (test : ℕ → Bool) : Type 0 where
  pub digit : (c : ℕ) → IsDigit c → test c ≡ false
  pub letter : test 99 ≡ false
  pub dot : test 46 ≡ false

misses_digits : (test : ℕ → Bool) → ((c : ℕ) → IsDigit c → test c ≡ false) → (digits : List ℕ) → AllDigits digits → Misses test digits
misses_digits test none [] are = All-nil (λ c. test c ≡ false)
misses_digits test none (d ∷ digits) are = All-cons (λ c. test c ≡ false) d digits (none d are.0) (misses_digits test none digits are.1)

-- a letter and a number
pub misses_number : (test : ℕ → Bool) (letter n : ℕ) → ((c : ℕ) → IsDigit c → test c ≡ false) → test letter ≡ false → n < 65536 → Misses test (letter ∷ decimal n)
misses_number test letter n none free small =
    All-cons (λ c. test c ≡ false) letter (decimal n) free (misses_digits test none (decimal n) (digits_of_decimal n (omega arith)))

misses_last : (test : ℕ → Bool) (first last : ℕ) → MissesTerms test → first ≤ last → last < 65535 → Misses test (last_text first last)
misses_last test first last m order small =
    elim (cases_lt first last) [
      | inl lt ↦
          All-same (λ c. test c ≡ false) (last_text first last) (46 ∷ 99 ∷ decimal last) (last_some first last lt) (All-cons (λ c. test c ≡ false) 46 (99 ∷ decimal last) m.dot (misses_number test 99 last m.digit m.letter (omega arith)))
      | inr le ↦
          let same : last ≡ first = omega arith in
          All-same (λ c. test c ≡ false) (last_text first last) [] (ap (last_text first) same ∙ last_none first) (All-nil (λ c. test c ≡ false))
    ]

pub misses_term : (test : ℕ → Bool) (term : ℕ × ℕ) → MissesTerms test → IsTerm term → Misses test (term_text term)
misses_term test term m is =
    All-same (λ c. test c ≡ false) (term_text term) ((99 ∷ decimal term.0) ++ last_text term.0 term.1) (term_text_is term.0 term.1)
    (All-append (λ c. test c ≡ false) (99 ∷ decimal term.0) (last_text term.0 term.1) (misses_number test 99 term.0 m.digit m.letter (omega (arith, is))) (misses_last test term.0 term.1 m is.0 is.1))

pub misses_terms : (test : ℕ → Bool) (s : ℕ) (terms : List (ℕ × ℕ)) → MissesTerms test → test s ≡ false → test 44 ≡ false → All IsTerm terms → Misses test (separated s terms)
misses_terms test s [] m free comma are = All-nil (λ c. test c ≡ false)
misses_terms test s (t ∷ terms) m free comma are =
    All-cons (λ c. test c ≡ false) s (term_text t ++ separated 44 terms) free
    (All-append (λ c. test c ≡ false) (term_text t) (separated 44 terms) (misses_term test t m (All-head IsTerm t terms are)) (misses_terms test 44 terms m comma comma (All-tail IsTerm t terms are)))

abbrev pub is_dash : ℕ → Bool
is_dash c = c == 45

dash_misses : MissesTerms is_dash
dash_misses = record { digit = λ c d. ne_eqb c 45 (λ e. omega (arith, d.0)); letter = refl; dot = refl }

-- no octet of a label's text passes the test
pub label_misses : (test : ℕ → Bool) → MissesTerms test → test 115 ≡ false → test 58 ≡ false → test 44 ≡ false → (text : List ℕ) (label : Label) → IsLabelText text label → Misses test text
label_misses test m letter colon comma text label l =
    let parts : List ℕ = (115 ∷ decimal label.level) ++ separated 58 l.terms in
    All-same (λ c. test c ≡ false) text parts (l.is ∙ ap (λ t. (115 ∷ decimal label.level) ++ t) (terms_text_is l.terms))
    (All-append (λ c. test c ≡ false) (115 ∷ decimal label.level) (separated 58 l.terms) (misses_number test 115 label.level m.digit letter (omega (arith, l.level))) (misses_terms test 58 l.terms m colon comma l.are))

-- no dash is in a label's text
pub dashless : (text : List ℕ) (label : Label) → IsLabelText text label → Misses is_dash text
dashless text label l = label_misses is_dash dash_misses refl refl refl text label l

-- ---- what is said

number_of_letter : (n : ℕ) → n < 65536 → digits_value 10 (decimal n) ≡ n
number_of_letter n small = (decimal_is_IsNumeral n (omega arith)).1

abbrev is_dot : ℕ → Bool
is_dot c = c == 46

undotted : (n : ℕ) → n < 65536 → Misses is_dot (99 ∷ decimal n)
undotted n small = misses_number is_dot 99 n (λ c d. ne_eqb c 46 (λ e. omega (arith, d.0))) refl small

term_said : (term : ℕ × ℕ) → IsTerm term → term_of_parts (slice_split is_dot (term_text term)) ≡ term
term_said term is =
    let first = number_of_letter term.0 (omega (arith, is)) in
    let last = number_of_letter term.1 (omega (arith, is)) in
    elim (cases_lt term.0 term.1) [
      | inl lt ↦
          let text : term_text term ≡ (99 ∷ decimal term.0) ++ 46 ∷ (99 ∷ decimal term.1) = term_text_is term.0 term.1 ∙ ap (λ t. (99 ∷ decimal term.0) ++ t) (last_some term.0 term.1 lt) in
          let parts : slice_split is_dot (term_text term) ≡ (99 ∷ decimal term.0) ∷ (99 ∷ decimal term.1) ∷ [] =
          ap (slice_split is_dot) text ∙ slice_split_at is_dot (99 ∷ decimal term.0) 46 (99 ∷ decimal term.1) (undotted term.0 (omega (arith, is))) refl
          ∙ ap (λ ps. (99 ∷ decimal term.0) ∷ ps) (slice_split_none is_dot (99 ∷ decimal term.1) (undotted term.1 (omega (arith, is)))) in
          ap term_of_parts parts ∙ (λ i. (first i, last i))
      | inr le ↦
          let same : term.1 ≡ term.0 = omega (arith, is) in
          let text : term_text term ≡ 99 ∷ decimal term.0 =
          term_text_is term.0 term.1 ∙ ap (λ k. (99 ∷ decimal term.0) ++ last_text term.0 k) same ∙ ap (λ t. (99 ∷ decimal term.0) ++ t) (last_none term.0) ∙ append-nil (99 ∷ decimal term.0) in
          let parts : slice_split is_dot (term_text term) ≡ (99 ∷ decimal term.0) ∷ [] = ap (slice_split is_dot) text ∙ slice_split_none is_dot (99 ∷ decimal term.0) (undotted term.0 (omega (arith, is))) in
          let both : digits_value 10 (decimal term.0) ≡ term.1 = first ∙ sym same in
          ap term_of_parts parts ∙ (λ i. (first i, both i))
    ]

terms_said : (terms : List (ℕ × ℕ)) → All IsTerm terms → map (λ term. term_of_parts (slice_split is_dot term)) (map term_text terms) ≡ terms
terms_said [] are = refl
terms_said (t ∷ terms) are = λ i. term_said t (All-head IsTerm t terms are) i ∷ terms_said terms (All-tail IsTerm t terms are) i

abbrev pub is_separator : ℕ → Bool
is_separator c = c == 58 || c == 44

separators_miss : MissesTerms is_separator
separators_miss = record {
  digit = λ c d. or_from (c == 58) (c == 44) (ne_eqb c 58 (λ e. omega (arith, d.1))) (ne_eqb c 44 (λ e. omega (arith, d.0)));
  letter = refl;
  dot = refl;
}

split_terms : (front : List ℕ) (s : ℕ) (terms : List (ℕ × ℕ)) → Misses is_separator front → is_separator s ≡ true → All IsTerm terms → slice_split is_separator (front ++ separated s terms) ≡ front ∷ map term_text terms
split_terms front s [] free cut are = ap (slice_split is_separator) (append-nil front) ∙ slice_split_none is_separator front free
split_terms front s (t ∷ terms) free cut are =
    slice_split_at is_separator front s (term_text t ++ separated 44 terms) free cut
    ∙ ap (λ ps. front ∷ ps) (split_terms (term_text t) 44 terms (misses_term is_separator t separators_miss (All-head IsTerm t terms are)) refl (All-tail IsTerm t terms are))

pub said_is : (text : List ℕ) (said : LabelTerms) → said.level < 256 → All IsTerm said.terms → text ≡ 115 ∷ decimal said.level ++ terms_text said.terms → said_by_parts (slice_split is_separator text) ≡ said
said_is text said small are is =
    let front : List ℕ = 115 ∷ decimal said.level in
    let whole : text ≡ front ++ separated 58 said.terms = is ∙ ap (λ t. front ++ t) (terms_text_is said.terms) in
    let level = number_of_letter said.level (omega arith) in
    let terms = terms_said said.terms are in
    ap said_by_parts (ap (slice_split is_separator) whole ∙ split_terms front 58 said.terms (misses_number is_separator 115 said.level separators_miss.digit refl (omega arith)) refl are)
    ∙ (λ i. record { level = level i; terms = terms i })
