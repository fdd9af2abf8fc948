-- A text is the text of one label at most, also where a range goes on behind it.
use Rattle.std.proofs.Common.{◌≡◌, ℕ, Bool, false, List, [], ◌∷◌, ◌++◌, length, refl, sym, ap, ◌∙◌, append_assoc, arith, inl}
use Rattle.std.specs.Fmt.{decimal}
use Rattle.std.specs.List.{All}
use Rattle.std.proofs.lemmas.List.Elements.{All-head, All-tail}
use Rattle.mls_label.specs.declared.label.Label.{Label}
use Rattle.mls_range.specs.LabelText.{IsTerm, term_text, terms_text, cats_of_terms, IsLabelText}
use Rattle.mls_range.specs.Crowd.{IsCounted}
use Rattle.mls_range.specs.inside.Rest.{IsLabelEnd, separated}
use Rattle.mls_range.proofs.TermLists.{NoDigit, number_unique, term_unique, ends_counted}
use Rattle.mls_range.proofs.Written.{terms_text_is}

pub separated_counted : (dash : Bool) (us : List (ℕ × ℕ)) (r : List ℕ) → IsLabelEnd dash r → IsCounted dash (separated 44 us ++ r)
separated_counted dash [] r e = ends_counted dash r e
separated_counted dash (u ∷ us) r e = inl refl

pub no_separator : (dash : Bool) (s : ℕ) (r t : List ℕ) → IsLabelEnd dash r → r ≡ s ∷ t → (s ≡ 45 → ⊥) → ⊥
no_separator dash s [] t e q other = absurd (omega (arith, ap length q))
no_separator dash s (x ∷ w) t e q other = let same : x ≡ s = cc in other (sym same ∙ e.1)

pub separated_unique : (dash : Bool) (s : ℕ) (ts us : List (ℕ × ℕ)) (r q : List ℕ) → (s ≡ 45 → ⊥) → All IsTerm ts → All IsTerm us → IsLabelEnd dash r → IsLabelEnd dash q → separated s ts ++ r ≡ separated s us ++ q → (ts ≡ us) × (r ≡ q)
separated_unique dash s [] [] r q other a b e f same = (refl, same)
separated_unique dash s [] (u ∷ us) r q other a b e f same = absurd (no_separator dash s r _ e same other)
separated_unique dash s (t ∷ ts) [] r q other a b e f same = absurd (no_separator dash s q _ f (sym same) other)
separated_unique dash s (t ∷ ts) (u ∷ us) r q other a b e f same =
    let rest : (term_text t ++ separated 44 ts) ++ r ≡ (term_text u ++ separated 44 us) ++ q = cc in
    let parts : term_text t ++ (separated 44 ts ++ r) ≡ term_text u ++ (separated 44 us ++ q) =
    sym (append_assoc (term_text t) (separated 44 ts) r) ∙ rest ∙ append_assoc (term_text u) (separated 44 us) q in
    let first = term_unique dash t u (separated 44 ts ++ r) (separated 44 us ++ q) (All-head IsTerm t ts a) (All-head IsTerm u us b) (separated_counted dash ts r e) (separated_counted dash us q f) parts in
    let others = separated_unique dash 44 ts us r q (λ e. omega arith) (All-tail IsTerm t ts a) (All-tail IsTerm u us b) e f first.1 in
    (λ i. first.0 i ∷ others.0 i, others.1)

end_free : (dash : Bool) (r : List ℕ) → IsLabelEnd dash r → NoDigit r
end_free dash [] e = tt
end_free dash (x ∷ w) e = λ d. omega (arith, e.1, d.0)

pub separated_free : (dash : Bool) (ts : List (ℕ × ℕ)) (r : List ℕ) → IsLabelEnd dash r → NoDigit (separated 58 ts ++ r)
separated_free dash [] r e = end_free dash r e
separated_free dash (t ∷ ts) r e = λ d. omega (arith, d.1)

pub label_parts : (t k : List ℕ) (x : Label) → (l : IsLabelText t x) → t ++ k ≡ 115 ∷ (decimal x.level ++ (separated 58 l.terms ++ k))
label_parts t k x l =
    ap (λ u. u ++ k) (l.is ∙ ap (λ u. 115 ∷ (decimal x.level ++ u)) (terms_text_is l.terms)) ∙ ap (λ u. 115 ∷ u) (append_assoc (decimal x.level) (separated 58 l.terms) k)

pub label_unique : (dash : Bool) (t u r q : List ℕ) (x y : Label) → IsLabelText t x → IsLabelText u y → IsLabelEnd dash r → IsLabelEnd dash q → t ++ r ≡ u ++ q → (x ≡ y) × (t ≡ u) × (r ≡ q)
label_unique dash t u r q x y a b e f same =
    let whole : 115 ∷ (decimal x.level ++ (separated 58 a.terms ++ r)) ≡ 115 ∷ (decimal y.level ++ (separated 58 b.terms ++ q)) =
    sym (label_parts t r x a) ∙ same ∙ label_parts u q y b in
    let behind : decimal x.level ++ (separated 58 a.terms ++ r) ≡ decimal y.level ++ (separated 58 b.terms ++ q) = cc in
    let level = number_unique x.level y.level (separated 58 a.terms ++ r) (separated 58 b.terms ++ q) (omega (arith, a.level)) (omega (arith, b.level)) (separated_free dash a.terms r e) (separated_free dash b.terms q f) behind in
    let terms = separated_unique dash 58 a.terms b.terms r q (λ e. omega arith) a.are b.are e f level.1 in
    let cats : x.cats ≡ y.cats = a.cats ∙ ap cats_of_terms terms.0 ∙ sym b.cats in
    let text : t ≡ u =
    a.is ∙ (λ i. 115 ∷ (decimal (level.0 i) ++ terms_text (terms.0 i))) ∙ sym b.is in
    (λ i. record { level = level.0 i; cats = cats i }, text, terms.1)

pub one_label : (t : List ℕ) (x y : Label) → IsLabelText t x → IsLabelText t y → x ≡ y
one_label t x y a b = (label_unique false t t [] [] x y a b tt tt refl).0
