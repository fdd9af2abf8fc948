-- No front of a label's terms needs too many runs exactly where no term of its text is too much.
use Rattle.std.proofs.Common.{◌≡◌, ℕ, suc, ◌+◌, ◌<◌, ◌≤◌, Bool, true, List, [], ◌∷◌, ◌++◌, length, take, refl, sym, ap, subst, ◌∙◌, append_assoc, length-take, arith, inl, inr}
use Rattle.std.specs.Prelude.{nat_le}
use Rattle.std.specs.Fmt.{decimal}
use Rattle.std.specs.List.{All, flat_map, list_all, range_with_len}
use Rattle.std.proofs.lemmas.Bool.{cases_lt, leb-true, le-leb, or_cases, or_right}
use Rattle.std.proofs.lemmas.List.{append-nil, take_all}
use Rattle.std.proofs.lemmas.List.Elements.{All-nil, All-head, All-tail, All-push, All-take}
use Rattle.mls_range.specs.LabelText.{IsTerm, term_text}
use Rattle.mls_range.specs.Crowd.{run_count, IsCounted, with_comma, IsRoomy}
use Rattle.mls_range.specs.Computed.{is_roomy}
use Rattle.mls_range.specs.inside.Rest.{IsLabelEnd, separated}
use Rattle.mls_range.proofs.TermLists.{number_unique, term_unique, comma_is}
use Rattle.mls_range.proofs.Crowds.{few_push}
use Rattle.mls_range.proofs.Counts.{all_in_range, in_range, few_runs}
use Rattle.mls_range.proofs.Unique.{separated_counted, separated_free, no_separator}

-- no front needs too many runs
abbrev pub Few : List (ℕ × ℕ) → Type 0
Few terms = (n : ℕ) → run_count (take n terms) ≤ 1952

-- ---- the test

few_terms : (terms : List (ℕ × ℕ)) → All IsTerm terms → length terms ≤ 1952 → Few terms
few_terms terms are small n = omega (arith, few_runs (take n terms) (All-take IsTerm n terms are), length-take n terms)

few_fronts : (terms : List (ℕ × ℕ)) → ((n : ℕ) → n ≤ length terms → run_count (take n terms) ≤ 1952) → Few terms
few_fronts terms fronts n =
    elim (cases_lt (length terms) n) [
      | inl lt ↦
          let same : take n terms ≡ take (length terms) terms = take_all n terms (omega arith) ∙ sym (take_all (length terms) terms (omega arith)) in
          omega (arith, ap run_count same, fronts (length terms) (omega arith))
      | inr le ↦ fronts n le
    ]

-- whether a front needs no more
abbrev fits : List (ℕ × ℕ) → ℕ → Bool
fits terms n = nat_le (run_count (take n terms)) 1952

pub roomy_is_few : (terms : List (ℕ × ℕ)) → All IsTerm terms → is_roomy terms ≡ true → Few terms
roomy_is_few terms are roomy =
    elim (or_cases (nat_le (length terms) 1952) (list_all (fits terms) (range_with_len 0 (length terms + 1))) roomy) [
      | inl small ↦ few_terms terms are (leb-true (length terms) 1952 small)
      | inr all ↦
          few_fronts terms (λ n le. leb-true (run_count (take n terms)) 1952 (in_range (fits terms) 0 (length terms + 1) n all (omega arith) (omega arith)))
    ]

pub few_is_roomy : (terms : List (ℕ × ℕ)) → Few terms → is_roomy terms ≡ true
few_is_roomy terms few =
    or_right (nat_le (length terms) 1952) (list_all (fits terms) (range_with_len 0 (length terms + 1))) (all_in_range (fits terms) 0 (length terms + 1) (λ n a b. le-leb (run_count (take n terms)) 1952 (few n)))

-- ---- the term that is too much is one of the text's terms

terms_with : (dash : Bool) (t : ℕ × ℕ) (terms before : List (ℕ × ℕ)) (term : ℕ × ℕ) (r rest : List ℕ) → All IsTerm (t ∷ terms) → All IsTerm before → IsTerm term → IsLabelEnd dash r → IsCounted dash rest
    → term_text t ++ (separated 44 terms ++ r) ≡ flat_map with_comma before ++ (term_text term ++ rest) → (n : ℕ) × (before ++ term ∷ [] ≡ take n (t ∷ terms))
terms_with dash t terms [] term r rest are befores is ends counts e =
    let u = term_unique dash t term (separated 44 terms ++ r) rest (All-head IsTerm t terms are) is (separated_counted dash terms r ends) counts e in
    (1, ap (λ x. x ∷ []) (sym u.0))
terms_with dash t [] (b ∷ before) term r rest are befores is ends counts e =
    let behind : List ℕ = flat_map with_comma before ++ (term_text term ++ rest) in
    let both : term_text t ++ r ≡ term_text b ++ 44 ∷ behind = e ∙ append_assoc (with_comma b) (flat_map with_comma before) (term_text term ++ rest) ∙ comma_is b behind in
    let u = term_unique dash t b r (44 ∷ behind) (All-head IsTerm t [] are) (All-head IsTerm b before befores) (separated_counted dash [] r ends) (inl refl) both in
    absurd (no_separator dash 44 r behind ends u.1 (λ e. omega arith))
terms_with dash t (v ∷ terms) (b ∷ before) term r rest are befores is ends counts e =
    let behind : List ℕ = flat_map with_comma before ++ (term_text term ++ rest) in
    let both : term_text t ++ (separated 44 (v ∷ terms) ++ r) ≡ term_text b ++ 44 ∷ behind = e ∙ append_assoc (with_comma b) (flat_map with_comma before) (term_text term ++ rest) ∙ comma_is b behind in
    let u = term_unique dash t b (separated 44 (v ∷ terms) ++ r) (44 ∷ behind) (All-head IsTerm t (v ∷ terms) are) (All-head IsTerm b before befores) (separated_counted dash (v ∷ terms) r ends) (inl refl) both in
    let next : (term_text v ++ separated 44 terms) ++ r ≡ behind = let same = u.1 in cc in
    let later = terms_with dash v terms before term r rest (All-tail IsTerm t (v ∷ terms) are) (All-tail IsTerm b before befores) is ends counts (sym (append_assoc (term_text v) (separated 44 terms) r) ∙ next) in
    (suc later.0, λ i. sym u.0 i ∷ later.1 i)

behind_level : (dash : Bool) (terms before : List (ℕ × ℕ)) (term : ℕ × ℕ) (r rest : List ℕ) → All IsTerm terms → All IsTerm before → IsTerm term → IsLabelEnd dash r → IsCounted dash rest
    → separated 58 terms ++ r ≡ 58 ∷ (flat_map with_comma before ++ (term_text term ++ rest)) → (n : ℕ) × (before ++ term ∷ [] ≡ take n terms)
behind_level dash [] before term r rest are befores is ends counts e = absurd (no_separator dash 58 r _ ends e (λ e. omega arith))
behind_level dash (t ∷ terms) before term r rest are befores is ends counts e =
    let next : (term_text t ++ separated 44 terms) ++ r ≡ flat_map with_comma before ++ (term_text term ++ rest) = cc in
    terms_with dash t terms before term r rest are befores is ends counts (sym (append_assoc (term_text t) (separated 44 terms) r) ∙ next)

pub few_roomy : (dash : Bool) (level : ℕ) (terms : List (ℕ × ℕ)) (text r : List ℕ) → level < 256 → All IsTerm terms → IsLabelEnd dash r → text ≡ 115 ∷ (decimal level ++ (separated 58 terms ++ r)) → Few terms → IsRoomy dash text
few_roomy dash level terms text r small are ends is few octet c =
    let behind : List ℕ = flat_map with_comma c.before ++ (term_text c.term ++ c.rest) in
    let whole : 115 ∷ (decimal level ++ (separated 58 terms ++ r)) ≡ 115 ∷ (decimal c.level ++ 58 ∷ behind) = sym is ∙ c.is in
    let digits : decimal level ++ (separated 58 terms ++ r) ≡ decimal c.level ++ 58 ∷ behind = cc in
    let u = number_unique level c.level (separated 58 terms ++ r) (58 ∷ behind) (omega arith) (omega (arith, c.small)) (separated_free dash terms r ends) (λ d. omega (arith, d.1)) digits in
    let n = behind_level dash terms c.before c.term r c.rest are c.are c.is_term ends c.counts u.1 in
    omega (arith, c.many, ap run_count n.1, few n.0)

-- ---- a front that needs too many runs has a first term that is too much

cut_at : (s : ℕ) (before : List (ℕ × ℕ)) (term : ℕ × ℕ) (terms : List (ℕ × ℕ)) (r : List ℕ) → separated s (before ++ term ∷ terms) ++ r ≡ s ∷ (flat_map with_comma before ++ (term_text term ++ (separated 44 terms ++ r)))
cut_at s [] term terms r = ap (λ t. s ∷ t) (append_assoc (term_text term) (separated 44 terms) r)
cut_at s (b ∷ before) term terms r =
    let rest : List ℕ = term_text term ++ (separated 44 terms ++ r) in
    ap (λ t. s ∷ t)
    (append_assoc (term_text b) (separated 44 (before ++ term ∷ terms)) r ∙ ap (λ t. term_text b ++ t) (cut_at 44 before term terms r)
    ∙ sym (append_assoc (with_comma b) (flat_map with_comma before) rest ∙ comma_is b (flat_map with_comma before ++ rest)))

few_on : (dash : Bool) (level : ℕ) (before terms : List (ℕ × ℕ)) (text r : List ℕ) → level < 256 → All IsTerm before → All IsTerm terms → IsLabelEnd dash r → text ≡ 115 ∷ (decimal level ++ (separated 58 (before ++ terms) ++ r)) → IsRoomy dash text → Few before → Few (before ++ terms)
few_on dash level before [] text r small befores are ends is roomy few = subst Few (sym (append-nil before)) few
few_on dash level before (t ∷ terms) text r small befores are ends is roomy few =
    let term = All-head IsTerm t terms are in
    let one : run_count (before ++ t ∷ []) ≤ 1952 =
    elim (cases_lt 1952 (run_count (before ++ t ∷ []))) [
      | inl lt ↦
          absurd (roomy _ (record {
            level = level;
            before = before;
            term = t;
            rest = separated 44 terms ++ r;
            small = small;
            are = befores;
            is_term = term;
            is = is ∙ ap (λ x. 115 ∷ (decimal level ++ x)) (cut_at 58 before t terms r);
            counts = separated_counted dash terms r ends;
            few = few;
            many = lt;
            place = refl;
          }))
      | inr le ↦ le
    ] in
    let same : before ++ t ∷ terms ≡ (before ++ t ∷ []) ++ terms = sym (append_assoc before (t ∷ []) terms) in
    let text_is : text ≡ 115 ∷ (decimal level ++ (separated 58 ((before ++ t ∷ []) ++ terms) ++ r)) = is ∙ ap (λ ts. 115 ∷ (decimal level ++ (separated 58 ts ++ r))) same in
    subst Few (sym same) (few_on dash level (before ++ t ∷ []) terms text r small (All-push IsTerm before t befores term) (All-tail IsTerm t terms are) ends text_is roomy (few_push before t few one))

pub roomy_few : (dash : Bool) (level : ℕ) (terms : List (ℕ × ℕ)) (text r : List ℕ) → level < 256 → All IsTerm terms → IsLabelEnd dash r → text ≡ 115 ∷ (decimal level ++ (separated 58 terms ++ r)) → IsRoomy dash text → Few terms
roomy_few dash level terms text r small are ends is roomy =
    few_on dash level [] terms text r small (All-nil IsTerm) are ends is roomy (few_terms [] (All-nil IsTerm) (omega arith))
