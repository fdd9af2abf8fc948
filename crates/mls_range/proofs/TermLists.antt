-- Terms one after another: each text has one way to be cut into terms, and what the reader of terms keeps.
use Rattle.std.proofs.Common.{◌≡◌, ℕ, suc, ◌^◌, ◌<◌, ◌≤◌, Bool, List, [], ◌∷◌, ◌++◌, length, take, drop, refl, sym, ap, subst, ◌∙◌, append_assoc, arith, inl, inr, ◌⊎◌}
use Rattle.std.specs.Fmt.{decimal}
use Rattle.std.specs.List.{All, flat_map}
use Rattle.std.proofs.lemmas.Bool.{cases_lt}
use Rattle.std.proofs.lemmas.List.{append-nil}
use Rattle.std.proofs.lemmas.List.Elements.{All-nil, All-cons, All-head, All-tail}
use Rattle.std.proofs.lemmas.Fmt.{decimal_injective}
use Rattle.mls_label.specs.declared.octet_grammar.fault.WireFault.{WireFault}
use Rattle.mls_label.specs.declared.octet_grammar.fault.WireKind.{WireKind}
use Rattle.mls_label.specs.declared.octet_grammar.fault.WireKind.TheVariants.{Octet, End}
use Rattle.mls_range.specs.LabelText.{IsTerm, term_text}
use Rattle.mls_range.specs.Crowd.{IsCounted, with_comma}
use Rattle.mls_range.specs.inside.Number.{IsDigit, AllDigits}
use Rattle.mls_range.specs.inside.Rest.{FaultIn, StopsIn, IsLabelEnd, separated, last_text, MoreTerms, Terms, TermOn}
use Rattle.mls_range.proofs.Digits.{digits_of_decimal, digits_back}
use Rattle.mls_range.proofs.Rests.{Goes, goes_self, goes_then, cuts}
use Rattle.mls_range.proofs.TermRests.{term_text_is, last_none, last_some}

-- ---- one way to cut

-- no digit comes first
abbrev pub NoDigit : List ℕ → Type 0
NoDigit [] = Unit {0}
NoDigit (x ∷ t) = IsDigit x → ⊥

no_digit_in : (n x : ℕ) (a e t r : List ℕ) → n < 2 ^ 64 → decimal n ≡ a ++ x ∷ e → NoDigit r → r ≡ (x ∷ e) ++ t → ⊥
no_digit_in n x a e t r small is free q =
    let digit = (digits_back a (x ∷ e) (subst AllDigits is (digits_of_decimal n small))).0 in
    (subst NoDigit q free) digit

pub number_unique : (m n : ℕ) (r q : List ℕ) → m < 2 ^ 64 → n < 2 ^ 64 → NoDigit r → NoDigit q → decimal m ++ r ≡ decimal n ++ q → (m ≡ n) × (r ≡ q)
number_unique m n r q small small2 free free2 e =
    elim (cuts (decimal m) r (decimal n) q e) [
      | inl same ↦ (decimal_injective m n small small2 same.0, same.1)
      | inr o ↦ elim o [
        | inl l ↦ absurd (no_digit_in n l.x (decimal m) l.e q r small2 l.front free l.back)
        | inr l ↦ absurd (no_digit_in m l.x (decimal n) l.e r q small l.front free2 l.back)
      ]
    ]

counted_free : (dash : Bool) (r : List ℕ) → IsCounted dash r → NoDigit r
counted_free dash [] c = tt
counted_free dash (x ∷ t) (inl e) = λ d. omega (arith, e, d.0)
counted_free dash (x ∷ t) (inr e) = λ d. omega (arith, e.1, d.0)

counted_dotless : (dash : Bool) (r t : List ℕ) → IsCounted dash r → r ≡ 46 ∷ t → ⊥
counted_dotless dash [] t c e = absurd (omega (arith, ap length e))
counted_dotless dash (x ∷ w) t (inl c) e = let q : x ≡ 46 = cc in omega arith
counted_dotless dash (x ∷ w) t (inr c) e = let q : x ≡ 46 = cc in omega (arith, c.1)

last_free : (dash : Bool) (m n : ℕ) (r : List ℕ) → m ≤ n → IsCounted dash r → NoDigit (last_text m n ++ r)
last_free dash m n r order c =
    elim (cases_lt m n) [
      | inl lt ↦ subst NoDigit (sym (ap (λ x. x ++ r) (last_some m n lt))) (λ d. omega (arith, d.0))
      | inr le ↦
          let same : n ≡ m = omega arith in
          subst NoDigit (sym (ap (λ k. last_text m k ++ r) same ∙ ap (λ x. x ++ r) (last_none m))) (counted_free dash r c)
    ]

last_unique : (dash : Bool) (m n k : ℕ) (r q : List ℕ) → m ≤ n → n < 65535 → m ≤ k → k < 65535 → IsCounted dash r → IsCounted dash q → last_text m n ++ r ≡ last_text m k ++ q → (n ≡ k) × (r ≡ q)
last_unique dash m n k r q a b c d e f same =
    elim (cases_lt m n) [
      | inl lt ↦ elim (cases_lt m k) [
        | inl lt2 ↦
            let both : 46 ∷ 99 ∷ (decimal n ++ r) ≡ 46 ∷ 99 ∷ (decimal k ++ q) = ap (λ x. x ++ r) (sym (last_some m n lt)) ∙ same ∙ ap (λ x. x ++ q) (last_some m k lt2) in
            let rest : decimal n ++ r ≡ decimal k ++ q = cc in
            number_unique n k r q (omega arith) (omega arith) (counted_free dash r e) (counted_free dash q f) rest
        | inr le2 ↦
            let one : k ≡ m = omega arith in
            let both : q ≡ 46 ∷ 99 ∷ (decimal n ++ r) = sym (ap (λ j. last_text m j ++ q) one ∙ ap (λ x. x ++ q) (last_none m)) ∙ sym same ∙ ap (λ x. x ++ r) (last_some m n lt) in
            absurd (counted_dotless dash q (99 ∷ (decimal n ++ r)) f both)
      ]
      | inr le ↦
          let one : n ≡ m = omega arith in
          let here : last_text m n ++ r ≡ r = ap (λ j. last_text m j ++ r) one ∙ ap (λ x. x ++ r) (last_none m) in
          elim (cases_lt m k) [
            | inl lt2 ↦
                absurd (counted_dotless dash r (99 ∷ (decimal k ++ q)) e (sym here ∙ same ∙ ap (λ x. x ++ q) (last_some m k lt2)))
            | inr le2 ↦
                let two : k ≡ m = omega arith in
                (omega arith, sym here ∙ same ∙ ap (λ j. last_text m j ++ q) two ∙ ap (λ x. x ++ q) (last_none m))
          ]
    ]

pub term_unique : (dash : Bool) (t u : ℕ × ℕ) (r q : List ℕ) → IsTerm t → IsTerm u → IsCounted dash r → IsCounted dash q → term_text t ++ r ≡ term_text u ++ q → (t ≡ u) × (r ≡ q)
term_unique dash t u r q a b c d e =
    let whole : 99 ∷ ((decimal t.0 ++ last_text t.0 t.1) ++ r) ≡ 99 ∷ ((decimal u.0 ++ last_text u.0 u.1) ++ q) =
    ap (λ x. x ++ r) (sym (term_text_is t.0 t.1)) ∙ e ∙ ap (λ x. x ++ q) (term_text_is u.0 u.1) in
    let rest : (decimal t.0 ++ last_text t.0 t.1) ++ r ≡ (decimal u.0 ++ last_text u.0 u.1) ++ q = cc in
    let first = number_unique t.0 u.0 (last_text t.0 t.1 ++ r) (last_text u.0 u.1 ++ q) (omega (arith, a)) (omega (arith, b)) (last_free dash t.0 t.1 r a.0 c) (last_free dash u.0 u.1 q b.0 d) (sym (append_assoc (decimal t.0) (last_text t.0 t.1) r) ∙ rest ∙ append_assoc (decimal u.0) (last_text u.0 u.1) q) in
    let back : last_text t.0 t.1 ++ r ≡ last_text t.0 u.1 ++ q = first.1 ∙ ap (λ k. last_text k u.1 ++ q) (sym first.0) in
    let last = last_unique dash t.0 t.1 u.1 r q a.0 a.1 (omega (arith, first.0, b.0)) b.1 c d back in
    (λ i. (first.0 i, last.0 i), last.1)

-- ---- terms with commas

pub comma_counts : (dash : Bool) (r : List ℕ) → IsCounted dash (44 ∷ r)
comma_counts dash r = inl refl

pub comma_is : (t : ℕ × ℕ) (r : List ℕ) → with_comma t ++ r ≡ term_text t ++ 44 ∷ r
comma_is t r = append_assoc (term_text t) (44 ∷ []) r

-- the terms of the text, as far as they were read, and a counted term behind others: it is one of them, or it comes behind them
pub record Behind (ts before : List (ℕ × ℕ)) (term : ℕ × ℕ) (text rest : List ℕ) : Type 0 where
  pub us : List (ℕ × ℕ)
  pub terms : before ≡ ts ++ us
  pub is : text ≡ flat_map with_comma us ++ (term_text term ++ rest)

pub record Among (ts before : List (ℕ × ℕ)) (term : ℕ × ℕ) : Type 0 where
  pub count : ℕ
  pub is : before ++ term ∷ [] ≡ take count ts

pub peel : (dash : Bool) (ts before : List (ℕ × ℕ)) (term : ℕ × ℕ) (text rest : List ℕ) → All IsTerm ts → All IsTerm before → IsTerm term → IsCounted dash rest → flat_map with_comma ts ++ text ≡ flat_map with_comma before ++ (term_text term ++ rest) → Among ts before term ⊎ Behind ts before term text rest
peel dash [] before term text rest are are2 is_term counts e = inr (record { us = before; terms = refl; is = e })
peel dash (t ∷ ts) [] term text rest are are2 is_term counts e =
    let one : term_text t ++ 44 ∷ (flat_map with_comma ts ++ text) ≡ term_text term ++ rest =
    sym (append_assoc (with_comma t) (flat_map with_comma ts) text ∙ comma_is t (flat_map with_comma ts ++ text)) ∙ e in
    let u = term_unique dash t term (44 ∷ (flat_map with_comma ts ++ text)) rest (All-head IsTerm t ts are) is_term (comma_counts dash (flat_map with_comma ts ++ text)) counts one in
    inl (record { count = 1; is = ap (λ x. x ∷ []) (sym u.0) })
peel dash (t ∷ ts) (b ∷ before) term text rest are are2 is_term counts e =
    let rest2 : List ℕ = flat_map with_comma before ++ (term_text term ++ rest) in
    let one : term_text t ++ 44 ∷ (flat_map with_comma ts ++ text) ≡ term_text b ++ 44 ∷ rest2 =
    sym (append_assoc (with_comma t) (flat_map with_comma ts) text ∙ comma_is t (flat_map with_comma ts ++ text)) ∙ e ∙ (append_assoc (with_comma b) (flat_map with_comma before) (term_text term ++ rest) ∙ comma_is b rest2) in
    let u = term_unique dash t b (44 ∷ (flat_map with_comma ts ++ text)) (44 ∷ rest2) (All-head IsTerm t ts are) (All-head IsTerm b before are2) (comma_counts dash (flat_map with_comma ts ++ text)) (comma_counts dash rest2) one in
    let on : flat_map with_comma ts ++ text ≡ rest2 = let q = u.1 in cc in
    elim (peel dash ts before term text rest (All-tail IsTerm t ts are) (All-tail IsTerm b before are2) is_term counts on) [
      | inl a ↦ inl (record { count = suc a.count; is = λ i. sym u.0 i ∷ a.is i })
      | inr b2 ↦ inr (record { us = b2.us; terms = λ i. sym u.0 i ∷ b2.terms i; is = b2.is })
    ]

-- the first of them
pub record First (dash : Bool) (us : List (ℕ × ℕ)) (term : ℕ × ℕ) (text rest : List ℕ) : Type 0 where
  pub first : ℕ × ℕ
  pub others : List (ℕ × ℕ)
  pub more : List ℕ
  pub is_term : IsTerm first
  pub terms : us ++ term ∷ [] ≡ first ∷ others
  pub is : text ≡ term_text first ++ more
  pub alone : (others ≡ []) ⊎ ((rest2 : List ℕ) × (more ≡ 44 ∷ rest2))
  pub counts : IsCounted dash more

pub first_of_terms : (dash : Bool) (us : List (ℕ × ℕ)) (term : ℕ × ℕ) (text rest : List ℕ) → All IsTerm us → IsTerm term → IsCounted dash rest → text ≡ flat_map with_comma us ++ (term_text term ++ rest) → First dash us term text rest
first_of_terms dash [] term text rest are is_term counts e =
    record { first = term; others = []; more = rest; is_term = is_term; terms = refl; is = e; alone = inl refl; counts = counts }
first_of_terms dash (u ∷ us) term text rest are is_term counts e =
    let rest2 : List ℕ = flat_map with_comma us ++ (term_text term ++ rest) in
    record {
      first = u;
      others = us ++ term ∷ [];
      more = 44 ∷ rest2;
      is_term = All-head IsTerm u us are;
      terms = refl;
      is = e ∙ append_assoc (with_comma u) (flat_map with_comma us) (term_text term ++ rest) ∙ comma_is u rest2;
      alone = inr (rest2, refl);
      counts = comma_counts dash rest2;
    }

-- ---- the grammar of terms behind terms

pub ends_counted : (dash : Bool) (r : List ℕ) → IsLabelEnd dash r → IsCounted dash r
ends_counted dash [] e = tt
ends_counted dash (x ∷ t) e = inr (e.0, e.1)

more_counted_of : (dash : Bool) (r rest : List ℕ) (terms : List (ℕ × ℕ)) → r ≡ separated 44 terms ++ rest → IsLabelEnd dash rest → IsCounted dash r
more_counted_of dash r rest [] e ends = subst (IsCounted dash) (sym e) (ends_counted dash rest ends)
more_counted_of dash r rest (u ∷ us) e ends = subst (IsCounted dash) (sym e) (inl refl)

pub more_counted : (dash : Bool) (r : List ℕ) → MoreTerms dash r → IsCounted dash r
more_counted dash r m = more_counted_of dash r m.rest m.terms m.is m.ends

pub more_none : (dash : Bool) → MoreTerms dash []
more_none dash = record { terms = []; rest = []; are = All-nil IsTerm; is = refl; ends = tt }

comma_terms_of : (dash : Bool) (x rest : List ℕ) (terms : List (ℕ × ℕ)) → All IsTerm terms → 44 ∷ x ≡ separated 44 terms ++ rest → IsLabelEnd dash rest → Terms dash x
comma_terms_of dash x rest [] are e ends =
    let bad : IsLabelEnd dash (44 ∷ x) = subst (IsLabelEnd dash) (sym e) ends in
    absurd (omega (arith, bad.1))
comma_terms_of dash x rest (u ∷ us) are e ends =
    let q : x ≡ (term_text u ++ separated 44 us) ++ rest = cc in
    record {
      term = u;
      more = separated 44 us ++ rest;
      is_term = All-head IsTerm u us are;
      is = q ∙ append_assoc (term_text u) (separated 44 us) rest;
      behind = record { terms = us; rest = rest; are = All-tail IsTerm u us are; is = refl; ends = ends };
    }

pub comma_terms : (dash : Bool) (x : List ℕ) → MoreTerms dash (44 ∷ x) → Terms dash x
comma_terms dash x m = comma_terms_of dash x m.rest m.terms m.are m.is m.ends

pub terms_comma : (dash : Bool) (x : List ℕ) → Terms dash x → MoreTerms dash (44 ∷ x)
terms_comma dash x w =
    let b = w.behind in
    record {
      terms = w.term ∷ b.terms;
      rest = b.rest;
      are = All-cons IsTerm w.term b.terms w.is_term b.are;
      is = ap (λ t. 44 ∷ t) (w.is ∙ ap (λ t. term_text w.term ++ t) b.is ∙ sym (append_assoc (term_text w.term) (separated 44 b.terms) b.rest));
      ends = b.ends;
    }

pub goes_comma : (dash : Bool) (t : ℕ × ℕ) (s : List ℕ) → IsTerm t → Goes (Terms dash) (with_comma t) s (Terms dash)
goes_comma dash t s is_term =
    record {
      into = λ x w. record { term = t; more = 44 ∷ x; is_term = is_term; is = comma_is t x; behind = terms_comma dash x w };
      back = λ x e w.
          let u = term_unique dash t w.term (44 ∷ x) w.more is_term w.is_term (comma_counts dash x) (more_counted dash w.more w.behind) (sym (comma_is t x) ∙ w.is) in
          comma_terms dash x (subst (MoreTerms dash) (sym u.1) w.behind);
    }

pub goes_terms : (dash : Bool) (ts : List (ℕ × ℕ)) (s : List ℕ) → All IsTerm ts → Goes (Terms dash) (flat_map with_comma ts) s (Terms dash)
goes_terms dash [] s are = goes_self (Terms dash) s
goes_terms dash (t ∷ ts) s are =
    goes_then (Terms dash) (with_comma t) (flat_map with_comma ts) s (Terms dash) (Terms dash) (goes_comma dash t (flat_map with_comma ts ++ s) (All-head IsTerm t ts are)) (goes_terms dash ts s (All-tail IsTerm t ts are))

pub terms_on : (dash : Bool) (t : List ℕ) → Terms dash t → TermOn dash t
terms_on dash t w = record { term = w.term; more = w.more; is_term = w.is_term; is = w.is; counts = more_counted dash w.more w.behind }

pub one_term : (dash : Bool) (t : ℕ × ℕ) → IsTerm t → Terms dash (term_text t)
one_term dash t is_term = record { term = t; more = []; is_term = is_term; is = sym (append-nil (term_text t)); behind = more_none dash }

-- a text of the grammar is no fault
pub stops_not : (L : List ℕ → Type 0) (part rest : List ℕ) (kind : WireKind) → L (part ++ rest) → StopsIn L part rest kind → ⊥
stops_not L part rest Octet l stops = stops.3 stops.1 (subst (λ x. L (part ++ x)) stops.2 l)
stops_not L part rest End l stops = stops.1 (subst L (append-nil part) (subst (λ x. L (part ++ x)) stops.0 l))

pub stops_less : (L R : List ℕ → Type 0) (part rest : List ℕ) (kind : WireKind) → ((t : List ℕ) → R t → L t) → StopsIn L part rest kind → StopsIn R part rest kind
stops_less L R part rest Octet less stops = (stops.0, stops.1, stops.2, λ end r. stops.3 end (less (part ++ stops.0 ∷ end) r))
stops_less L R part rest End less stops = (stops.0, λ r. stops.1 (less part r))

counted_on : (dash : Bool) (x : ℕ) (t r : List ℕ) → IsCounted dash (x ∷ t) → IsCounted dash (x ∷ r)
counted_on dash x t r c = c

-- where the fault of a term stands the term isn't whole
term_front : (dash : Bool) (part more rest : List ℕ) (kind : WireKind) → TermOn dash (part ++ more) → StopsIn (TermOn dash) part rest kind → (end : List ℕ) × Terms dash (part ++ end)
term_front dash part more rest kind w stops =
    elim (cuts part more (term_text w.term) w.more w.is) [
      | inl same ↦ ([], subst (Terms dash) (sym same.0 ∙ sym (append-nil part)) (one_term dash w.term w.is_term))
      | inr o ↦ elim o [
        | inl l ↦ (l.x ∷ l.e, subst (Terms dash) l.front (one_term dash w.term w.is_term))
        | inr l ↦
            let on : TermOn dash (part ++ rest) = record {
              term = w.term;
              more = l.x ∷ l.e ++ rest;
              is_term = w.is_term;
              is = ap (λ t. t ++ rest) l.front ∙ append_assoc (term_text w.term) (l.x ∷ l.e) rest;
              counts = counted_on dash l.x (l.e ++ more) (l.e ++ rest) (subst (IsCounted dash) l.back w.counts);
            } in
            absurd (stops_not (TermOn dash) part rest kind on stops)
      ]
    ]

-- the fault of a term is the fault of the terms
pub fault_terms : (dash : Bool) (text : List ℕ) (at : ℕ) (fault : WireFault) → FaultIn (TermOn dash) text at fault → FaultIn (Terms dash) text at fault
fault_terms dash text at fault f =
    let front = term_front dash f.part f.more (drop fault.octet text) fault.kind f.front f.stops in
    record {
      part = f.part;
      reads = f.reads;
      more = front.0;
      front = front.1;
      stops = stops_less (TermOn dash) (Terms dash) f.part (drop fault.octet text) fault.kind (terms_on dash) f.stops;
    }

-- where it stands there is no counted term
pub fault_no_counted : (dash : Bool) (text : List ℕ) (at : ℕ) (fault : WireFault) → FaultIn (TermOn dash) text at fault → TermOn dash (drop at text) → ⊥
fault_no_counted dash text at fault f t =
    stops_not (TermOn dash) f.part (drop fault.octet text) fault.kind (subst (TermOn dash) f.reads.is t) f.stops
