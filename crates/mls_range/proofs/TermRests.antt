-- What may come within a term and behind it.
use Rattle.std.proofs.Common.{◌≡◌, ℕ, ◌+◌, ◌<◌, ◌≤◌, Bool, cond, List, [], ◌∷◌, ◌++◌, length, get_or, drop, refl, sym, ap, subst, ◌∙◌, append_assoc, arith, inl, inr, ◌⊎◌}
use Rattle.std.specs.Fmt.{decimal}
use Rattle.std.proofs.lemmas.Bool.{cases_lt, cases_eq, eq-eqb, ne_eqb}
use Rattle.std.proofs.lemmas.List.{append-nil}
use Rattle.mls_label.specs.declared.octet_grammar.fault.WireFault.{WireFault}
use Rattle.mls_range.specs.LabelText.{term_text}
use Rattle.mls_range.specs.Crowd.{IsCounted}
use Rattle.mls_range.specs.inside.Number.{IsDigit}
use Rattle.mls_range.specs.inside.Rest.{Spells, ReadsNumber, FaultIn, MissesOctet, MissesEnd, TermOn, BehindFirst, last_text}
use Rattle.mls_range.proofs.Places.{first_is}
use Rattle.mls_range.proofs.Rests.{Goes, goes_octet, goes_number, NumberThen, IsApart, fault_goes, fault_now, stops_octet, stops_end}

-- ---- the two forms of a term

pub last_none : (m : ℕ) → last_text m m ≡ []
last_none m = ap (λ b. cond b [] (46 ∷ 99 ∷ decimal m)) (eq-eqb m m refl)

pub last_some : (m n : ℕ) → m < n → last_text m n ≡ 46 ∷ 99 ∷ decimal n
last_some m n lt = ap (λ b. cond b [] (46 ∷ 99 ∷ decimal n)) (ne_eqb m n (λ e. omega arith))

pub term_text_is : (m n : ℕ) → term_text (m, n) ≡ 99 ∷ (decimal m ++ last_text m n)
term_text_is m n =
    let both : List ℕ = 99 ∷ (decimal m ++ 46 ∷ 99 ∷ decimal n) in
    elim (cases_eq m n) [
      | inl e ↦
          let none : last_text m n ≡ [] = ap (λ b. cond b [] (46 ∷ 99 ∷ decimal n)) (eq-eqb m n e) in
          ap (λ b. cond b (99 ∷ decimal m) both) (eq-eqb m n e) ∙ ap (λ x. 99 ∷ x) (sym (append-nil (decimal m)) ∙ ap (λ x. decimal m ++ x) (sym none))
      | inr ne ↦
          let some : last_text m n ≡ 46 ∷ 99 ∷ decimal n = ap (λ b. cond b [] (46 ∷ 99 ∷ decimal n)) (ne_eqb m n ne) in
          ap (λ b. cond b (99 ∷ decimal m) both) (ne_eqb m n ne) ∙ ap (λ x. 99 ∷ (decimal m ++ x)) (sym some)
    ]

-- ---- what a rest begins with

pub counted_digit : (dash : Bool) (x : ℕ) → IsCounted dash (x ∷ []) → IsDigit x → ⊥
counted_digit dash x (inl e) d = omega (arith, d.0)
counted_digit dash x (inr e) d = omega (arith, d.0, e.1)

pub counted_dot : (dash : Bool) (x : ℕ) → IsCounted dash (x ∷ []) → x ≡ 46 → ⊥
counted_dot dash x (inl e) d = omega arith
counted_dot dash x (inr e) d = omega (arith, e.1)

pub counted_apart : (dash : Bool) → IsApart (λ n. IsCounted dash)
counted_apart dash n x t m d = counted_digit dash x m d

behind_cases : (dash : Bool) (m n : ℕ) (text more : List ℕ) → m ≤ n → n < 65535 → text ≡ last_text m n ++ more → IsCounted dash more → IsCounted dash text ⊎ ((m < n) × (text ≡ 46 ∷ 99 ∷ (decimal n ++ more)))
behind_cases dash m n text more order small is behind =
    elim (cases_lt m n) [
      | inl lt ↦ inr (lt, is ∙ ap (λ x. x ++ more) (last_some m n lt))
      | inr le ↦
          let same : n ≡ m = omega arith in
          let none : text ≡ more = is ∙ ap (λ k. last_text m k ++ more) same ∙ ap (λ x. x ++ more) (last_none m) in
          inl (subst (IsCounted dash) (sym none) behind)
    ]

pub behind_first : (dash : Bool) (m : ℕ) (text : List ℕ) → (b : BehindFirst dash m text) → IsCounted dash text ⊎ ((m < b.last) × (text ≡ 46 ∷ 99 ∷ (decimal b.last ++ b.more)))
behind_first dash m text b = behind_cases dash m b.last text b.more b.order b.small b.is b.counts

pub behind_octet : (dash : Bool) (m x : ℕ) (t : List ℕ) → BehindFirst dash m (x ∷ t) → IsCounted dash (x ∷ []) ⊎ ((x ≡ 46) × (m < 65534))
behind_octet dash m x t b =
    elim (behind_first dash m (x ∷ t) b) [
      | inl more ↦ inl more
      | inr dot ↦ inr (cc (dot.1), omega (arith, dot.0, b.small))
    ]

pub behind_apart : (dash : Bool) → IsApart (BehindFirst dash)
behind_apart dash m x t b d =
    elim (behind_octet dash m x t b) [
      | inl e ↦ counted_digit dash x e d
      | inr e ↦ omega (arith, e.0, d.0)
    ]

pub behind_none : (dash : Bool) (m : ℕ) → m < 65535 → BehindFirst dash m []
behind_none dash m lt =
    record { last = m; more = []; order = omega arith; small = lt; is = sym (ap (λ x. x ++ []) (last_none m)); counts = tt }

-- ---- from one part to the next

pub terms_first : (dash : Bool) (x : ℕ) (t : List ℕ) → TermOn dash (x ∷ t) → x ≡ 99
terms_first dash x t w =
    let e : x ∷ t ≡ 99 ∷ ((decimal w.term.0 ++ last_text w.term.0 w.term.1) ++ w.more) = w.is ∙ ap (λ x. x ++ w.more) (term_text_is w.term.0 w.term.1) in
    cc

pub terms_some : (dash : Bool) (t : List ℕ) → TermOn dash t → t ≡ [] → ⊥
terms_some dash t w e =
    let q : [] ≡ 99 ∷ ((decimal w.term.0 ++ last_text w.term.0 w.term.1) ++ w.more) = sym e ∙ w.is ∙ ap (λ x. x ++ w.more) (term_text_is w.term.0 w.term.1) in
    cc

pub goes_letter : (dash : Bool) (s : List ℕ) → Goes (TermOn dash) (99 ∷ []) s (NumberThen 0 65534 (BehindFirst dash))
goes_letter dash s =
    goes_octet 99 s (TermOn dash) (NumberThen 0 65534 (BehindFirst dash)) (λ t w.
    let m = w.term.0 in
    let n = w.term.1 in
    let e : 99 ∷ t ≡ 99 ∷ ((decimal m ++ last_text m n) ++ w.more) = w.is ∙ ap (λ x. x ++ w.more) (term_text_is m n) in
    let q : t ≡ (decimal m ++ last_text m n) ++ w.more = cc in
    record {
      number = m;
      more = last_text m n ++ w.more;
      is = q ∙ append_assoc (decimal m) (last_text m n) w.more;
      above = omega arith;
      below = omega (arith, w.is_term);
      behind = record { last = n; more = w.more; order = w.is_term.0; small = w.is_term.1; is = refl; counts = w.counts };
    }) (λ t n.
    let b = n.behind in
    let e : t ≡ (decimal n.number ++ last_text n.number b.last) ++ b.more =
    n.is ∙ ap (λ x. decimal n.number ++ x) b.is ∙ sym (append_assoc (decimal n.number) (last_text n.number b.last) b.more) in
    record {
      term = (n.number, b.last);
      more = b.more;
      is_term = (b.order, b.small);
      is = ap (λ x. 99 ∷ x) e ∙ ap (λ x. x ++ b.more) (sym (term_text_is n.number b.last));
      counts = b.counts;
    })

-- behind the dot of a term
pub record BehindDot (dash : Bool) (m : ℕ) (text : List ℕ) : Type 0 where
  pub last : ℕ
  pub more : List ℕ
  pub order : m < last
  pub small : last < 65535
  pub is : text ≡ 99 ∷ (decimal last ++ more)
  pub counts : IsCounted dash more

pub goes_dot : (dash : Bool) (m : ℕ) (s : List ℕ) → Goes (BehindFirst dash m) (46 ∷ []) s (BehindDot dash m)
goes_dot dash m s =
    goes_octet 46 s (BehindFirst dash m) (BehindDot dash m) (λ t b.
    elim (behind_first dash m (46 ∷ t) b) [
      | inl more ↦ absurd (counted_dot dash 46 more refl)
      | inr dot ↦
          let e : t ≡ 99 ∷ (decimal b.last ++ b.more) = cc (dot.1) in
          record { last = b.last; more = b.more; order = dot.0; small = b.small; is = e; counts = b.counts }
    ]) (λ t d.
    record {
      last = d.last;
      more = d.more;
      order = omega (arith, d.order);
      small = d.small;
      is = ap (λ x. 46 ∷ x) d.is ∙ ap (λ x. x ++ d.more) (sym (last_some m d.last d.order));
      counts = d.counts;
    })

pub dot_first : (dash : Bool) (m x : ℕ) (t : List ℕ) → BehindDot dash m (x ∷ t) → x ≡ 99
dot_first dash m x t d = let e = d.is in cc

pub dot_none : (dash : Bool) (m : ℕ) → BehindDot dash m [] → ⊥
dot_none dash m d = let e = d.is in cc

pub goes_second : (dash : Bool) (m : ℕ) (s : List ℕ) → Goes (BehindDot dash m) (99 ∷ []) s (NumberThen (m + 1) 65534 (λ n. IsCounted dash))
goes_second dash m s =
    goes_octet 99 s (BehindDot dash m) (NumberThen (m + 1) 65534 (λ n. IsCounted dash)) (λ t d.
    let e = d.is in
    record { number = d.last; more = d.more; is = cc; above = omega (arith, d.order); below = omega (arith, d.small); behind = d.counts }) (λ t n.
    record { last = n.number; more = n.more; order = omega (arith, n.above); small = omega (arith, n.below); is = ap (λ x. 99 ∷ x) n.is; counts = n.behind })

pub dot_some : (dash : Bool) (m : ℕ) → m < 65534 → BehindDot dash m (99 ∷ (decimal 65534 ++ []))
dot_some dash m lt = record { last = 65534; more = []; order = lt; small = omega arith; is = refl; counts = tt }

-- ---- faults within a term

pub fault_dot : (dash : Bool) (m : ℕ) (text : List ℕ) (start at : ℕ) (fault : WireFault) → Spells text start at (46 ∷ []) → FaultIn (BehindDot dash m) text at fault → FaultIn (BehindFirst dash m) text start fault
fault_dot dash m text start at fault reads f =
    fault_goes (BehindFirst dash m) (46 ∷ []) (BehindDot dash m) text start at fault reads (goes_dot dash m (drop at text)) f

pub fault_second : (dash : Bool) (m : ℕ) (text : List ℕ) (start at : ℕ) (fault : WireFault) → Spells text start at (99 ∷ []) → FaultIn (NumberThen (m + 1) 65534 (λ n. IsCounted dash)) text at fault → FaultIn (BehindDot dash m) text start fault
fault_second dash m text start at fault reads f =
    fault_goes (BehindDot dash m) (99 ∷ []) (NumberThen (m + 1) 65534 (λ n. IsCounted dash)) text start at fault reads (goes_second dash m (drop at text)) f

pub fault_letter : (dash : Bool) (text : List ℕ) (start at : ℕ) (fault : WireFault) → Spells text start at (99 ∷ []) → FaultIn (NumberThen 0 65534 (BehindFirst dash)) text at fault → FaultIn (TermOn dash) text start fault
fault_letter dash text start at fault reads f =
    fault_goes (TermOn dash) (99 ∷ []) (NumberThen 0 65534 (BehindFirst dash)) text start at fault reads (goes_letter dash (drop at text)) f

-- behind a number
pub fault_number : (low high n : ℕ) (Q : ℕ → List ℕ → Type 0) (text : List ℕ) (start at : ℕ) (fault : WireFault) → high < 65536 → IsApart Q → ReadsNumber text start low high n at → FaultIn (Q n) text at fault → FaultIn (NumberThen low high Q) text start fault
fault_number low high n Q text start at fault small apart r f =
    fault_goes (NumberThen low high Q) (decimal n) (Q n) text start at fault r.reads (goes_number low high n Q (drop at text) small r.above r.below apart r.ends) f

-- the octet at this place can't come behind a term's first number
pub fault_undotted : (dash : Bool) (m : ℕ) (text : List ℕ) (at : ℕ) (fault : WireFault) → at ≤ length text → m < 65535 → fault.octet ≡ at → MissesEnd dash (drop at text) fault.kind → (m ≡ 65534) ⊎ (get_or text at 0 ≡ 46 → ⊥) → FaultIn (BehindFirst dash m) text at fault
fault_undotted dash m text at fault within small place misses undotted =
    fault_now (BehindFirst dash m) text at fault [] within place (behind_none dash m small) (stops_end (BehindFirst dash m) dash (drop at text) fault.kind misses (λ x w t is b.
    elim (behind_octet dash m x t b) [
      | inl counts ↦ counts
      | inr dot ↦ absurd (elim undotted [
        | inl e ↦ omega (arith, dot.1)
        | inr ne ↦ ne (first_is text at x w is ∙ dot.0)
      ])
    ]))

pub fault_behind : (dash : Bool) (text : List ℕ) (at : ℕ) (fault : WireFault) → at ≤ length text → fault.octet ≡ at → MissesEnd dash (drop at text) fault.kind → FaultIn (IsCounted dash) text at fault
fault_behind dash text at fault within place misses =
    fault_now (IsCounted dash) text at fault [] within place (tt) (stops_end (IsCounted dash) dash (drop at text) fault.kind misses (λ x w t is more. more))

pub fault_no_letter : (dash : Bool) (m : ℕ) (text : List ℕ) (at : ℕ) (fault : WireFault) → at ≤ length text → m < 65534 → fault.octet ≡ at → MissesOctet 99 (drop at text) fault.kind → FaultIn (BehindDot dash m) text at fault
fault_no_letter dash m text at fault within small place misses =
    fault_now (BehindDot dash m) text at fault (99 ∷ (decimal 65534 ++ [])) within place (dot_some dash m small) (stops_octet (BehindDot dash m) 99 (drop at text) fault.kind misses (dot_first dash m) (dot_none dash m))

pub terms_one : (dash : Bool) → TermOn dash (term_text (0, 0) ++ [])
terms_one dash = record { term = (0, 0); more = []; is_term = (omega arith, omega arith); is = refl; counts = tt }

pub fault_no_term : (dash : Bool) (text : List ℕ) (at : ℕ) (fault : WireFault) → at ≤ length text → fault.octet ≡ at → MissesOctet 99 (drop at text) fault.kind → FaultIn (TermOn dash) text at fault
fault_no_term dash text at fault within place misses =
    fault_now (TermOn dash) text at fault (term_text (0, 0) ++ []) within place (terms_one dash) (stops_octet (TermOn dash) 99 (drop at text) fault.kind misses (terms_first dash) (λ w. terms_some dash [] w refl))
