-- What may still come behind a part of a text, and the faults there.
use Rattle.std.proofs.Common.{◌≡◌, ℕ, ◌^◌, ◌<◌, ◌≤◌, Bool, List, [], ◌∷◌, ◌++◌, length, take, drop, refl, sym, ap, subst, ◌∙◌, append_assoc, arith, inl, inr, ◌⊎◌}
use Rattle.std.specs.Fmt.{decimal}
use Rattle.std.proofs.lemmas.List.{append-nil}
use Rattle.std.proofs.lemmas.Fmt.{decimal_injective}
use Rattle.mls_label.specs.declared.octet_grammar.fault.WireFault.{WireFault}
use Rattle.mls_label.specs.declared.octet_grammar.fault.WireKind.{WireKind}
use Rattle.mls_label.specs.declared.octet_grammar.fault.WireKind.TheVariants.{Octet, End}
use Rattle.mls_range.specs.inside.Number.{BeginsNumber, IsDigit, AllDigits}
use Rattle.mls_range.specs.inside.Rest.{Spells, FaultIn, FailsNumber, IsNumber, MissesEnd, MissesOctet, StopsIn}
use Rattle.mls_range.specs.Crowd.{IsCounted}
use Rattle.mls_range.proofs.Digits.{digits_of_decimal, digits_back, digits_front}
use Rattle.mls_range.proofs.Places.{reads_none, reads_on}

-- Behind p, where the text goes on as s does, the texts of L go on as those of R.
pub record Goes (L : List ℕ → Type 0) (p s : List ℕ) (R : List ℕ → Type 0) : Type 0 where
  pub into : (t : List ℕ) → R t → L (p ++ t)
  pub back : (t : List ℕ) → take 1 t ≡ take 1 s → L (p ++ t) → R t

pub goes_self : (L : List ℕ → Type 0) (s : List ℕ) → Goes L [] s L
goes_self L s = record { into = λ t l. l; back = λ t e l. l }

first_same : (p s t : List ℕ) → take 1 t ≡ take 1 s → take 1 (p ++ t) ≡ take 1 (p ++ s)
first_same [] s t e = e
first_same (x ∷ p) s t e = refl

pub goes_then : (L : List ℕ → Type 0) (p q s : List ℕ) (R Q : List ℕ → Type 0) → Goes L p (q ++ s) R → Goes R q s Q → Goes L (p ++ q) s Q
goes_then L p q s R Q g h =
    record {
      into = λ t x. subst L (sym (append_assoc p q t)) (g.into (q ++ t) (h.into t x));
      back = λ t e l. h.back t e (g.back (q ++ t) (first_same q s t e) (subst L (append_assoc p q t) l));
    }

pub goes_octet : (x : ℕ) (s : List ℕ) (R Q : List ℕ → Type 0) → ((t : List ℕ) → R (x ∷ t) → Q t) → ((t : List ℕ) → Q t → R (x ∷ t)) → Goes R (x ∷ []) s Q
goes_octet x s R Q to from = record { into = λ t q. from t q; back = λ t e r. to t r }

-- the fault of what comes is the fault of the whole
stops_goes : (L : List ℕ → Type 0) (p s : List ℕ) (R : List ℕ → Type 0) → Goes L p s R → (part rest : List ℕ) (kind : WireKind) → s ≡ part ++ rest → StopsIn R part rest kind → StopsIn L (p ++ part) rest kind
stops_goes L p s R g part rest Octet is stops = (
  stops.0,
  stops.1,
  stops.2,
  λ end l.
      let same : take 1 (part ++ stops.0 ∷ end) ≡ take 1 (part ++ stops.0 ∷ stops.1) = first_same part (stops.0 ∷ stops.1) (stops.0 ∷ end) refl in
      let here : take 1 (part ++ stops.0 ∷ end) ≡ take 1 s = same ∙ ap (λ x. take 1 (part ++ x)) (sym stops.2) ∙ ap (take 1) (sym is) in
      stops.3 end (g.back (part ++ stops.0 ∷ end) here (subst L (append_assoc p part (stops.0 ∷ end)) l)),
)
stops_goes L p s R g part rest End is stops = (
  stops.0,
  λ l.
      let here : take 1 part ≡ take 1 s = ap (take 1) (sym (append-nil part) ∙ ap (λ x. part ++ x) (sym stops.0) ∙ sym is) in
      stops.1 (g.back part here l),
)

pub fault_goes : (L : List ℕ → Type 0) (p : List ℕ) (R : List ℕ → Type 0) (text : List ℕ) (start at : ℕ) (fault : WireFault) → Spells text start at p → Goes L p (drop at text) R → FaultIn R text at fault → FaultIn L text start fault
fault_goes L p R text start at fault reads g f =
    record {
      part = p ++ f.part;
      reads = reads_on text start at fault.octet p f.part reads f.reads;
      more = f.more;
      front = subst L (sym (append_assoc p f.part f.more)) (g.into (f.part ++ f.more) f.front);
      stops = stops_goes L p (drop at text) R g f.part (drop fault.octet text) fault.kind f.reads.is f.stops;
    }

-- a fault at this very place
pub fault_now : (R : List ℕ → Type 0) (text : List ℕ) (at : ℕ) (fault : WireFault) (some : List ℕ) → at ≤ length text → fault.octet ≡ at → R some → StopsIn R [] (drop at text) fault.kind → FaultIn R text at fault
fault_now R text at fault some within place member stops =
    record {
      part = [];
      reads = subst (λ k. Spells text at k []) (sym place) (reads_none text at within);
      more = some;
      front = member;
      stops = subst (λ k. StopsIn R [] (drop k text) fault.kind) (sym place) stops;
    }

-- another octet stands there than the one that has to
pub stops_octet : (R : List ℕ → Type 0) (wanted : ℕ) (rest : List ℕ) (kind : WireKind) → MissesOctet wanted rest kind → ((x : ℕ) (t : List ℕ) → R (x ∷ t) → x ≡ wanted) → (R [] → ⊥) → StopsIn R [] rest kind
stops_octet R wanted rest Octet m only some = (m.0, m.1, m.2, λ end r. m.3 (only m.0 end r))
stops_octet R wanted rest End m only some = (m, some)

-- an octet that can't stand behind a counted term
pub stops_end : (R : List ℕ → Type 0) (dash : Bool) (rest : List ℕ) (kind : WireKind) → MissesEnd dash rest kind → ((x : ℕ) (w t : List ℕ) → rest ≡ x ∷ w → R (x ∷ t) → IsCounted dash (x ∷ [])) → StopsIn R [] rest kind
stops_end R dash rest Octet m only = (m.0, m.1, m.2, λ end r. m.3 (only m.0 m.1 end m.2 r))
stops_end R dash rest End m only = absurd m

-- ---- a number, and what comes behind it

pub record NumberThen (low high : ℕ) (Q : ℕ → List ℕ → Type 0) (text : List ℕ) : Type 0 where
  pub number : ℕ
  pub more : List ℕ
  pub is : text ≡ decimal number ++ more
  pub above : low ≤ number
  pub below : number ≤ high
  pub behind : Q number more

-- no digit comes behind
abbrev pub IsApart : (ℕ → List ℕ → Type 0) → Type 0
IsApart Q = (n x : ℕ) (t : List ℕ) → Q n (x ∷ t) → IsDigit x → ⊥

-- two ways to cut a list
pub record Longer (a b : List ℕ) (c d : List ℕ) : Type 0 where
  pub x : ℕ
  pub e : List ℕ
  pub front : c ≡ a ++ x ∷ e
  pub back : b ≡ x ∷ e ++ d

abbrev pub Cuts : List ℕ → List ℕ → List ℕ → List ℕ → Type 0
Cuts a b c d = ((a ≡ c) × (b ≡ d)) ⊎ (Longer a b c d ⊎ Longer c d a b)

cuts_more : (x y : ℕ) (a b c d : List ℕ) → x ≡ y → Cuts a b c d → Cuts (x ∷ a) b (y ∷ c) d
cuts_more x y a b c d e (inl same) = inl (cc, same.1)
cuts_more x y a b c d e (inr (inl l)) = inr (inl (record { x = l.x; e = l.e; front = λ i. sym e i ∷ l.front i; back = l.back }))
cuts_more x y a b c d e (inr (inr l)) = inr (inr (record { x = l.x; e = l.e; front = λ i. e i ∷ l.front i; back = l.back }))

pub cuts : (a b c d : List ℕ) → a ++ b ≡ c ++ d → Cuts a b c d
cuts [] b [] d e = inl (refl, e)
cuts [] b (y ∷ c) d e = inr (inl (record { x = y; e = c; front = refl; back = e }))
cuts (x ∷ a) b [] d e = inr (inr (record { x = x; e = a; front = refl; back = sym e }))
cuts (x ∷ a) b (y ∷ c) d e =
    let rest : a ++ b ≡ c ++ d = cc in
    let first : x ≡ y = cc in
    cuts_more x y a b c d first (cuts a b c d rest)

-- the octet behind a shorter number would be a digit
digit_behind : (n x : ℕ) (a e : List ℕ) → n < 2 ^ 64 → decimal n ≡ a ++ x ∷ e → IsDigit x
digit_behind n x a e small is = (digits_back a (x ∷ e) (subst AllDigits is (digits_of_decimal n small))).0

first_of : (x : ℕ) (u s : List ℕ) → take 1 (x ∷ u) ≡ take 1 s → (w : List ℕ) × (s ≡ x ∷ w)
first_of x u [] e = absurd (omega (arith, ap length e))
first_of x u (y ∷ s) e = (s, (let same : x ≡ y = cc in λ i. sym same i ∷ s))

-- a longer number begins there
begins_longer : (low high n m x : ℕ) (e : List ℕ) → low ≤ m → m ≤ high → decimal m ≡ decimal n ++ x ∷ e → BeginsNumber low high (decimal n ++ x ∷ [])
begins_longer low high n m x e above below is =
    record { number = m; more = e; is = is ∙ sym (append_assoc (decimal n) (x ∷ []) e); above = above; below = below }

pub goes_number : (low high n : ℕ) (Q : ℕ → List ℕ → Type 0) (s : List ℕ) → high < 65536 → low ≤ n → n ≤ high → IsApart Q → ((x : ℕ) (w : List ℕ) → s ≡ x ∷ w → BeginsNumber low high (decimal n ++ x ∷ []) → ⊥) → Goes (NumberThen low high Q) (decimal n) s (Q n)
goes_number low high n Q s small above below apart ends =
    record {
      into = λ t q. record { number = n; more = t; is = refl; above = above; below = below; behind = q };
      back = λ t e r.
          let n64 : n < 2 ^ 64 = omega arith in
          let m64 : r.number < 2 ^ 64 = omega (arith, r.below) in
          elim (cuts (decimal n) t (decimal r.number) r.more r.is) [
            | inl same ↦
                let q : r.number ≡ n = sym (decimal_injective n r.number n64 m64 same.0) in
                subst (Q n) (sym same.1) (subst (λ k. Q k r.more) q r.behind)
            | inr o ↦ elim o [
              | inl l ↦
                  let next = first_of l.x (l.e ++ r.more) s (ap (take 1) (sym l.back) ∙ e) in
                  absurd (ends l.x next.0 next.1 (begins_longer low high n r.number l.x l.e r.above r.below l.front))
              | inr l ↦
                  absurd (apart r.number l.x (l.e ++ t) (subst (Q r.number) l.back r.behind) (digit_behind n l.x (decimal r.number) l.e n64 l.front))
            ]
          ];
    }

-- the digits are no number, and no number goes on with what comes: then there is no number
not_then : (low high : ℕ) (Q : ℕ → List ℕ → Type 0) (part rest : List ℕ) → high < 65536 → IsApart Q → AllDigits part → (IsNumber low high part → ⊥) → ((x : ℕ) (w e : List ℕ) → rest ≡ x ∷ w → IsNumber low high (part ++ x ∷ e) → ⊥) → NumberThen low high Q (part ++ rest) → ⊥
not_then low high Q part rest small apart digits none longer r =
    elim (cuts part rest (decimal r.number) r.more r.is) [
      | inl same ↦ none (record { number = r.number; is = same.0; above = r.above; below = r.below })
      | inr o ↦ elim o [
        | inl l ↦ longer l.x (l.e ++ r.more) l.e l.back (record { number = r.number; is = sym l.front; above = r.above; below = r.below })
        | inr l ↦ apart r.number l.x (l.e ++ rest) (subst (Q r.number) l.back r.behind) ((digits_back (decimal r.number) (l.x ∷ l.e) (subst AllDigits l.front digits)).0)
      ]
    ]

stops_then : (low high : ℕ) (Q : ℕ → List ℕ → Type 0) (part rest : List ℕ) (kind : WireKind) → high < 65536 → IsApart Q → AllDigits part → (IsNumber low high part → ⊥) → StopsIn (IsNumber low high) part rest kind → StopsIn (NumberThen low high Q) part rest kind
stops_then low high Q part rest Octet small apart digits none stops = (
  stops.0,
  stops.1,
  stops.2,
  λ end r.
      not_then low high Q part (stops.0 ∷ end) small apart digits none (λ x w e is number.
      let same : stops.0 ≡ x = cc in
      stops.3 e (subst (λ y. IsNumber low high (part ++ y ∷ e)) (sym same) number)) r,
)
stops_then low high Q part rest End small apart digits none stops = (
  stops.0,
  λ r.
      not_then low high Q part [] small apart digits none (λ x w e is number. absurd (omega (arith, ap length is))) (subst (NumberThen low high Q) (sym (append-nil part)) r),
)

pub number_then : (low high : ℕ) (Q : ℕ → List ℕ → Type 0) (text : List ℕ) (at : ℕ) (fault : WireFault) → high < 65536 → IsApart Q → ((n : ℕ) → low ≤ n → n ≤ high → (t : List ℕ) × Q n t) → FailsNumber text at low high fault → FaultIn (NumberThen low high Q) text at fault
number_then low high Q text at fault small apart some f =
    let front = f.fails.front in
    let t = some front.number front.above front.below in
    let digits : AllDigits f.fails.part = digits_front f.fails.part f.fails.more (subst AllDigits (sym front.is) (digits_of_decimal front.number (omega (arith, front.below)))) in
    record {
      part = f.fails.part;
      reads = f.fails.reads;
      more = f.fails.more ++ t.0;
      front = record {
        number = front.number;
        more = t.0;
        is = sym (append_assoc f.fails.part f.fails.more t.0) ∙ ap (λ x. x ++ t.0) front.is;
        above = front.above;
        below = front.below;
        behind = t.1;
      };
      stops = stops_then low high Q f.fails.part (drop fault.octet text) fault.kind small apart digits f.none f.fails.stops;
    }
