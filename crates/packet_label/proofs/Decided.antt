-- Grammars whose whole strings can be decided, and whose members are short: each string has a value or a first fault.
use Rattle.std.proofs.Common.{◌≡◌, ℕ, zero, suc, ◌+◌, ◌<◌, ◌≤◌, List, [], ◌∷◌, ◌++◌, length, take, refl, sym, subst, append_assoc, arith, ◌⊎◌, inl, inr}
use Rattle.std.proofs.lemmas.Bool.{cases_lt, cases_eq}
use Rattle.std.proofs.lemmas.List.{take_all, append-nil, length-append, get_or_at}
use Rattle.mls_label.specs.declared.octet_grammar.fault.WireKind.TheVariants.{Octet, End}
use Rattle.mls_label.specs.declared.octet_grammar.fault.WireFault.{WireFault}
use Rattle.mls_label.specs.octet_grammar.Octets.{IsOctets}
use Rattle.mls_label.specs.octet_grammar.Front.{IsFront, HasNoMember}
use Rattle.mls_label.specs.octet_grammar.Fault.{FailsFront}
use Rattle.mls_label.proofs.octet_grammar.Fronts.{front_part}

-- ---- facts that are decided

abbrev pub Decided : Type 0 → Type 0
Decided P = P ⊎ (P → ⊥)

pub both : {P Q : Type 0} → Decided P → Decided Q → Decided (P × Q)
both (inl p) (inl q) = inl (p, q)
both (inl p) (inr not) = inr (λ b. not b.1)
both (inr not) q = inr (λ b. not b.0)

pub as_well : {P Q : Type 0} → Decided P → (P → Q) → (Q → P) → Decided Q
as_well (inl p) into back = inl (into p)
as_well (inr not) into back = inr (λ q. not (back q))

pub below : (a b : ℕ) → Decided (a < b)
below a b = elim (cases_lt a b) [ inl lt ↦ inl lt | inr ge ↦ inr (λ lt. omega (arith, lt, ge)) ]

pub at_most : (a b : ℕ) → Decided (a ≤ b)
at_most a b = elim (cases_lt b a) [ inl lt ↦ inr (λ le. omega (arith, lt, le)) | inr le ↦ inl le ]

-- some number passes, or none below n does
some_below : (P : ℕ → Type 0) (n : ℕ) → ((k : ℕ) → Decided (P k)) → ((k : ℕ) × P k) ⊎ ((k : ℕ) → k < n → P k → ⊥)
some_below P zero test = inr (λ k lt p. omega (arith, lt))
some_below P (suc n) test = elim (test n) [
  | inl passes ↦ inl (n, passes)
  | inr not ↦ elim (some_below P n test) [
    | inl some ↦ inl some
    | inr none ↦ inr (λ k lt p. elim (cases_eq k n) [ inl e ↦ not (subst P e p) | inr ne ↦ none k (omega (arith, lt, ne)) p ])
  ]
]

-- ---- grammars

-- the whole string is a member
abbrev pub Whole : {V : Type 0} → (List ℕ → V → Type 0) → List ℕ → Type 0
Whole {V} G s = (v : V) × G s v

-- Whether a string is a member is decided; members hold octets, and no more than so many; and there is a member.
pub record IsDecided {V : Type 0} (G : List ℕ → V → Type 0) (most : ℕ) : Type 0 where
  pub whole : (s : List ℕ) → Decided (Whole G s)
  pub octets : (s : List ℕ) (v : V) → G s v → IsOctets s
  pub short : (s : List ℕ) (v : V) → G s v → length s ≤ most
  pub some : IsFront G []

module _ (V : Type 0) (G : List ℕ → V → Type 0) (most : ℕ) (is : IsDecided G most) where
  -- a member that begins so is this string, or goes on with an octet
  goes_on : (s more : List ℕ) (v : V) → G (s ++ more) v → (Whole G s → ⊥) → ((b : ℕ) → b < 256 → IsFront G (s ++ b ∷ []) → ⊥) → ⊥
  goes_on s [] v m no_whole no_front = no_whole (v, subst (λ (x : List ℕ). G x v) (append-nil s) m)
  goes_on s (b ∷ more) v m no_whole no_front =
      let small : b < 256 = omega (arith, (is.octets (s ++ b ∷ more) v m).at (length s), get_or_at s b more 0 (length s) refl) in
      no_front b small (record { more = more; value = v; member = subst (λ (x : List ℕ). G x v) (sym (append_assoc s (b ∷ []) more)) m })

  no_room : (s more : List ℕ) (v : V) → most ≤ length s → G (s ++ more) v → Whole G s
  no_room s [] v le m = (v, subst (λ (x : List ℕ). G x v) (append-nil s) m)
  no_room s (b ∷ more) v le m = absurd (omega (arith, le, is.short (s ++ b ∷ more) v m, length-append s (b ∷ more)))

  whole_front : (s : List ℕ) → Whole G s → IsFront G s
  whole_front s w = record { more = []; value = w.0; member = subst (λ (x : List ℕ). G x w.0) (sym (append-nil s)) w.1 }

  -- some member begins so, where so many octets more are enough
  front_within : (n : ℕ) (s : List ℕ) → most ≤ length s + n → Decided (IsFront G s)
  front_within zero s le = as_well (is.whole s) (whole_front s) (λ f. no_room s f.more f.value (omega (arith, le)) f.member)
  front_within (suc n) s le = elim (is.whole s) [
    | inl w ↦ inl (whole_front s w)
    | inr no_whole ↦ elim (some_below (λ b. IsFront G (s ++ b ∷ [])) 256 (λ b. front_within n (s ++ b ∷ []) (omega (arith, le, length-append s (b ∷ []))))) [
      | inl found ↦ inl (front_part G s (found.0 ∷ []) found.1)
      | inr none ↦ inr (λ f. goes_on s f.more f.value f.member no_whole none)
    ]
  ]

  -- the first octet that no member has there, from o on
  fault_from : (n o : ℕ) (s : List ℕ) → o + n ≡ length s → HasNoMember G s → IsFront G (take o s) → (f : WireFault) × FailsFront G s f
  fault_from zero o s long none front = (
    record { octet = o; kind = End },
    record {
      none = none;
      fault = record {
        front = front;
        stops = (omega (arith, long), λ v m. none (length s) v (subst (λ (x : List ℕ). G x v) (sym (take_all (length s) s (omega arith))) m));
      };
    },
  )
  fault_from (suc n) o s long none front = elim (front_within most (take (o + 1) s) (omega arith)) [
    | inl next ↦ fault_from n (o + 1) s (omega (arith, long)) none next
    | inr stops ↦ (record { octet = o; kind = Octet }, record { none = none; fault = record { front = front; stops = (omega (arith, long), stops) } })
  ]

  -- Where no front of a string is a shorter member, the string is a member or has a first fault.
  pub value_or_fault : (s : List ℕ) → ((n : ℕ) (v : V) → G (take n s) v → take n s ≡ s) → Whole G s ⊎ ((f : WireFault) × FailsFront G s f)
  value_or_fault s only = elim (is.whole s) [
    | inl w ↦ inl w
    | inr no_whole ↦ inr (fault_from (length s) 0 s (omega arith) (λ n v m. no_whole (v, subst (λ (x : List ℕ). G x v) (only n v m) m)) is.some)
  ]
