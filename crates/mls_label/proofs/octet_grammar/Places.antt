-- The laws of the faults that readers of octets, of numbers and of parts give.
use Rattle.std.proofs.Common.{◌≡◌, ℕ, ◌+◌, ◌*◌, ◌/◌, ◌%◌, ◌<◌, ◌≤◌, max, List, [], ◌∷◌, ◌++◌, length, get_or, take, drop, refl, sym, ap, subst, ◌∙◌, append_assoc, arith, inl, inr, length-drop}
use Rattle.std.specs.Prelude.{slice_index}
use Rattle.std.specs.Prelude.{Result, Ok, Err, MatchResult, IfOk, IfErr}
use Rattle.std.specs.Int.{w16, to_be_bytes}
use Rattle.std.proofs.lemmas.Result.{IfErr-weaker}
use Rattle.std.proofs.lemmas.List.{take-append-drop, take_more, get_or-drop}
use Rattle.mls_label.specs.declared.octet_grammar.fault.WireKind.TheVariants.{Octet}
use Rattle.mls_label.specs.declared.octet_grammar.fault.WireFault.{WireFault}
use Rattle.mls_label.specs.octet_grammar.Front.{IsFront, IsPrefixFree}
use Rattle.mls_label.specs.octet_grammar.Fault.{IsUnfit, FailsFront}
use Rattle.mls_label.specs.octet_grammar.Place.{FaultsAt, EndsAt, FaultsInNumber, IsBetween, HasFirst, moved_by}
use Rattle.mls_label.proofs.octet_grammar.Fronts.{long_agree, front_part}
use Rattle.mls_label.proofs.octet_grammar.Faults.{HasAt, IsWithin, fails_outside, fails_under, fault_within}

pub ends_faults : (s : List ℕ) (at : ℕ) (P : ℕ → Type 0) (f : WireFault) → EndsAt s at f → FaultsAt s at P f
ends_faults s at P f ends = (ends.0, subst (λ k. IsUnfit s at P k) (sym ends.1) ends.2)

pub unfit_faults : (s : List ℕ) (at : ℕ) (P : ℕ → Type 0) (f : WireFault) → f.octet ≡ at → f.kind ≡ Octet → at < length s → (P (slice_index s at) → ⊥) → FaultsAt s at P f
unfit_faults s at P f octet kind lt not = (octet, subst (λ k. IsUnfit s at P k) (sym kind) (lt, not))

-- ---- faults behind what was read

-- each member that begins with p goes on with an octet that passes P
abbrev pub HasNext : {V : Type 0} → (List ℕ → V → Type 0) → List ℕ → (ℕ → Type 0) → Type 0
HasNext {V} G p P = (rest : List ℕ) (v : V) → G (p ++ rest) v → (0 < length rest) × P (slice_index rest 0)

at_from_next : {V : Type 0} (G : List ℕ → V → Type 0) (s p : List ℕ) (P : ℕ → Type 0) (o : ℕ) → o ≤ length s → take o s ≡ p → HasNext G p P → HasAt G s o P
at_from_next G s p P o le read next t v m agree =
    let split : t ≡ p ++ drop o t = sym (take-append-drop o t) ∙ ap (λ x. x ++ drop o t) (agree ∙ read) in
    let long : o ≤ length t = long_agree o t s le agree in
    let n = next (drop o t) v (subst (λ x. G x v) split m) in
    (omega (arith, n.0, length-drop o t), subst P (get_or-drop o t 0 0 ∙ ap (λ k. get_or t k 0) (omega arith)) n.1)

-- Behind p the octets end, or the next is none that a member may have there.
pub next_fails : {V : Type 0} (G : List ℕ → V → Type 0) (free : IsPrefixFree G) (s p : List ℕ) (o : ℕ) (P : ℕ → Type 0) (f : WireFault) → o ≤ length s → take o s ≡ p → IsFront G p → HasNext G p P → FaultsAt s o P f → FailsFront G s f
next_fails G free s p o P f le read front next faults =
    fails_outside G free s o P f le (subst (IsFront G) (sym read) front) (at_from_next G s p P o le read next) faults.0 faults.1

-- ---- bounded numbers of two octets

-- each member that begins with p goes on with a number from low to high
pub record NumberNext (rest : List ℕ) (low high : ℕ) : Type 0 where
  pub number : ℕ
  pub more : List ℕ
  pub is : rest ≡ to_be_bytes w16 number ++ more
  pub bounds : IsBetween low high number
  pub small : number < 65536

-- and each of these may come
pub record HasNumber {V : Type 0} (G : List ℕ → V → Type 0) (p : List ℕ) (low high : ℕ) : Type 0 where
  pub next : (rest : List ℕ) (v : V) → G (p ++ rest) v → NumberNext rest low high
  pub front : (n : ℕ) → IsBetween low high n → IsFront G (p ++ to_be_bytes w16 n)

number_first : {V : Type 0} (G : List ℕ → V → Type 0) (free : IsPrefixFree G) (s p : List ℕ) (o low high : ℕ) (f : WireFault) → o ≤ length s → take o s ≡ p → low ≤ high → HasNumber G p low high → FaultsAt s o (HasFirst low high) f → FailsFront G s f
number_first G free s p o low high f le read order has faults =
    next_fails G free s p o (HasFirst low high) f le read (front_part G p (to_be_bytes w16 low) (has.front low (omega arith, order)))
    (λ rest v m.
    let n = has.next rest v m in
    rw n.is (omega arith, (omega (arith, n.bounds, n.small), omega (arith, n.bounds, n.small))))
    faults

number_second : {V : Type 0} (G : List ℕ → V → Type 0) (free : IsPrefixFree G) (s p : List ℕ) (o low high : ℕ) (f : WireFault) → take o s ≡ p → low ≤ high → high < 65536 → slice_index s o < 256 → HasNumber G p low high → o < length s → HasFirst low high (slice_index s o) → FaultsAt s (o + 1) (λ l. IsBetween low high (256 * slice_index s o + l)) f → FailsFront G s f
number_second G free s p o low high f read order fits small has lt first faults =
    let h = slice_index s o in
    let n = max low (256 * h) in
    let high_octet : n / 256 % 256 ≡ h = omega (arith, first.0, first.1) in
    let q = p ++ h ∷ [] in
    let whole : p ++ to_be_bytes w16 n ≡ q ++ n % 256 ∷ [] = (λ i. p ++ high_octet i ∷ n % 256 ∷ []) ∙ sym (append_assoc p (h ∷ []) (n % 256 ∷ [])) in
    let front = front_part G q (n % 256 ∷ []) (subst (IsFront G) whole (has.front n (omega arith, omega (arith, first.0, first.1)))) in
    next_fails G free s q (o + 1) (λ l. IsBetween low high (256 * h + l)) f (omega arith) (take_more s o 0 lt ∙ ap (λ t. t ++ h ∷ []) read) front
    (λ rest v m.
    let k = has.next (h ∷ rest) v (subst (λ x. G x v) (append_assoc p (h ∷ []) rest) m) in
    let same : h ≡ k.number / 256 % 256 = cc (k.is) in
    let tail : rest ≡ k.number % 256 ∷ k.more = cc (k.is) in
    rw tail (omega arith, (omega (arith, k.bounds, k.small, same), omega (arith, k.bounds, k.small, same))))
    faults

-- Behind p no number in bounds stands.
pub number_fails : {V : Type 0} (G : List ℕ → V → Type 0) (free : IsPrefixFree G) (s p : List ℕ) (o low high : ℕ) (f : WireFault) → o ≤ length s → take o s ≡ p → low ≤ high → high < 65536 → slice_index s o < 256 → HasNumber G p low high → FaultsInNumber s o low high f → FailsFront G s f
number_fails G free s p o low high f le read order fits small has (inl faults) = number_first G free s p o low high f le read order has faults
number_fails G free s p o low high f le read order fits small has (inr second) =
    number_second G free s p o low high f read order fits small has second.0 second.1 second.2

-- ---- parts

-- The fault of a part is the fault of the whole, as many octets further on as stand before the part.
pub part_fails : {V W : Type 0} (to : V → W) (G : List ℕ → V → Type 0) (H : List ℕ → W → Type 0) (free : IsPrefixFree H) (p s : List ℕ) (i : ℕ) (f : WireFault) → i ≤ length s → IsWithin to G H p s i → IsFront G (take i s) → FailsFront G s f → FailsFront H (p ++ s) (moved_by (length p) f)
part_fails to G H free p s i f le within front fails =
    fails_under to G H free p s i f (moved_by (length p) f) le within front fails refl refl

pub fails_within : {V : Type 0} (G : List ℕ → V → Type 0) (s : List ℕ) (f : WireFault) → FailsFront G s f → f.octet ≤ length s
fails_within G s f fails = fault_within G s f.octet f.kind fails.fault.stops

-- The condition of `moved`: the fault of a part stands within it.
pub moved_within : {T V : Type 0} (G : List ℕ → V → Type 0) (s : List ℕ) (n : ℕ) (read : Result T WireFault) → IfErr read (λ f. FailsFront G s f) → length s ≤ n → IfErr read (λ f. f.octet ≤ n)
moved_within G s n read told le =
    IfErr-weaker read (λ f. FailsFront G s f) (λ f. f.octet ≤ n) (λ f fails. omega (arith, le, fails_within G s f fails)) told

moved_same : {T : Type 0} (f g : WireFault) → ◌≡◌ {A = Result T WireFault} (Err f) (Err g) → f ≡ g
moved_same f g e = cc

same_value : {T : Type 0} (x y : T) → ◌≡◌ {A = Result T WireFault} (Ok x) (Ok y) → x ≡ y
same_value x y e = cc

moved_not : {T : Type 0} (x : T) (f : WireFault) → ◌≡◌ {A = Result T WireFault} (Ok x) (Err f) → ⊥
moved_not x f e = cc

-- Its value is the part's,
pub moved_value : {T : Type 0} (read result : Result T WireFault) (n : ℕ) (P : T → Type 0) (x : T) → MatchResult read (λ y. result ≡ Ok y) (λ e. result ≡ Err (moved_by n e)) → IfOk read P → result ≡ Ok x → P x
moved_value (Ok y) result n P x cases told is = subst P (same_value y x (sym cases ∙ is)) told
moved_value (Err e) result n P x cases told is = absurd (moved_not x (moved_by n e) (sym is ∙ cases))

-- and its error the part's, moved.
pub moved_error : {T : Type 0} (read result : Result T WireFault) (n : ℕ) (P Q : WireFault → Type 0) (f : WireFault) → MatchResult read (λ x. result ≡ Ok x) (λ e. result ≡ Err (moved_by n e)) → IfErr read P → result ≡ Err f → ((e : WireFault) → P e → Q (moved_by n e)) → Q f
moved_error (Ok x) result n P Q f cases told is carry = absurd (moved_not x f (sym cases ∙ is))
moved_error (Err e) result n P Q f cases told is carry = subst Q (moved_same (moved_by n e) f (sym cases ∙ is)) (carry e told)
