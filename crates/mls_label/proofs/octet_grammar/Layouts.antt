-- Grammars with fixed places: the octets before a place say which octet may stand there.
use Rattle.std.proofs.Common.{◌≡◌, ℕ, zero, suc, ◌+◌, ◌-◌, ◌<◌, ◌≤◌, List, [], ◌∷◌, ◌++◌, length, take, drop, map, refl, sym, ap, subst, ◌∙◌, append_assoc, arith, ◌⊎◌, inl, inr}
use Rattle.std.specs.Prelude.{slice_index}
use Rattle.std.specs.List.{range_with_len}
use Rattle.std.specs.Int.{w32, from_be_bytes}
use Rattle.std.proofs.lemmas.Bool.{cases_lt}
use Rattle.std.proofs.lemmas.List.{append-nil, take_more, take_all, take-append-drop, length-drop, length-append}
use Rattle.std.proofs.lemmas.List.FromFn.{map-range_with_len_more}
use Rattle.mls_label.specs.declared.octet_grammar.fault.WireKind.TheVariants.{Octet}
use Rattle.mls_label.specs.declared.octet_grammar.fault.WireFault.{WireFault}
use Rattle.mls_label.specs.octet_grammar.Octets.{IsOctets}
use Rattle.mls_label.specs.octet_grammar.Front.{IsFront, IsPrefixFree}
use Rattle.mls_label.specs.octet_grammar.Fault.{FailsFront}
use Rattle.mls_label.specs.octet_grammar.Place.{FaultsAt, EndsAt, EndsWithin, IsZeroAt, FaultsInNonzero}
use Rattle.mls_label.proofs.octet_grammar.Fronts.{front_part}
use Rattle.mls_label.proofs.octet_grammar.Octets.{octets-cons, octets-drop}
use Rattle.mls_label.proofs.octet_grammar.Places.{HasNext, next_fails, ends_faults, unfit_faults}

-- ---- octets that passed

-- each of these octets may stand behind those before it
abbrev pub ArePassed : (List ℕ → ℕ → Type 0) → List ℕ → List ℕ → Type 0
ArePassed May before [] = Unit {0}
ArePassed May before (b ∷ more) = May before b × ArePassed May (before ++ b ∷ []) more

pub passed_join : (May : List ℕ → ℕ → Type 0) (before p q : List ℕ) → ArePassed May before p → ArePassed May (before ++ p) q → ArePassed May before (p ++ q)
passed_join May before [] q first second = subst (λ x. ArePassed May x q) (append-nil before) second
passed_join May before (b ∷ p) q first second =
    (first.0, passed_join May (before ++ b ∷ []) p q first.1 (subst (λ x. ArePassed May x q) (sym (append_assoc before (b ∷ []) p)) second))

pub passed_first : (May : List ℕ → ℕ → Type 0) (before p q : List ℕ) → ArePassed May before (p ++ q) → ArePassed May before p
passed_first May before [] q all = tt
passed_first May before (b ∷ p) q all = (all.0, passed_first May (before ++ b ∷ []) p q all.1)

pub passed_rest : (May : List ℕ → ℕ → Type 0) (before p q : List ℕ) → ArePassed May before (p ++ q) → ArePassed May (before ++ p) q
passed_rest May before [] q all = subst (λ x. ArePassed May x q) (sym (append-nil before)) all
passed_rest May before (b ∷ p) q all =
    subst (λ x. ArePassed May x q) (append_assoc before (b ∷ []) p) (passed_rest May (before ++ b ∷ []) p q all.1)

-- where octets alone are asked for, octets pass
pub passed_octets : (May : List ℕ → ℕ → Type 0) (before more : List ℕ) → ((q : List ℕ) (b : ℕ) → b < 256 → May (before ++ q) b) → IsOctets more → ArePassed May before more
passed_octets May before [] any octets = tt
passed_octets May before (b ∷ more) any octets = (
  subst (λ x. May x b) (append-nil before) (any [] b (octets.at 0)),
  passed_octets May (before ++ b ∷ []) more (λ q c small. subst (λ x. May x c) (sym (append_assoc before (b ∷ []) q)) (any (b ∷ q) c small)) (record { at = λ i. octets.at (suc i) }),
)

-- and where octets pass alone, those that passed are octets
pub octets_passed : (May : List ℕ → ℕ → Type 0) (before more : List ℕ) → ((q : List ℕ) (b : ℕ) → May (before ++ q) b → b < 256) → ArePassed May before more → IsOctets more
octets_passed May before [] only passed = record { at = λ i. omega arith }
octets_passed May before (b ∷ more) only passed =
    let rest = octets_passed May (before ++ b ∷ []) more (λ q c may. only (b ∷ q) c (subst (λ x. May x c) (append_assoc before (b ∷ []) q) may)) passed.1 in
    octets-cons b more (only [] b (subst (λ x. May x b) (sym (append-nil before)) passed.0)) rest

-- the first octets of s, one by one
abbrev pub firsts : List ℕ → ℕ → List ℕ
firsts s n = map (slice_index s) (range_with_len 0 n)

pub firsts_are : (s : List ℕ) (n : ℕ) → n ≤ length s → take n s ≡ firsts s n
firsts_are s zero le = refl
firsts_are s (suc n) le =
    let next : suc n ≡ n + 1 = omega arith in
    ap (λ k. take k s) next
    ∙ take_more s n 0 (omega arith)
    ∙ ap (λ t. t ++ slice_index s n ∷ []) (firsts_are s n (omega arith))
    ∙ sym (map-range_with_len_more (slice_index s) 0 n n (omega arith))
    ∙ ap (λ k. map (slice_index s) (range_with_len 0 k)) (sym next)

pub firsts_rest : (s : List ℕ) (n : ℕ) → n ≤ length s → s ≡ firsts s n ++ drop n s
firsts_rest s n le = sym (take-append-drop n s) ∙ ap (λ t. t ++ drop n s) (firsts_are s n le)

-- ---- grammars with fixed places

-- in front of t are octets that passed, and behind them no more are asked for
pub record Passes (May : List ℕ → ℕ → Type 0) (left : List ℕ → ℕ) (t : List ℕ) : Type 0 where
  pub front : List ℕ
  pub rest : List ℕ
  pub is : t ≡ front ++ rest
  pub passed : ArePassed May [] front
  pub none : left front ≡ 0

-- May says which octet may stand behind the octets before it, and left bounds how many are still asked for.
pub record HasPlaces {V : Type 0} (G : List ℕ → V → Type 0) (May : List ℕ → ℕ → Type 0) (left : List ℕ → ℕ) : Type 0 where
  pub free : IsPrefixFree G
  pub passes : (t : List ℕ) (v : V) → G t v → Passes May left t
  -- where no more are asked for, none are later
  pub ends : (p q : List ℕ) → left p ≡ 0 → left (p ++ q) ≡ 0
  -- behind octets that passed some octet may stand
  pub some : (p : List ℕ) → ArePassed May [] p → 0 < left p → (b : ℕ) × May p b × (left (p ++ b ∷ []) < left p)
  -- and with the last of them they begin a member
  pub whole : (p : List ℕ) (b : ℕ) → ArePassed May [] (p ++ b ∷ []) → 0 < left p → left (p ++ b ∷ []) ≡ 0 → IsFront G (p ++ b ∷ [])

passed_begins : {V : Type 0} (G : List ℕ → V → Type 0) (May : List ℕ → ℕ → Type 0) (left : List ℕ → ℕ) → HasPlaces G May left → (n : ℕ) (p : List ℕ) → ArePassed May [] p → 0 < left p → left p ≤ n → IsFront G p
passed_begins G May left places zero p passed more le = absurd (omega arith)
passed_begins G May left places (suc n) p passed more le =
    let next = places.some p passed more in
    let longer = passed_join May [] p (next.0 ∷ []) passed (next.1, tt) in
    front_part G p (next.0 ∷ [])
    (elim (cases_lt 0 (left (p ++ next.0 ∷ []))) [
      | inl still ↦ passed_begins G May left places n (p ++ next.0 ∷ []) longer still (omega (arith, next.2))
      | inr none ↦ places.whole p next.0 longer more (omega arith)
    ])

-- Octets that passed begin a member, where more are asked for.
pub passed_front : {V : Type 0} (G : List ℕ → V → Type 0) (May : List ℕ → ℕ → Type 0) (left : List ℕ → ℕ) → HasPlaces G May left → (p : List ℕ) → ArePassed May [] p → 0 < left p → IsFront G p
passed_front G May left places p passed more = passed_begins G May left places (left p) p passed more (omega arith)

-- of two fronts of one string one is a front of the other
fronts_agree : (p rest a b : List ℕ) → p ++ rest ≡ a ++ b → ((c : List ℕ) × (a ≡ p ++ c) × (rest ≡ c ++ b)) ⊎ ((c : List ℕ) × (p ≡ a ++ c))
fronts_agree [] rest a b e = inl (a, refl, e)
fronts_agree (x ∷ p) rest [] b e = inr (x ∷ p, refl)
fronts_agree (x ∷ p) rest (y ∷ a) b e =
    let same : x ≡ y = cc in
    let tail : p ++ rest ≡ a ++ b = cc in
    elim (fronts_agree p rest a b tail) [
      | inl longer ↦ inl (longer.0, (λ i. sym same i ∷ longer.1 i), longer.2)
      | inr shorter ↦ inr (shorter.0, λ i. same i ∷ shorter.1 i)
    ]

goes_on : (May : List ℕ → ℕ → Type 0) (left : List ℕ → ℕ) (p rest c b : List ℕ) → ArePassed May [] (p ++ c) → left (p ++ c) ≡ 0 → 0 < left p → rest ≡ c ++ b → (0 < length rest) × May p (slice_index rest 0)
goes_on May left p rest [] b passed none more is = absurd (omega (arith, more, ap left (append-nil p), none))
goes_on May left p rest (x ∷ c) b passed none more is = rw is (omega arith, (passed_rest May [] p (x ∷ c) passed).0)

place_next : {V : Type 0} (G : List ℕ → V → Type 0) (May : List ℕ → ℕ → Type 0) (left : List ℕ → ℕ) → HasPlaces G May left → (p : List ℕ) → 0 < left p → HasNext G p (May p)
place_next G May left places p more rest v m =
    let k = places.passes (p ++ rest) v m in
    elim (fronts_agree p rest k.front k.rest k.is) [
      | inl longer ↦ goes_on May left p rest longer.0 k.rest (subst (ArePassed May []) longer.1 k.passed) (ap left (sym longer.1) ∙ k.none) more longer.2
      | inr shorter ↦ absurd (omega (arith, more, ap left shorter.1, places.ends k.front shorter.0 k.none))
    ]

-- The octets before a place passed, and there the octet doesn't, or the octets end.
pub place_fails : {V : Type 0} (G : List ℕ → V → Type 0) (May : List ℕ → ℕ → Type 0) (left : List ℕ → ℕ) → HasPlaces G May left → (s : List ℕ) (at : ℕ) (f : WireFault) → at ≤ length s → ArePassed May [] (firsts s at) → 0 < left (firsts s at) → FaultsAt s at (May (firsts s at)) f → FailsFront G s f
place_fails G May left places s at f le passed more faults =
    let p = firsts s at in
    next_fails G places.free s p at (May p) f le (firsts_are s at le) (passed_front G May left places p passed more) (place_next G May left places p more) faults

pub place_ends : {V : Type 0} (G : List ℕ → V → Type 0) (May : List ℕ → ℕ → Type 0) (left : List ℕ → ℕ) → HasPlaces G May left → (s : List ℕ) (at : ℕ) (f : WireFault) → ArePassed May [] (firsts s at) → 0 < left (firsts s at) → EndsAt s at f → FailsFront G s f
place_ends G May left places s at f passed more ends =
    place_fails G May left places s at f (omega (arith, ends.2)) passed more (ends_faults s at (May (firsts s at)) f ends)

pub place_unfit : {V : Type 0} (G : List ℕ → V → Type 0) (May : List ℕ → ℕ → Type 0) (left : List ℕ → ℕ) → HasPlaces G May left → (s : List ℕ) (at : ℕ) → at < length s → ArePassed May [] (firsts s at) → 0 < left (firsts s at) → (May (firsts s at) (slice_index s at) → ⊥) → FailsFront G s (record { octet = at; kind = Octet })
place_unfit G May left places s at lt passed more not =
    place_fails G May left places s at (record { octet = at; kind = Octet }) (omega arith) passed more (refl, (lt, not))

-- All octets passed, and more are to come.
pub passed_ends : {V : Type 0} (G : List ℕ → V → Type 0) (May : List ℕ → ℕ → Type 0) (left : List ℕ → ℕ) → HasPlaces G May left → (s : List ℕ) (f : WireFault) → ArePassed May [] s → 0 < left s → EndsAt s (length s) f → FailsFront G s f
passed_ends G May left places s f passed more ends =
    next_fails G places.free s s (length s) (May s) f (omega arith) (take_all (length s) s (omega arith)) (passed_front G May left places s passed more) (place_next G May left places s more) (ends_faults s (length s) (May s) f ends)

-- ---- grammars whose first n octets have fixed places

pub record HasTable {V : Type 0} (G : List ℕ → V → Type 0) (n : ℕ) (May : List ℕ → ℕ → Type 0) : Type 0 where
  pub free : IsPrefixFree G
  pub passes : (t : List ℕ) (v : V) → G t v → Passes May (λ p. n - length p) t
  pub some : (p : List ℕ) → ArePassed May [] p → length p < n → (b : ℕ) × May p b
  pub whole : (s : List ℕ) → ArePassed May [] (firsts s n) → IsFront G (firsts s n)

pub table_places : {V : Type 0} (G : List ℕ → V → Type 0) (n : ℕ) (May : List ℕ → ℕ → Type 0) → HasTable G n May → HasPlaces G May (λ p. n - length p)
table_places G n May table =
    record {
      free = table.free;
      passes = table.passes;
      ends = λ p q none. omega (arith, none, length-append p q);
      some = λ p passed more.
          let next = table.some p passed (omega (arith, more)) in
          (next.0, next.1, omega (arith, more, length-append p (next.0 ∷ [])));
      whole = λ p b passed more none.
          let q = p ++ b ∷ [] in
          let long : length q ≡ n = omega (arith, more, none, length-append p (b ∷ [])) in
          let same : q ≡ firsts q n = sym (take_all n q (omega arith)) ∙ firsts_are q n (omega arith) in
          subst (IsFront G) (sym same) (table.whole q (subst (ArePassed May []) same passed));
    }

-- ---- four octets that aren't all 0

-- behind p stand three octets, and a fourth that isn't 0 where they are
pub record HasNonzero (May : List ℕ → ℕ → Type 0) (left : List ℕ → ℕ) (p : List ℕ) : Type 0 where
  pub first : (a : ℕ) → a < 256 → May p a
  pub second : (a b : ℕ) → b < 256 → May (p ++ a ∷ []) b
  pub third : (a b c : ℕ) → c < 256 → May ((p ++ a ∷ []) ++ b ∷ []) c
  pub fourth : (a b c d : ℕ) → May (((p ++ a ∷ []) ++ b ∷ []) ++ c ∷ []) d → 0 < from_be_bytes w32 (a ∷ b ∷ c ∷ d ∷ [])
  pub due : (q : List ℕ) → length q < 4 → 0 < left (p ++ q)

three_passed : (May : List ℕ → ℕ → Type 0) (left : List ℕ → ℕ) (p q : List ℕ) → HasNonzero May left p → IsOctets q → length q < 4 → ArePassed May p q
three_passed May left p [] has octets few = tt
three_passed May left p (a ∷ []) has octets few = (has.first a (octets.at 0), tt)
three_passed May left p (a ∷ b ∷ []) has octets few = (has.first a (octets.at 0), (has.second a b (octets.at 1), tt))
three_passed May left p (a ∷ b ∷ c ∷ []) has octets few = (has.first a (octets.at 0), (has.second a b (octets.at 1), (has.third a b c (octets.at 2), tt)))
three_passed May left p (a ∷ b ∷ c ∷ d ∷ q) has octets few = absurd (omega (arith, few))

nonzero_ends : {V : Type 0} (G : List ℕ → V → Type 0) (May : List ℕ → ℕ → Type 0) (left : List ℕ → ℕ) → HasPlaces G May left → (s : List ℕ) (at : ℕ) (f : WireFault) → IsOctets s → ArePassed May [] (firsts s at) → HasNonzero May left (firsts s at) → EndsWithin s at f → FailsFront G s f
nonzero_ends G May left places s at f octets passed has ends =
    let q = drop at s in
    let few : length q < 4 = omega (arith, length-drop at s, ends.from, ends.short) in
    let split = sym (firsts_rest s at ends.from) in
    let all = subst (ArePassed May []) split (passed_join May [] (firsts s at) q passed (three_passed May left (firsts s at) q has (octets-drop at s octets) few)) in
    let more : 0 < left s = subst (λ x. 0 < left x) split (has.due q few) in
    passed_ends G May left places s f all more (ends.octet, ends.kind, refl)

nonzero_unfit : {V : Type 0} (G : List ℕ → V → Type 0) (May : List ℕ → ℕ → Type 0) (left : List ℕ → ℕ) → HasPlaces G May left → (s : List ℕ) (at : ℕ) (f : WireFault) → IsOctets s → ArePassed May [] (firsts s at) → HasNonzero May left (firsts s at) → IsZeroAt s at f → FailsFront G s f
nonzero_unfit G May left places s at f octets passed has zeros =
    let a = slice_index s at in
    let b = slice_index s (at + 1) in
    let c = slice_index s (at + 2) in
    let d = slice_index s (at + 3) in
    let p = firsts s at in
    let q = ((p ++ a ∷ []) ++ b ∷ []) ++ c ∷ [] in
    let at_1 : at + 1 + 1 ≡ at + 2 = omega arith in
    let at_2 : at + 2 + 1 ≡ at + 3 = omega arith in
    let one : take (at + 1) s ≡ p ++ a ∷ [] = take_more s at 0 (omega (arith, zeros.within)) ∙ ap (λ t. t ++ a ∷ []) (firsts_are s at (omega (arith, zeros.within))) in
    let two : take (at + 2) s ≡ (p ++ a ∷ []) ++ b ∷ [] = ap (λ n. take n s) (sym at_1) ∙ take_more s (at + 1) 0 (omega (arith, zeros.within)) ∙ ap (λ t. t ++ b ∷ []) one in
    let three : take (at + 3) s ≡ q = ap (λ n. take n s) (sym at_2) ∙ take_more s (at + 2) 0 (omega (arith, zeros.within)) ∙ ap (λ t. t ++ c ∷ []) two in
    let all = passed_join May [] p (a ∷ b ∷ c ∷ []) passed (has.first a (octets.at at), (has.second a b (octets.at (at + 1)), (has.third a b c (octets.at (at + 2)), tt))) in
    let split : p ++ a ∷ b ∷ c ∷ [] ≡ q = sym (append_assoc (p ++ a ∷ []) (b ∷ []) (c ∷ []) ∙ append_assoc p (a ∷ []) (b ∷ c ∷ [])) in
    let more : 0 < left q = subst (λ x. 0 < left x) split (has.due (a ∷ b ∷ c ∷ []) (omega arith)) in
    next_fails G places.free s q (at + 3) (May q) f (omega (arith, zeros.within)) three
    (passed_front G May left places q (subst (ArePassed May []) split all) more)
    (place_next G May left places q more)
    (unfit_faults s (at + 3) (May q) f zeros.octet zeros.kind zeros.within (λ may. omega (arith, has.fourth a b c d may, zeros.none)))

-- The octets before a number of four octets passed, and it is 0, or the octets end within it.
pub nonzero_fails : {V : Type 0} (G : List ℕ → V → Type 0) (May : List ℕ → ℕ → Type 0) (left : List ℕ → ℕ) → HasPlaces G May left → (s : List ℕ) (at : ℕ) (f : WireFault) → IsOctets s → ArePassed May [] (firsts s at) → HasNonzero May left (firsts s at) → FaultsInNonzero s at f → FailsFront G s f
nonzero_fails G May left places s at f octets passed has (inl ends) = nonzero_ends G May left places s at f octets passed has ends
nonzero_fails G May left places s at f octets passed has (inr zeros) = nonzero_unfit G May left places s at f octets passed has zeros
