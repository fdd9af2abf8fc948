-- The general laws of faults: one for a fault at a place whose octets are known, one for a grammar within another.
use Rattle.std.proofs.Common.{◌≡◌, ℕ, ◌+◌, ◌-◌, ◌<◌, ◌≤◌, List, ◌++◌, length, take, refl, sym, ap, subst, ◌∙◌, append_assoc, arith, inl, inr}
use Rattle.std.specs.Prelude.{slice_index}
use Rattle.std.proofs.lemmas.Bool.{cases_lt}
use Rattle.std.proofs.Math.Seq.{take-append-add}
use Rattle.std.proofs.lemmas.List.{take-take, length-take, length-append, take_all}
use Rattle.mls_label.specs.declared.octet_grammar.fault.WireKind.{WireKind}
use Rattle.mls_label.specs.declared.octet_grammar.fault.WireKind.TheVariants.{Octet, End}
use Rattle.mls_label.specs.declared.octet_grammar.fault.WireFault.{WireFault}
use Rattle.mls_label.specs.octet_grammar.Front.{IsFront, IsNoMember, HasNoMember, IsPrefixFree, ReadsFront}
use Rattle.mls_label.specs.octet_grammar.Fault.{StopsAt, IsFault, FailsFront, IsUnfit}
use Rattle.mls_label.proofs.octet_grammar.Fronts.{take_agree_less, at_agree, long_agree, take_front, front_of_member, front_take, front_less, member_long}

-- Each member that agrees with s on the first o octets goes on with an octet that passes P.
abbrev pub HasAt : {V : Type 0} → (List ℕ → V → Type 0) → List ℕ → ℕ → (ℕ → Type 0) → Type 0
HasAt {V} G s o P = (t : List ℕ) (v : V) → G t v → take o t ≡ take o s → (o < length t) × P (slice_index t o)

-- Each of them that goes on there goes on with such an octet.
abbrev pub MayHaveAt : {V : Type 0} → (List ℕ → V → Type 0) → List ℕ → ℕ → (ℕ → Type 0) → Type 0
MayHaveAt {V} G s o P = (t : List ℕ) (v : V) → G t v → take o t ≡ take o s → o < length t → P (slice_index t o)

may_have : {V : Type 0} (G : List ℕ → V → Type 0) (s : List ℕ) (o : ℕ) (P : ℕ → Type 0) → HasAt G s o P → MayHaveAt G s o P
may_have G s o P has t v m e lt = (has t v m e).1

stops_at : {V : Type 0} (G : List ℕ → V → Type 0) (s : List ℕ) (o : ℕ) (P : ℕ → Type 0) → o < length s → MayHaveAt G s o P → (P (slice_index s o) → ⊥) → IsFront G (take (o + 1) s) → ⊥
stops_at G s o P lt has not f =
    let t = take (o + 1) s ++ f.more in
    let agree : take (o + 1) t ≡ take (o + 1) s = take_front (o + 1) s f.more (omega arith) in
    let long : o + 1 ≤ length t = long_agree (o + 1) t s (omega arith) agree in
    let passes = has t f.value f.member (take_agree_less o (o + 1) t s (omega arith) agree) (omega arith) in
    not (subst P (at_agree o (o + 1) t s (omega arith) agree) passes)

none_at : {V : Type 0} (G : List ℕ → V → Type 0) (free : IsPrefixFree G) (s : List ℕ) (o : ℕ) (P : ℕ → Type 0) (k : WireKind) → o ≤ length s → IsFront G (take o s) → HasAt G s o P → IsUnfit s o P k → HasNoMember G s
none_at G free s o P Octet le f has unfit n v m =
    elim (cases_lt n o) [
      | inl lt ↦ member_long G free s n o v le f m lt
      | inr ge ↦
          let agree : take o (take n s) ≡ take o s = take-take o n s ge in
          let h = has (take n s) v m agree in
          let more : o < n = omega (arith, h.0, length-take n s) in
          unfit.1 (subst P (at_agree o n (take n s) s more (take-take n n s (omega arith))) h.1)
    ]
none_at G free s o P End le f has unfit n v m =
    elim (cases_lt n o) [
      | inl lt ↦ member_long G free s n o v le f m lt
      | inr ge ↦
          let h = has (take n s) v m (take-take o n s ge) in
          absurd (omega (arith, h.0, length-take n s, unfit))
    ]

stops_as : {V : Type 0} (G : List ℕ → V → Type 0) (s : List ℕ) (o : ℕ) (P : ℕ → Type 0) (k : WireKind) → MayHaveAt G s o P → HasNoMember G s → IsUnfit s o P k → StopsAt G s o k
stops_as G s o P Octet has none unfit = (unfit.0, stops_at G s o P unfit.0 has unfit.1)
stops_as G s o P End has none unfit = (unfit, λ v m. none (length s) v (subst (λ x. G x v) (sym (take_all (length s) s (omega arith))) m))

-- A fault at an octet whose values are known, of either kind.
pub fails_outside : {V : Type 0} (G : List ℕ → V → Type 0) (free : IsPrefixFree G) (s : List ℕ) (o : ℕ) (P : ℕ → Type 0) (f : WireFault) → o ≤ length s → IsFront G (take o s) → HasAt G s o P → f.octet ≡ o → IsUnfit s o P f.kind → FailsFront G s f
fails_outside G free s o P f le front has at unfit =
    let none = none_at G free s o P f.kind le front has unfit in
    record {
      none = none;
      fault = record {
        front = subst (λ i. IsFront G (take i s)) (sym at) front;
        stops = subst (λ i. StopsAt G s i f.kind) (sym at) (stops_as G s o P f.kind (may_have G s o P has) none unfit);
      };
    }

-- Of what begins as s does up to i, the members of G are those t with p ++ t in H.
pub record IsWithin {V W : Type 0} (to : V → W) (G : List ℕ → V → Type 0) (H : List ℕ → W → Type 0) (p s : List ℕ) (i : ℕ) : Type 0 where
  pub into : (t : List ℕ) (v : V) → take i t ≡ take i s → G t v → H (p ++ t) (to v)
  pub back : (t : List ℕ) (w : W) → take i t ≡ take i s → H (p ++ t) w → (v : V) × G t v

front_under : {V W : Type 0} (to : V → W) (G : List ℕ → V → Type 0) (H : List ℕ → W → Type 0) (p s : List ℕ) (i o : ℕ) → i ≤ length s → o ≤ length s → i ≤ o → IsWithin to G H p s i → IsFront G (take o s) → IsFront H (p ++ take o s)
front_under to G H p s i o le le2 io within f =
    let t = take o s ++ f.more in
    let agree : take i t ≡ take i s = take_agree_less i o t s io (take_front o s f.more le2) in
    record { more = f.more; value = to f.value; member = subst (λ x. H x (to f.value)) (sym (append_assoc p (take o s) f.more)) (within.into t f.value agree f.member) }

-- a front of H past the agreed octets is one of G
front_back : {V W : Type 0} (to : V → W) (G : List ℕ → V → Type 0) (H : List ℕ → W → Type 0) (p s : List ℕ) (i o : ℕ) → o ≤ length s → i ≤ o → IsWithin to G H p s i → IsFront H (p ++ take o s) → IsFront G (take o s)
front_back to G H p s i o le io within f =
    let t = take o s ++ f.more in
    let agree : take i t ≡ take i s = take_agree_less i o t s io (take_front o s f.more le) in
    let b = within.back t f.value agree (subst (λ x. H x f.value) (append_assoc p (take o s) f.more) f.member) in
    record { more = f.more; value = b.0; member = b.1 }

-- A fault stands within its string.
pub fault_within : {V : Type 0} (G : List ℕ → V → Type 0) (s : List ℕ) (o : ℕ) (k : WireKind) → StopsAt G s o k → o ≤ length s
fault_within G s o Octet stops = omega (arith, stops.0)
fault_within G s o End stops = omega (arith, stops.0)

none_under : {V W : Type 0} (to : V → W) (G : List ℕ → V → Type 0) (H : List ℕ → W → Type 0) (free : IsPrefixFree H) (p s : List ℕ) (i : ℕ) → i ≤ length s → IsWithin to G H p s i → IsFront G (take i s) → HasNoMember G s → HasNoMember H (p ++ s)
none_under to G H free p s i le within front none n w m =
    elim (cases_lt n (length p + i)) [
      | inl lt ↦
          let hf : IsFront H (take (length p + i) (p ++ s)) = subst (IsFront H) (sym (take-append-add p s i)) (front_under to G H p s i i le le (omega arith) within front) in
          member_long H free (p ++ s) n (length p + i) w (omega (arith, length-append p s)) hf m lt
      | inr ge ↦
          let j = n - length p in
          let e : n ≡ length p + j = omega arith in
          let at : take n (p ++ s) ≡ p ++ take j s = ap (λ k. take k (p ++ s)) e ∙ take-append-add p s j in
          let b = within.back (take j s) w (take-take i j s (omega arith)) (subst (λ x. H x w) at m) in
          none j b.0 b.1
    ]

stops_under : {V W : Type 0} (to : V → W) (G : List ℕ → V → Type 0) (H : List ℕ → W → Type 0) (p s : List ℕ) (i o : ℕ) (k : WireKind) → i ≤ length s → IsWithin to G H p s i → IsFront G (take i s) → HasNoMember H (p ++ s) → StopsAt G s o k → StopsAt H (p ++ s) (length p + o) k
stops_under to G H p s i o Octet le within front none stops = (
  omega (arith, stops.0, length-append p s),
  λ hf.
      let e : length p + o + 1 ≡ length p + (o + 1) = omega arith in
      let at : take (length p + o + 1) (p ++ s) ≡ p ++ take (o + 1) s = ap (λ k. take k (p ++ s)) e ∙ take-append-add p s (o + 1) in
      elim (cases_lt (o + 1) i) [
        | inl lt ↦ stops.1 (front_less G (o + 1) i s (omega arith) front)
        | inr ge ↦ stops.1 (front_back to G H p s i (o + 1) (omega (arith, stops.0)) ge within (subst (IsFront H) at hf))
      ],
)
stops_under to G H p s i o End le within front none stops =
    (omega (arith, stops.0, length-append p s), λ w m. none (length (p ++ s)) w (subst (λ x. H x w) (sym (take_all (length (p ++ s)) (p ++ s) (omega arith))) m))

-- The fault of a part is the fault of the whole, as many octets further on as stand before the part.
pub fails_under : {V W : Type 0} (to : V → W) (G : List ℕ → V → Type 0) (H : List ℕ → W → Type 0) (free : IsPrefixFree H) (p s : List ℕ) (i : ℕ) (f g : WireFault) → i ≤ length s → IsWithin to G H p s i → IsFront G (take i s) → FailsFront G s f → g.octet ≡ length p + f.octet → g.kind ≡ f.kind → FailsFront H (p ++ s) g
fails_under to G H free p s i f g le within front fails at kind =
    let none = none_under to G H free p s i le within front fails.none in
    let o = f.octet in
    let small : o ≤ length s = fault_within G s o f.kind fails.fault.stops in
    let part : IsFront H (p ++ take o s) =
    elim (cases_lt o i) [
      | inl lt ↦
          let hf : IsFront H (take (length p + i) (p ++ s)) = subst (IsFront H) (sym (take-append-add p s i)) (front_under to G H p s i i le le (omega arith) within front) in
          subst (IsFront H) (take-append-add p s o) (front_less H (length p + o) (length p + i) (p ++ s) (omega arith) hf)
      | inr ge ↦ front_under to G H p s i o le small ge within fails.fault.front
    ] in
    let here : IsFront H (take (length p + o) (p ++ s)) = subst (IsFront H) (sym (take-append-add p s o)) part in
    let stops : StopsAt H (p ++ s) (length p + o) f.kind = stops_under to G H p s i o f.kind le within front none fails.fault.stops in
    record {
      none = none;
      fault = record {
        front = subst (λ n. IsFront H (take n (p ++ s))) (sym at) here;
        stops = subst (λ n. StopsAt H (p ++ s) n g.kind) (sym at) (subst (StopsAt H (p ++ s) (length p + o)) (sym kind) stops);
      };
    }

pub reads_under : {V W : Type 0} (to : V → W) (G : List ℕ → V → Type 0) (H : List ℕ → W → Type 0) (p s : List ℕ) (i n : ℕ) (v : V) → i ≤ n → IsWithin to G H p s i → ReadsFront G s v n → ReadsFront H (p ++ s) (to v) (length p + n)
reads_under to G H p s i n v le within reads =
    record {
      within = omega (arith, reads.within, length-append p s);
      member = subst (λ x. H x (to v)) (sym (take-append-add p s n)) (within.into (take n s) v (take-take i n s le) reads.member);
    }

-- A member is no fault of the whole text: where there is a fault there is no member.
pub fault_no_member : {V : Type 0} (G : List ℕ → V → Type 0) (s : List ℕ) (f : WireFault) (o : ℕ) (k : WireKind) → StopsAt G s o k → IsNoMember G s
fault_no_member G s f o Octet stops v m = stops.1 (front_take G (o + 1) s (front_of_member G s v m))
fault_no_member G s f o End stops v m = stops.1 v m

once : {V : Type 0} (G : List ℕ → V → Type 0) (s : List ℕ) (o p : ℕ) (k l : WireKind) → IsFront G (take o s) → StopsAt G s o k → IsFront G (take p s) → StopsAt G s p l → o < p → ⊥
once G s o p Octet l front stops front2 stops2 lt = stops.1 (front_less G (o + 1) p s (omega arith) front2)
once G s o p End l front stops front2 stops2 lt = absurd (omega (arith, stops.0, fault_within G s p l stops2))

same_kind : {V : Type 0} (G : List ℕ → V → Type 0) (s : List ℕ) (o : ℕ) (k l : WireKind) → StopsAt G s o k → StopsAt G s o l → k ≡ l
same_kind G s o Octet Octet a b = refl
same_kind G s o Octet End a b = absurd (omega (arith, a.0, b.0))
same_kind G s o End Octet a b = absurd (omega (arith, a.0, b.0))
same_kind G s o End End a b = refl

-- A string has one fault at most.
pub fault_once : {V : Type 0} (G : List ℕ → V → Type 0) (s : List ℕ) (f g : WireFault) → IsFault G s f → IsFault G s g → f ≡ g
fault_once G s f g a b =
    let same : f.octet ≡ g.octet =
    elim (cases_lt f.octet g.octet) [
      | inl lt ↦ absurd (once G s f.octet g.octet f.kind g.kind a.front a.stops b.front b.stops lt)
      | inr ge ↦ elim (cases_lt g.octet f.octet) [
        | inl lt ↦ absurd (once G s g.octet f.octet g.kind f.kind b.front b.stops a.front a.stops lt)
        | inr le ↦ omega arith
      ]
    ] in
    let kinds : f.kind ≡ g.kind = same_kind G s g.octet f.kind g.kind (subst (λ o. StopsAt G s o f.kind) same a.stops) b.stops in
    λ i. record { octet = same i; kind = kinds i }
