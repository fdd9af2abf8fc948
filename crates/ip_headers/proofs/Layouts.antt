-- Options laid out again: one option after another, and a walk over a list of options that is whole.
use Rattle.std.proofs.Common.{◌≡◌, ℕ, zero, suc, ◌+◌, ◌-◌, ◌*◌, ◌%◌, ◌^◌, ◌<◌, ◌≤◌, true, false, cond, List, [], ◌∷◌, ◌++◌, length, map, filter, take, drop, replicate, None, refl, sym, ap, ◌∙◌, append_assoc, arith, length-append, length-drop}
use Rattle.std.specs.Prelude.{Result, Ok, Err, is_ok, OnOk}
use Rattle.std.proofs.lemmas.List.{append-nil, length-take, length-replicate, map-append, take-replicate}
use Rattle.std.proofs.lemmas.List.Elements.{filter-append}
use Rattle.ip_headers.specs.declared.version.Version.{Version}
use Rattle.ip_headers.specs.declared.version.Version.TheVariants.{V4, V6}
use Rattle.ip_headers.specs.declared.options.Step.{Step}
use Rattle.ip_headers.specs.declared.options.Step.TheVariants as step
use Rattle.ip_headers.specs.Options.{Placed, Listed, is_other, aligned, others_of, options_from}
use Rattle.ip_headers.specs.Reading.{first_place}
use Rattle.ip_headers.specs.inside.Walk.{step_of}
use Rattle.ip_headers.specs.inside.Write.{IsWholeList, others_in}
use Rattle.ip_headers.specs.Written.{alignment, gap_to, padding, packed}
use Rattle.ip_headers.proofs.Walks.{one_more, next_size, at_end, at_broken}

-- ---- padding

pub padding-n : (n : ℕ) → 2 ≤ n → padding V6 n ≡ 1 ∷ (n - 2) ∷ replicate (n - 2) 0
padding-n zero h = absurd (omega arith)
padding-n (suc zero) h = absurd (omega arith)
padding-n (suc (suc n)) h = let e : suc (suc n) - 2 ≡ n = omega arith in rw e refl

pub length-padding : (version : Version) (n : ℕ) → length (padding version n) ≡ n
length-padding V4 n = length-replicate n 0
length-padding V6 zero = refl
length-padding V6 (suc zero) = refl
length-padding V6 (suc (suc n)) = ap (λ (k : ℕ). suc (suc k)) (length-replicate n 0)

-- ---- options one after another

pub packed-append : (version : Version) (free : ℕ) (xs ys : List Placed) → packed version free (xs ++ ys) ≡ packed version free xs ++ packed version (free + length (packed version free xs)) ys
unfolding packed
packed-append version free [] ys = let e : free + 0 ≡ free = omega arith in rw e refl
packed-append version free (x ∷ xs) ys =
    let gap = gap_to (alignment version) x.place free in
    let front = padding version gap ++ x.octets in
    let at = free + gap + length x.octets in
    let e : at + length (packed version at xs) ≡ free + length (front ++ packed version at xs) =
    omega (arith, length-append front (packed version at xs), length-append (padding version gap) x.octets, length-padding version gap) in
    ap (λ (z : List ℕ). front ++ z) (packed-append version at xs ys)
    ∙ sym (append_assoc front (packed version at xs) (packed version (at + length (packed version at xs)) ys))
    ∙ ap (λ (n : ℕ). (front ++ packed version at xs) ++ packed version n ys) e

pub packed-one : (version : Version) (free : ℕ) (x : Placed) → packed version free (x ∷ []) ≡ padding version (gap_to (alignment version) x.place free) ++ x.octets
unfolding packed
packed-one version free x = append-nil (padding version (gap_to (alignment version) x.place free) ++ x.octets)

pub packed-none : (version : Version) (free : ℕ) → packed version free [] ≡ []
unfolding packed
packed-none version free = refl

pub others-cons : (version : Version) (x : Placed) (xs : List Placed) → others_of version (x ∷ xs) ≡ others_of version (x ∷ []) ++ others_of version xs
others-cons version x xs = ap (map (aligned version)) (filter-append (is_other version) (x ∷ []) xs) ∙ map-append (aligned version) (filter (is_other version) (x ∷ [])) (filter (is_other version) xs)

pub others-one : (version : Version) (x : Placed) → is_other version x ≡ true → others_of version (x ∷ []) ≡ aligned version x ∷ []
others-one version x e = rw e refl

pub others-none : (version : Version) (x : Placed) → is_other version x ≡ false → others_of version (x ∷ []) ≡ []
others-none version x e = rw e refl

pub kept_none : (version : Version) (free place : ℕ) (option : List ℕ) → is_other version (record { place = place; octets = option }) ≡ false
    → packed version free (others_of version (record { place = place; octets = option } ∷ [])) ≡ []
kept_none version free place option e = ap (packed version free) (others-none version (record { place = place; octets = option }) e) ∙ packed-none version free

-- the gap before an option that is kept
aligned_gap : (version : Version) (place free : ℕ) (option : List ℕ) → let p = aligned version (record { place = place; octets = option }) in
    padding version (gap_to (alignment version) p.place free) ++ p.octets ≡ padding version (gap_to (alignment version) (place % alignment version) free) ++ option
aligned_gap V4 place free option = let e : gap_to 1 place free ≡ gap_to 1 (place % 1) free = omega arith in ap (λ (n : ℕ). padding V4 n ++ option) e
aligned_gap V6 place free option = refl

pub kept_one : (version : Version) (free place : ℕ) (option : List ℕ) → is_other version (record { place = place; octets = option }) ≡ true
    → packed version free (others_of version (record { place = place; octets = option } ∷ [])) ≡ padding version (gap_to (alignment version) (place % alignment version) free) ++ option
kept_one version free place option e =
    let p : Placed = record { place = place; octets = option } in
    ap (packed version free) (others-one version p e) ∙ packed-one version free (aligned version p) ∙ aligned_gap version place free option

pub length-kept_one : (version : Version) (free place : ℕ) (option : List ℕ) → is_other version (record { place = place; octets = option }) ≡ true
    → length (packed version free (others_of version (record { place = place; octets = option } ∷ []))) ≡ gap_to (alignment version) (place % alignment version) free + length option
length-kept_one version free place option e =
    let gap = gap_to (alignment version) (place % alignment version) free in
    ap length (kept_one version free place option e) ∙ length-append (padding version gap) option ∙ ap (λ (n : ℕ). n + length option) (length-padding version gap)

-- ---- the loops over them

-- the options that are left
pub record IsLeft (version : Version) (at : ℕ) (rest : List ℕ) (todo : List Placed) : Type 0 where
  pub list : options_from version at rest ≡ record { options = todo; broken = None }
  pub place : at + length rest ≤ 2 ^ 17

pub whole_left : (version : Version) (area : List ℕ) → IsWholeList version area → length area < 65536 → IsLeft version (first_place version) area (options_from version (first_place version) area).options
whole_left version area whole small = record { list = λ i. record { options = (options_from version (first_place version) area).options; broken = whole i }; place = first_low version } where
  first_low : (v : Version) → first_place v + length area ≤ 2 ^ 17
  first_low V4 = omega arith
  first_low V6 = omega arith

-- an option is in front
pub record Turn (version : Version) (at : ℕ) (rest : List ℕ) (todo : List Placed) (size : ℕ) (option after : List ℕ) : Type 0 where
  pub more : List Placed
  pub todo_is : others_of version todo ≡ others_of version (record { place = at; octets = option } ∷ []) ++ others_of version more
  pub left : IsLeft version (at + size) after more
  pub sizes : length option + length after ≡ length rest

pub turn : (version : Version) (at : ℕ) (rest : List ℕ) (todo : List Placed) (size : ℕ) (option after : List ℕ) → IsLeft version at rest todo → step_of version rest ≡ step.Option size
    → option ≡ take size rest → after ≡ drop size rest → Turn version at rest todo size option after
turn version at rest todo size option after left e front back =
    let p : Placed = record { place = at; octets = option } in
    let n = next_size version rest size e in
    let list = options_from version (at + size) after in
    let all = sym left.list ∙ one_more version at rest size option after e front back in
    record {
      more = list.options;
      todo_is = ap (λ (l : Listed). others_of version l.options) all ∙ others-cons version p list.options;
      left = record { list = λ i. record { options = list.options; broken = ap (λ (l : Listed). l.broken) (sym all) i }; place = omega (arith, left.place, n.0, n.1, ap length back, length-drop size rest) };
      sizes = omega (arith, n.1, ap length front, length-take size rest, ap length back, length-drop size rest);
    }

pub finish : (version : Version) (at : ℕ) (rest : List ℕ) (todo : List Placed) (s : Step) → IsLeft version at rest todo → s ≡ step_of version rest → ((x : ℕ) → s ≡ step.Option x → ⊥) → todo ≡ []
finish version at rest todo step.End left e stop = sym (ap (λ (l : Listed). l.options) left.list) ∙ ap (λ (l : Listed). l.options) (at_end version at rest (sym e))
finish version at rest todo (step.Option size) left e stop = absurd (stop size refl)
finish version at rest todo step.Broken left e stop = absurd (let h = sym (ap (λ (l : Listed). l.broken) left.list) ∙ ap (λ (l : Listed). l.broken) (at_broken version at rest (sym e)) in cc)

-- how far the options reach that are left
pub record IsMeasured (version : Version) (area : List ℕ) (free at : ℕ) (rest : List ℕ) (end : ℕ) : Type 0 where
  pub todo : List Placed
  pub left : IsLeft version at rest todo
  pub sum : end + length (packed version end (others_of version todo)) ≡ free + length (packed version free (others_in version area))
  pub bound : end + 8 * length rest ≤ free + 8 * length area

-- what the octets become with the options that are left
pub record IsLaid (version : Version) (area old : List ℕ) (at : ℕ) (rest new : List ℕ) : Type 0 where
  pub todo : List Placed
  pub left : IsLeft version at rest todo
  pub whole : new ++ packed version (length new) (others_of version todo) ≡ old ++ packed version (length old) (others_in version area)

pub measured_first : (version : Version) (area : List ℕ) (free at : ℕ) → IsWholeList version area → length area < 65536 → at ≡ first_place version → IsMeasured version area free at area free
measured_first version area free at whole small at_is = record {
  todo = (options_from version (first_place version) area).options;
  left = rw at_is (whole_left version area whole small);
  sum = refl;
  bound = omega arith;
}

pub laid_first : (version : Version) (area old : List ℕ) (at : ℕ) → IsWholeList version area → length area < 65536 → at ≡ first_place version → IsLaid version area old at area old
laid_first version area old at whole small at_is = record {
  todo = (options_from version (first_place version) area).options;
  left = rw at_is (whole_left version area whole small);
  whole = refl;
}

pub measured_more : (version : Version) (area : List ℕ) (free at : ℕ) (rest : List ℕ) (end size : ℕ) (option after : List ℕ) (new : ℕ)
    → IsMeasured version area free at rest end → step_of version rest ≡ step.Option size → option ≡ take size rest → after ≡ drop size rest
    → new ≡ end + length (packed version end (others_of version (record { place = at; octets = option } ∷ []))) → new ≤ end + 8 * length option
    → IsMeasured version area free (at + size) after new
measured_more version area free at rest end size option after new m e front back new_is below =
    let t = turn version at rest m.todo size option after m.left e front back in
    let ones = others_of version (record { place = at; octets = option } ∷ []) in
    let others = others_of version t.more in
    let joined : length (packed version end (others_of version m.todo)) ≡ length (packed version end ones) + length (packed version new others) =
    ap (λ (x : List Placed). length (packed version end x)) t.todo_is ∙ ap length (packed-append version end ones others)
    ∙ length-append (packed version end ones) (packed version (end + length (packed version end ones)) others) ∙ ap (λ (n : ℕ). length (packed version end ones) + length (packed version n others)) (sym new_is) in
    record { todo = t.more; left = t.left; sum = omega (arith, m.sum, joined, new_is); bound = omega (arith, m.bound, below, t.sizes) }

pub laid_more : (version : Version) (area old : List ℕ) (at : ℕ) (rest out : List ℕ) (size : ℕ) (option after new : List ℕ)
    → IsLaid version area old at rest out → step_of version rest ≡ step.Option size → option ≡ take size rest → after ≡ drop size rest
    → new ≡ out ++ packed version (length out) (others_of version (record { place = at; octets = option } ∷ []))
    → IsLaid version area old (at + size) after new
laid_more version area old at rest out size option after new m e front back new_is =
    let t = turn version at rest m.todo size option after m.left e front back in
    let ones = others_of version (record { place = at; octets = option } ∷ []) in
    let others = others_of version t.more in
    let long : length out + length (packed version (length out) ones) ≡ length new = sym (ap length new_is ∙ length-append out (packed version (length out) ones)) in
    let joined : out ++ packed version (length out) (others_of version m.todo) ≡ new ++ packed version (length new) others =
    ap (λ (x : List Placed). out ++ packed version (length out) x) t.todo_is ∙ ap (λ (x : List ℕ). out ++ x) (packed-append version (length out) ones others)
    ∙ sym (append_assoc out (packed version (length out) ones) (packed version (length out + length (packed version (length out) ones)) others))
    ∙ (λ i. sym new_is i ++ packed version (long i) others) in
    record { todo = t.more; left = t.left; whole = sym joined ∙ m.whole }

pub measured_all : (version : Version) (area : List ℕ) (free at : ℕ) (rest : List ℕ) (end : ℕ) (s : Step) → IsMeasured version area free at rest end → s ≡ step_of version rest → ((x : ℕ) → s ≡ step.Option x → ⊥)
    → end ≡ free + length (packed version free (others_in version area))
measured_all version area free at rest end s m e stop =
    let none = finish version at rest m.todo s m.left e stop in
    let nothing : length (packed version end (others_of version m.todo)) ≡ 0 = ap (λ (x : List Placed). length (packed version end (others_of version x))) none ∙ ap length (packed-none version end) in
    omega (arith, m.sum, nothing)

pub laid_all : (version : Version) (area old : List ℕ) (at : ℕ) (rest out : List ℕ) (s : Step) → IsLaid version area old at rest out → s ≡ step_of version rest → ((x : ℕ) → s ≡ step.Option x → ⊥)
    → out ≡ old ++ packed version (length old) (others_in version area)
laid_all version area old at rest out s m e stop =
    let none = finish version at rest m.todo s m.left e stop in
    let nothing : packed version (length out) (others_of version m.todo) ≡ [] = ap (λ (x : List Placed). packed version (length out) (others_of version x)) none ∙ packed-none version (length out) in
    sym (append-nil out) ∙ ap (λ (x : List ℕ). out ++ x) (sym nothing) ∙ m.whole

-- a last write that ends a function
pub last_write : {T E : Type 0} (r : Result T E) (new old add want : List ℕ) → new ≡ cond (is_ok r) (old ++ add) old → old ++ add ≡ want → OnOk r (new ≡ want)
last_write (Ok x) new old add want e f = e ∙ f
last_write (Err x) new old add want e f = tt

-- PadN in three writes
pub pad_n : (n : ℕ) (old one two : List ℕ) → 2 ≤ n → n < 8 → one ≡ old ++ 1 ∷ [] → two ≡ one ++ (n - 2) ∷ [] → two ++ take (n - 2) (replicate 8 0) ≡ old ++ padding V6 n
pad_n n old one two low high one_is two_is =
    rw (two_is, one_is, take-replicate {X = ℕ} (n - 2) 8 0 (omega arith), padding-n n low)
    (ap (λ (x : List ℕ). x ++ replicate (n - 2) 0) (append_assoc old (1 ∷ []) ((n - 2) ∷ [])) ∙ append_assoc old (1 ∷ (n - 2) ∷ []) (replicate (n - 2) 0))
