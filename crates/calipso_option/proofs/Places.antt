-- What stands at the places of an option.
use Rattle.std.proofs.Common.{◌≡◌, ℕ, ◌+◌, ◌-◌, ◌/◌, ◌<◌, ◌≤◌, List, [], ◌∷◌, ◌++◌, length, get_or, drop, refl, sym, subst, arith, length-append}
use Rattle.std.specs.Int.{w32, from_be_bytes}
use Rattle.std.proofs.lemmas.List.{append-nil}
use Rattle.mls_label.specs.declared.octet_grammar.fault.WireFault.{WireFault}
use Rattle.mls_label.specs.octet_grammar.Octets.{IsOctets}
use Rattle.mls_label.specs.octet_grammar.Front.{IsFront}
use Rattle.mls_label.specs.octet_grammar.Fault.{FailsFront}
use Rattle.mls_label.specs.octet_grammar.Place.{EndsAt}
use Rattle.mls_label.specs.octet_grammar.Numbers.{u32_at}
use Rattle.mls_label.proofs.octet_grammar.Octets.{octets-drop}
use Rattle.mls_label.proofs.octet_grammar.Fronts.{front_of_member}
use Rattle.mls_label.proofs.octet_grammar.Layouts.{ArePassed, passed_join, passed_first, passed_octets, octets_passed, firsts, firsts_rest, Passes, HasPlaces, HasNonzero, passed_ends}
use Rattle.calipso_option.specs.declared.calipso.Calipso.{Calipso}
use Rattle.calipso_option.specs.Calipso.{IsCalipsoShape}
use Rattle.calipso_option.specs.inside.Layout.{IsLength, checksum_at}
use Rattle.calipso_option.proofs.Shapes.{value_at, shape_of, laid_out, shapes_free}

-- type, length, the DOI, which isn't 0, the words that the length leaves; the other places are free
abbrev pub IsFit : List ℕ → ℕ → Type 0
IsFit [] o = o ≡ 7
IsFit (k ∷ []) o = IsLength o
IsFit (k ∷ n ∷ a ∷ b ∷ c ∷ []) o = 0 < from_be_bytes w32 (a ∷ b ∷ c ∷ o ∷ [])
IsFit (k ∷ n ∷ a ∷ b ∷ c ∷ d ∷ []) o = o ≡ (n - 8) / 4
IsFit p o = Unit {0}

abbrev pub MayStand : List ℕ → ℕ → Type 0
MayStand p o = (o < 256) × IsFit p o

-- the second octet says how many follow it
abbrev pub places_left : List ℕ → ℕ
places_left [] = 256
places_left (k ∷ []) = 255
places_left (k ∷ n ∷ p) = n - length p

-- the first seven octets fit
pub record IsHeaded (s : List ℕ) : Type 0 where
  pub octets : IsOctets s
  pub long : 7 ≤ length s
  pub type : get_or s 0 0 ≡ 7
  pub size : IsLength (get_or s 1 0)
  pub named : 0 < u32_at s 2
  pub words : get_or s 6 0 ≡ (get_or s 1 0 - 8) / 4

pub headed_passed : (s : List ℕ) → IsHeaded s → ArePassed MayStand [] s
headed_passed s h =
    let o = h.octets in
    subst (ArePassed MayStand []) (sym (firsts_rest s 7 h.long))
    (passed_join MayStand [] (firsts s 7) (drop 7 s)
    ((o.at 0, h.type), ((o.at 1, h.size), ((o.at 2, tt), ((o.at 3, tt), ((o.at 4, tt), ((o.at 5, h.named), ((o.at 6, h.words), tt)))))))
    (passed_octets MayStand (firsts s 7) (drop 7 s) (λ q b small. (small, tt)) (octets-drop 7 s o)))

pub type_passed : (s : List ℕ) → IsOctets s → get_or s 0 0 ≡ 7 → ArePassed MayStand [] (firsts s 1)
type_passed s o type = ((o.at 0, type), tt)

pub size_passed : (s : List ℕ) → IsOctets s → get_or s 0 0 ≡ 7 → IsLength (get_or s 1 0) → ArePassed MayStand [] (firsts s 2)
size_passed s o type size = ((o.at 0, type), ((o.at 1, size), tt))

pub doi_passed : (s : List ℕ) → IsOctets s → get_or s 0 0 ≡ 7 → IsLength (get_or s 1 0) → 0 < u32_at s 2 → ArePassed MayStand [] (firsts s 6)
doi_passed s o type size named = ((o.at 0, type), ((o.at 1, size), ((o.at 2, tt), ((o.at 3, tt), ((o.at 4, tt), ((o.at 5, named), tt))))))

left_is : (s : List ℕ) → 2 ≤ length s → places_left s ≡ 2 + get_or s 1 0 - length s
left_is [] le = absurd (omega arith)
left_is (k ∷ []) le = absurd (omega arith)
left_is (k ∷ n ∷ p) le = omega arith

left_ends : (p q : List ℕ) → places_left p ≡ 0 → places_left (p ++ q) ≡ 0
left_ends [] q none = absurd (omega (arith, none))
left_ends (k ∷ []) q none = absurd (omega (arith, none))
left_ends (k ∷ n ∷ p) q none = omega (arith, none, length-append p q)

left_none : (s : List ℕ) → places_left s ≡ 0 → 2 ≤ length s
left_none [] none = absurd (omega (arith, none))
left_none (k ∷ []) none = absurd (omega (arith, none))
left_none (k ∷ n ∷ p) none = omega arith

shape_headed : (s : List ℕ) (v : Calipso × ℕ) → IsCalipsoShape s v → IsHeaded s
shape_headed s v m =
    let laid = laid_out s v m in
    record { octets = m.octets; long = omega (arith, laid.octets, laid.size.low); type = laid.type; size = laid.size; named = laid.named; words = laid.words }

shape_passes : (s : List ℕ) (v : Calipso × ℕ) → IsCalipsoShape s v → Passes MayStand places_left s
shape_passes s v m =
    let laid = laid_out s v m in
    record {
      front = s;
      rest = [];
      is = sym (append-nil s);
      passed = headed_passed s (shape_headed s v m);
      none = omega (arith, laid.octets, laid.size.low, left_is s (omega (arith, laid.octets)));
    }

shape_some : (p : List ℕ) → ArePassed MayStand [] p → 0 < places_left p → (o : ℕ) × MayStand p o × (places_left (p ++ o ∷ []) < places_left p)
shape_some [] passed more = (7, (omega arith, refl), omega arith)
shape_some (k ∷ []) passed more = (8, (omega arith, record { low = omega arith; high = omega arith; whole = refl }), omega arith)
shape_some (k ∷ n ∷ []) passed more = (0, (omega arith, tt), omega (arith, more))
shape_some (k ∷ n ∷ a ∷ []) passed more = (0, (omega arith, tt), omega (arith, more))
shape_some (k ∷ n ∷ a ∷ b ∷ []) passed more = (0, (omega arith, tt), omega (arith, more))
shape_some (k ∷ n ∷ a ∷ b ∷ c ∷ []) passed more = (1, (omega arith, omega arith), omega (arith, more))
shape_some (k ∷ n ∷ a ∷ b ∷ c ∷ d ∷ []) passed more = ((n - 8) / 4, (omega (arith, passed.1.0.1.high), refl), omega (arith, more))
shape_some (k ∷ n ∷ a ∷ b ∷ c ∷ d ∷ w ∷ p) passed more = (0, (omega arith, tt), omega (arith, more, length-append p (0 ∷ [])))

-- octets that passed, as many as the second says, are an option
whole_shape : (s : List ℕ) → ArePassed MayStand [] s → 2 ≤ length s → length s ≡ 2 + get_or s 1 0 → IsFront IsCalipsoShape s
whole_shape s passed two long =
    let octets = octets_passed MayStand [] s (λ p o may. may.0) passed in
    let start = passed_first MayStand [] (firsts s 2) (drop 2 s) (subst (ArePassed MayStand []) (firsts_rest s 2 two) passed) in
    let size : IsLength (get_or s 1 0) = start.1.0.1 in
    let head = passed_first MayStand [] (firsts s 7) (drop 7 s) (subst (ArePassed MayStand []) (firsts_rest s 7 (omega (arith, long, size.low))) passed) in
    front_of_member IsCalipsoShape s (value_at s, checksum_at s)
    (shape_of s octets (record {
      within = omega arith;
      type = head.0.1;
      size = size;
      octets = long;
      named = head.1.1.1.1.1.0.1;
      words = head.1.1.1.1.1.1.0.1;
    }))

shape_whole : (p : List ℕ) (b : ℕ) → ArePassed MayStand [] (p ++ b ∷ []) → 0 < places_left p → places_left (p ++ b ∷ []) ≡ 0 → IsFront IsCalipsoShape (p ++ b ∷ [])
shape_whole [] b passed more none = absurd (omega (arith, none))
shape_whole (k ∷ []) b passed more none = absurd (omega (arith, none, passed.1.0.1.low))
shape_whole (k ∷ n ∷ p) b passed more none =
    whole_shape (k ∷ n ∷ (p ++ b ∷ [])) passed (omega arith) (omega (arith, more, none, length-append p (b ∷ [])))

pub shape_places : HasPlaces IsCalipsoShape MayStand places_left
shape_places = record { free = shapes_free; passes = shape_passes; ends = left_ends; some = shape_some; whole = shape_whole }

pub doi_places : (k n : ℕ) → IsLength n → HasNonzero MayStand places_left (k ∷ n ∷ [])
doi_places k n is = record {
  first = λ a small. (small, tt);
  second = λ a b small. (small, tt);
  third = λ a b c small. (small, tt);
  fourth = λ a b c d may. may.1;
  due = λ q few. omega (arith, few, is.low);
}

-- the octets end before the last of an option
pub headed_ends : (s : List ℕ) (f : WireFault) → IsHeaded s → length s < 2 + get_or s 1 0 → EndsAt s (length s) f → FailsFront IsCalipsoShape s f
headed_ends s f h short ends =
    passed_ends IsCalipsoShape MayStand places_left shape_places s f (headed_passed s h) (omega (arith, short, left_is s (omega (arith, h.long)))) ends
