-- Which octet may stand at each place of an option, behind those before it.
use Rattle.std.proofs.Common.{◌≡◌, ℕ, suc, ◌+◌, ◌-◌, ◌%◌, ◌<◌, ◌≤◌, Bool, true, false, ◌==◌, nat_lt, List, [], ◌∷◌, ◌++◌, length, IsTrue, refl, sym, ap, subst, ◌∙◌, arith}
use Rattle.std.specs.Int.{from_bool}
use Rattle.std.proofs.lemmas.Bool.Decides.{nat_tests}
use Rattle.std.proofs.lemmas.List.{append-nil, length-append}
use Rattle.mls_label.specs.octet_grammar.Octets.{IsOctets}
use Rattle.mls_label.specs.octet_grammar.Front.{IsFront}
use Rattle.mls_label.proofs.octet_grammar.Fronts.{front_of_member}
use Rattle.mls_label.proofs.octet_grammar.Layouts.{ArePassed, octets_passed, Passes, HasPlaces}
use Rattle.mls_label.specs.declared.label.Label.{Label}
use Rattle.mls_label.specs.Cats.{cats_where, IsCats}
use Rattle.mls_label.specs.Label.{IsLabel}
use Rattle.mls_label.proofs.Law.{tests_give_sets}
use Rattle.ripso_option.specs.Rules.{is_ripso_type, is_ripso_length, is_class, is_flag_octet}
use Rattle.ripso_option.specs.Flags.{has_flag, flags_of}
use Rattle.ripso_option.specs.Ripso.{IsRipso, ripso_octets, AreFlagOctets}
use Rattle.ripso_option.proofs.Sets.{flags_are}
use Rattle.ripso_option.proofs.Members.{options_free}

-- type, length, classification level; then octets of flags, as many as the length leaves
abbrev pub rule_behind : List ℕ → ℕ → Bool
rule_behind [] = is_ripso_type
rule_behind (k ∷ []) = is_ripso_length
rule_behind (k ∷ n ∷ []) = is_class
rule_behind (k ∷ n ∷ c ∷ flags) = is_flag_octet (n - (4 + length flags))

abbrev pub MayStand : List ℕ → ℕ → Type 0
MayStand before octet = (octet < 256) × IsTrue (rule_behind before octet)

-- the second octet counts all
abbrev pub places_left : List ℕ → ℕ
places_left [] = 256
places_left (k ∷ []) = 255
places_left (k ∷ n ∷ p) = n - (2 + length p)

-- ---- a member's octets pass

flags_pass : (k n c : ℕ) (before flags : List ℕ) → n ≡ 3 + length before + length flags → IsOctets flags → AreFlagOctets flags → ArePassed MayStand (k ∷ n ∷ c ∷ before) flags
flags_pass k n c before [] long octets ends = tt
flags_pass k n c before (o ∷ flags) long octets ends =
    let behind : length flags ≡ n - (4 + length before) = omega arith in (
      (octets.at 0, subst (λ b. IsTrue (is_flag_octet b o)) behind ends.0),
      flags_pass k n c (before ++ o ∷ []) flags (omega (arith, long, length-append before (o ∷ []))) (record { at = λ i. octets.at (suc i) }) ends.1,
    )

pub class_small : (c : ℕ) → IsTrue (is_class c) → c < 256
class_small c is = grind (arith, nat_tests)

length_passes : (n : ℕ) → n ≤ 4 → IsTrue (is_ripso_length (3 + n))
length_passes n le = grind (arith, nat_tests)

pub all_pass : (class : ℕ) (flags : List ℕ) → length flags ≤ 4 → IsTrue (is_class class) → IsOctets flags → AreFlagOctets flags → ArePassed MayStand [] (ripso_octets class flags)
all_pass class flags room is octets ends =
    ((omega arith, refl), ((omega arith, length_passes (length flags) room), ((class_small class is, is), flags_pass 130 (3 + length flags) class [] flags (omega arith) octets ends)))

left_none : (class : ℕ) (flags : List ℕ) → places_left (ripso_octets class flags) ≡ 0
left_none class flags = omega arith

pub member_passes : (s : List ℕ) (label : Label) → IsRipso s label → Passes MayStand places_left s
member_passes s label m =
    record {
      front = s;
      rest = [];
      is = sym (append-nil s);
      passed = subst (ArePassed MayStand []) (sym m.is) (all_pass label.level m.flags m.room m.class m.octets m.ends);
      none = ap places_left m.is ∙ left_none label.level m.flags;
    }

pub says_label : (s : List ℕ) (label : Label) → IsRipso s label → IsLabel label
says_label s label m =
    let made : label.cats ≡ cats_where (has_flag m.flags) = m.carries ∙ flags_are m.flags m.room in
    record { level = class_small label.level m.class; cats = subst IsCats (sym made) (tests_give_sets (has_flag m.flags)) }

-- ---- octets that passed are a member

flags_passed : (k n c : ℕ) (before flags : List ℕ) → n ≡ 3 + length before + length flags → ArePassed MayStand (k ∷ n ∷ c ∷ before) flags → AreFlagOctets flags
flags_passed k n c before [] long passed = tt
flags_passed k n c before (o ∷ flags) long passed =
    let behind : n - (4 + length before) ≡ length flags = omega arith in (
      subst (λ b. IsTrue (is_flag_octet b o)) behind passed.0.1,
      flags_passed k n c (before ++ o ∷ []) flags (omega (arith, long, length-append before (o ∷ []))) passed.1,
    )

is_same : (a b : ℕ) → IsTrue (a == b) → a ≡ b
is_same a b is = grind (arith, nat_tests)

length_bounds : (n : ℕ) → IsTrue (is_ripso_length n) → (3 ≤ n) × (n ≤ 7)
length_bounds n is = (grind (arith, nat_tests), grind (arith, nat_tests))

pub passed_member : (k n c : ℕ) (flags : List ℕ) → ArePassed MayStand [] (k ∷ n ∷ c ∷ flags) → n ≡ 3 + length flags → IsRipso (k ∷ n ∷ c ∷ flags) (record { level = c; cats = flags_of flags })
passed_member k n c flags passed long =
    let bounds = length_bounds n passed.1.0.1 in
    let octets = octets_passed MayStand (k ∷ n ∷ c ∷ []) flags (λ p o may. may.0) passed.1.1.1 in
    let type : k ≡ 130 = is_same k 130 passed.0.1 in
    record {
      flags = flags;
      is = λ i. type i ∷ long i ∷ c ∷ flags;
      room = omega (arith, bounds.1, long);
      octets = octets;
      class = passed.1.1.0.1;
      ends = flags_passed k n c [] flags (omega (arith, long)) passed.1.1.1;
      carries = refl;
    }

-- ---- what HasPlaces asks

left_ends : (p q : List ℕ) → places_left p ≡ 0 → places_left (p ++ q) ≡ 0
left_ends [] q none = absurd (omega (arith, none))
left_ends (k ∷ []) q none = absurd (omega (arith, none))
left_ends (k ∷ n ∷ p) q none = omega (arith, none, length-append p q)

odd_or_even : (b : Bool) → IsTrue (from_bool b % 2 == from_bool b)
odd_or_even true = refl
odd_or_even false = refl

bit_small : (b : Bool) → from_bool b < 256
bit_small true = omega arith
bit_small false = omega arith

some_next : (p : List ℕ) → ArePassed MayStand [] p → 0 < places_left p → (o : ℕ) × MayStand p o × (places_left (p ++ o ∷ []) < places_left p)
some_next [] passed more = (130, (omega arith, refl), omega arith)
some_next (k ∷ []) passed more = (3, (omega arith, refl), omega arith)
some_next (k ∷ n ∷ []) passed more = (1, (omega arith, refl), omega (arith, more))
some_next (k ∷ n ∷ c ∷ flags) passed more =
    let follows = nat_lt 0 (n - (4 + length flags)) in
    (from_bool follows, (bit_small follows, odd_or_even follows), omega (arith, more, length-append flags (from_bool follows ∷ [])))

whole_behind : (k n : ℕ) (p : List ℕ) (b : ℕ) → ArePassed MayStand [] (k ∷ n ∷ (p ++ b ∷ [])) → 0 < n - (2 + length p) → n - (2 + length (p ++ b ∷ [])) ≡ 0 → IsFront IsRipso (k ∷ n ∷ (p ++ b ∷ []))
whole_behind k n [] b passed more none =
    front_of_member IsRipso (k ∷ n ∷ b ∷ []) (record { level = b; cats = flags_of [] }) (passed_member k n b [] passed (omega (arith, more, none)))
whole_behind k n (c ∷ flags) b passed more none =
    front_of_member IsRipso (k ∷ n ∷ c ∷ (flags ++ b ∷ [])) (record { level = c; cats = flags_of (flags ++ b ∷ []) })
    (passed_member k n c (flags ++ b ∷ []) passed (omega (arith, more, none, length-append flags (b ∷ []))))

pub length_low : (n : ℕ) → IsTrue (is_ripso_length n) → 3 ≤ n
length_low n is = (length_bounds n is).0

whole_front : (p : List ℕ) (b : ℕ) → ArePassed MayStand [] (p ++ b ∷ []) → 0 < places_left p → places_left (p ++ b ∷ []) ≡ 0 → IsFront IsRipso (p ++ b ∷ [])
whole_front [] b passed more none = absurd (omega (arith, none))
whole_front (k ∷ []) b passed more none = absurd (omega (arith, none, length_low b passed.1.0.1))
whole_front (k ∷ n ∷ p) b passed more none = whole_behind k n p b passed more none

pub option_places : HasPlaces IsRipso MayStand places_left
option_places = record { free = options_free; passes = member_passes; ends = left_ends; some = some_next; whole = whole_front }
