-- No option begins another, and what stands at the first eight places of each.
use Rattle.std.proofs.Common.{◌≡◌, ℕ, ◌+◌, ◌-◌, ◌<◌, ◌≤◌, List, [], ◌∷◌, ◌++◌, length, get_or, drop, refl, sym, ap, subst, ◌∙◌, arith}
use Rattle.std.specs.Int.{w32, to_be_bytes, from_be_bytes}
use Rattle.std.proofs.lemmas.List.{append-nil, get_or_append_left}
use Rattle.mls_label.specs.octet_grammar.Front.{IsFront, IsPrefixFree}
use Rattle.mls_label.specs.octet_grammar.Numbers.{u32_at}
use Rattle.mls_label.proofs.octet_grammar.Numbers.{four_octets, u32_written}
use Rattle.mls_label.proofs.octet_grammar.Fronts.{free_by_length}
use Rattle.mls_label.proofs.octet_grammar.Layouts.{ArePassed, firsts, Passes, HasPlaces, HasNonzero, table_places}
use Rattle.mls_label.specs.declared.label.Tag.{Tag}
use Rattle.mls_label.specs.declared.label.Tag.TheVariants.{One}
use Rattle.cipso_tags.specs.Tag.{tag_type, IsTag, HasLength}
use Rattle.cipso_tags.proofs.Law.{one_value_for_each_tag, tags_have_4_to_34_octets, bitmaps_have_each_length}
use Rattle.cipso_option.specs.declared.cipso.Cipso.{Cipso}
use Rattle.cipso_option.specs.Cipso.{IsCipso}

-- ---- one value

-- an option is as long as its second octet says
pub record HasSize (t : List ℕ) : Type 0 where
  pub low : 10 ≤ length t
  pub high : length t ≤ 40
  pub said : get_or t 1 0 ≡ length t

pub option_size : (t : List ℕ) (v : Cipso) → IsCipso t v → HasSize t
option_size t v m =
    let long : length t ≡ 6 + length m.rest = omega (arith, ap length m.is) in
    let bounds = tags_have_4_to_34_octets v.tag (length m.rest) (m.rest, v.label, m.carries, refl) in
    record { low = omega (arith, bounds.0); high = omega (arith, bounds.1); said = ap (λ x. get_or x 1 0) m.is ∙ sym long }

option_doi : (t : List ℕ) (v : Cipso) → IsCipso t v → u32_at t 2 ≡ v.doi
option_doi t v m = ap (λ x. u32_at x 2) m.is ∙ u32_written v.doi m.rest m.fits

option_once : (t : List ℕ) (v w : Cipso) → IsCipso t v → IsCipso t w → v ≡ w
option_once t v w m n =
    let doi : v.doi ≡ w.doi = sym (option_doi t v m) ∙ option_doi t w n in
    let rest : n.rest ≡ m.rest ++ [] = ap (drop 6) (sym n.is ∙ m.is) ∙ sym (append-nil m.rest) in
    let value = (one_value_for_each_tag m.rest [] (v.tag, v.label) (w.tag, w.label) m.carries (subst (λ x. IsTag x (w.tag, w.label)) rest n.carries)).1 in
    λ i. record { doi = doi i; tag = (value i).0; label = (value i).1 }

pub options_free : IsPrefixFree IsCipso
options_free =
    free_by_length IsCipso
    (λ a b v w m n.
    let la = option_size a v m in
    let lb = option_size (a ++ b) w n in
    omega (arith, la.said, lb.said, get_or_append_left a b 0 1 (omega (arith, la.low))))
    option_once

-- ---- the places

-- type, length, the DOI, which isn't 0, the type of a tag that fills the option, that tag's length
abbrev pub MayStand : List ℕ → ℕ → Type 0
MayStand [] o = o ≡ 134
MayStand (k ∷ []) o = (10 ≤ o) × (o ≤ 40)
MayStand (k ∷ n ∷ []) o = o < 256
MayStand (k ∷ n ∷ a ∷ []) o = o < 256
MayStand (k ∷ n ∷ a ∷ b ∷ []) o = o < 256
MayStand (k ∷ n ∷ a ∷ b ∷ c ∷ []) o = (o < 256) × (0 < from_be_bytes w32 (a ∷ b ∷ c ∷ o ∷ []))
MayStand (k ∷ n ∷ a ∷ b ∷ c ∷ d ∷ []) o = (tag : Tag) × (tag_type tag ≡ o) × HasLength tag (n - 6)
MayStand (k ∷ n ∷ a ∷ b ∷ c ∷ d ∷ t ∷ []) o = o ≡ n - 6
MayStand (k ∷ n ∷ a ∷ b ∷ c ∷ d ∷ t ∷ m ∷ p) o = Unit {0}

abbrev pub left_of : List ℕ → ℕ
left_of p = 8 - length p

-- the DOI's octets
pub doi_places : (k n : ℕ) → HasNonzero MayStand left_of (k ∷ n ∷ [])
doi_places k n = record {
  first = λ a small. small;
  second = λ a b small. small;
  third = λ a b c small. small;
  fourth = λ a b c d may. may.1;
  due = λ q few. omega (arith, few);
}

option_passes : (t : List ℕ) (v : Cipso) → IsCipso t v → Passes MayStand left_of t
option_passes t v m =
    let r = length m.rest in
    let tag = m.carries in
    let there : HasLength v.tag r = (m.rest, v.label, m.carries, refl) in
    let bounds = tags_have_4_to_34_octets v.tag r there in
    let left : r ≡ 6 + r - 6 = omega arith in
    let size : 4 + length tag.body ≡ 6 + r - 6 = omega (arith, ap length tag.is) in
    let named : 0 < from_be_bytes w32 (to_be_bytes w32 v.doi) = omega (arith, m.named, u32_written v.doi [] m.fits) in
    record {
      front = 134 ∷ (6 + r) ∷ (to_be_bytes w32 v.doi ++ tag_type v.tag ∷ (6 + r - 6) ∷ []);
      rest = 0 ∷ v.label.level ∷ tag.body;
      is = m.is ∙ ap (λ x. 134 ∷ (6 + r) ∷ (to_be_bytes w32 v.doi ++ x)) (tag.is ∙ λ i. tag_type v.tag ∷ size i ∷ 0 ∷ v.label.level ∷ tag.body);
      passed = (refl, ((omega (arith, bounds.0), omega (arith, bounds.1)), (omega arith, (omega arith, (omega arith, ((omega arith, named), ((v.tag, refl, subst (HasLength v.tag) left there), (refl, tt))))))));
      none = refl;
    }

option_some : (p : List ℕ) → ArePassed MayStand [] p → length p < 8 → (o : ℕ) × MayStand p o
option_some [] passed more = (134, refl)
option_some (k ∷ []) passed more = (10, (omega arith, omega arith))
option_some (k ∷ n ∷ []) passed more = (0, omega arith)
option_some (k ∷ n ∷ a ∷ []) passed more = (0, omega arith)
option_some (k ∷ n ∷ a ∷ b ∷ []) passed more = (0, omega arith)
option_some (k ∷ n ∷ a ∷ b ∷ c ∷ []) passed more = (1, (omega arith, omega arith))
option_some (k ∷ n ∷ a ∷ b ∷ c ∷ d ∷ []) passed more =
    let size = passed.1.0 in
    (1, (One, refl, bitmaps_have_each_length (n - 6) (omega (arith, size.0)) (omega (arith, size.1))))
option_some (k ∷ n ∷ a ∷ b ∷ c ∷ d ∷ t ∷ []) passed more = (n - 6, refl)
option_some (k ∷ n ∷ a ∷ b ∷ c ∷ d ∷ t ∷ m ∷ p) passed more = absurd (omega (arith, more))

option_whole : (s : List ℕ) → ArePassed MayStand [] (firsts s 8) → IsFront IsCipso (firsts s 8)
option_whole s passed =
    let size = passed.1.0 in
    let octets = passed.1.1 in
    let fourth = octets.1.1.1.0 in
    let there = octets.1.1.1.1.0 in
    let h = there.2 in
    let m = h.2 in
    let inner : 4 + length m.body ≡ get_or s 7 0 = omega (arith, ap length m.is, h.3, octets.1.1.1.1.1.0) in
    let tag : h.0 ≡ get_or s 6 0 ∷ get_or s 7 0 ∷ 0 ∷ h.1.level ∷ m.body = m.is ∙ (λ i. there.1 i ∷ inner i ∷ 0 ∷ h.1.level ∷ m.body) in
    let long : get_or s 1 0 ≡ 6 + length h.0 = omega (arith, h.3, size.0) in
    let doi = four_octets (get_or s 2 0) (get_or s 3 0) (get_or s 4 0) (get_or s 5 0) octets.0 octets.1.0 octets.1.1.0 fourth.0 in
    record {
      more = 0 ∷ h.1.level ∷ m.body;
      value = record { doi = u32_at s 2; tag = there.0; label = h.1 };
      member = record {
        rest = h.0;
        is = λ i. passed.0 i ∷ long i ∷ (sym doi i ++ sym tag i);
        carries = m;
        named = fourth.1;
        fits = omega (arith, octets.0, octets.1.0, octets.1.1.0, fourth.0);
      };
    }

pub option_places : HasPlaces IsCipso MayStand left_of
option_places = table_places IsCipso 8 MayStand (record { free = options_free; passes = option_passes; some = option_some; whole = option_whole })
