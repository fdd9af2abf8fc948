-- The header of a tag and the body within its tag: no tag begins another, and the places of faults.
use Rattle.std.proofs.Common.{◌≡◌, ℕ, ◌+◌, ◌-◌, ◌<◌, List, [], ◌∷◌, ◌++◌, length, get_or, drop, refl, sym, ap, subst, ◌∙◌, arith}
use Rattle.std.proofs.lemmas.List.{get_or_append_left}
use Rattle.mls_label.specs.declared.octet_grammar.fault.WireFault.{WireFault}
use Rattle.mls_label.specs.octet_grammar.Front.{IsFront, IsPrefixFree, ReadsFront}
use Rattle.mls_label.specs.octet_grammar.Fault.{FailsFront}
use Rattle.mls_label.specs.octet_grammar.Place.{moved_by}
use Rattle.mls_label.proofs.octet_grammar.Faults.{IsWithin, reads_under}
use Rattle.mls_label.proofs.octet_grammar.Fronts.{free_by_length}
use Rattle.mls_label.proofs.octet_grammar.Layouts.{ArePassed, firsts, Passes, HasPlaces, table_places}
use Rattle.mls_label.proofs.octet_grammar.Places.{part_fails}
use Rattle.mls_label.specs.declared.label.Tag.{Tag}
use Rattle.mls_label.specs.declared.label.Tag.TheVariants.{One, Two, Five}
use Rattle.mls_label.specs.declared.label.Label.{Label}
use Rattle.mls_label.specs.Cats.{cats_where}
use Rattle.cipso_tags.specs.Body.{covers, IsBody}
use Rattle.cipso_tags.specs.Tag.{tag_type, IsTag, HasLength}
use Rattle.cipso_tags.specs.inside.Header.{header_of, IsSize, IsSized}
use Rattle.cipso_tags.proofs.Words.{words_same}
use Rattle.cipso_tags.proofs.Enumeration.{ascends_small}
use Rattle.cipso_tags.proofs.Ranges.{ranges_small}
use Rattle.cipso_tags.proofs.Sizes.{tag_with, tag_long, size_there, shortest}

-- ---- no tag begins another, and each has one value

pub same_tag : (a b : Tag) → tag_type a ≡ tag_type b → a ≡ b
same_tag One One e = refl
same_tag One Two e = absurd (omega (arith, e))
same_tag One Five e = absurd (omega (arith, e))
same_tag Two One e = absurd (omega (arith, e))
same_tag Two Two e = refl
same_tag Two Five e = absurd (omega (arith, e))
same_tag Five One e = absurd (omega (arith, e))
same_tag Five Two e = absurd (omega (arith, e))
same_tag Five Five e = refl

same_cats : (tag : Tag) (body a b : List ℕ) → IsBody tag body a → IsBody tag body b → a ≡ b
same_cats One body a b m n = m.carries ∙ sym n.carries
same_cats Two body a b m n =
    m.carries
    ∙ words_same m.numbers n.numbers (ascends_small 0 m.numbers m.ordered) (ascends_small 0 n.numbers n.ordered) (sym m.is ∙ n.is)
    ∙ sym n.carries
same_cats Five body a b m n =
    m.carries
    ∙ ap (λ numbers. cats_where (covers numbers)) (words_same m.numbers n.numbers (ranges_small m.numbers m.ordered) (ranges_small n.numbers n.ordered) (sym m.is ∙ n.is))
    ∙ sym n.carries

tag_once : (t : List ℕ) (v w : Tag × Label) → IsTag t v → IsTag t w → v ≡ w
tag_once t v w m n =
    let both = sym m.is ∙ n.is in
    let tag : v.0 ≡ w.0 = same_tag v.0 w.0 (ap (λ x. get_or x 0 0) both) in
    let level : v.1.level ≡ w.1.level = ap (λ x. get_or x 3 0) both in
    let carries : IsBody v.0 m.body w.1.cats = rw (tag, ap (drop 4) both) n.carries in
    let cats : v.1.cats ≡ w.1.cats = same_cats v.0 m.body v.1.cats w.1.cats m.carries carries in
    λ i. (tag i, record { level = level i; cats = cats i })

pub tags_free : IsPrefixFree IsTag
tags_free =
    free_by_length IsTag
    (λ a b v w m n. omega (arith, tag_long a v m, tag_long (a ++ b) w n, get_or_append_left a b 0 1 (omega (arith, tag_long a v m)), ap (λ x. get_or x 1 0) m.is, ap (λ x. get_or x 1 0) n.is))
    tag_once

-- ---- the places of a header

-- type, length, alignment octet, level
abbrev pub MayStand : List ℕ → ℕ → Type 0
MayStand [] b = (tag : Tag) × (tag_type tag ≡ b)
MayStand (t ∷ []) b = (tag : Tag) × (tag_type tag ≡ t) × HasLength tag b
MayStand (t ∷ n ∷ []) b = b ≡ 0
MayStand (t ∷ n ∷ z ∷ []) b = b < 256
MayStand (t ∷ n ∷ z ∷ l ∷ p) b = Unit {0}

abbrev pub left_of : List ℕ → ℕ
left_of p = 4 - length p

header_passes : (t : List ℕ) (v : Tag × Label) → IsTag t v → Passes MayStand left_of t
header_passes t v m =
    record {
      front = header_of v.0 (4 + length m.body) v.1.level;
      rest = m.body;
      is = m.is;
      passed = ((v.0, refl), ((v.0, refl, (t, v.1, m, tag_long t v m)), (refl, (m.level, tt))));
      none = refl;
    }

header_some : (p : List ℕ) → ArePassed MayStand [] p → length p < 4 → (b : ℕ) × MayStand p b
header_some [] passed more = (1, (One, refl))
header_some (t ∷ []) passed more = (4, (passed.0.0, passed.0.1, shortest passed.0.0))
header_some (t ∷ n ∷ []) passed more = (0, refl)
header_some (t ∷ n ∷ z ∷ []) passed more = (0, omega arith)
header_some (t ∷ n ∷ z ∷ l ∷ p) passed more = absurd (omega (arith, more))

header_front : (tag : Tag) (n level : ℕ) → HasLength tag n → level < 256 → IsFront IsTag (header_of tag n level)
header_front tag n level h small =
    let m = h.2 in
    let long : 4 + length m.body ≡ n = sym (tag_long h.0 (tag, h.1) m) ∙ h.3 in
    let value : Tag × Label = (tag, record { level = level; cats = h.1.cats }) in
    let member = tag_with tag (length m.body) level m.body h.1.cats m.carries refl small in
    record { more = m.body; value = value; member = subst (λ k. IsTag (header_of tag k level ++ m.body) value) long member }

header_whole : (s : List ℕ) → ArePassed MayStand [] (firsts s 4) → IsFront IsTag (firsts s 4)
header_whole s passed =
    let n = get_or s 1 0 in
    let l = get_or s 3 0 in
    let there = passed.1.0 in
    subst (IsFront IsTag) (λ i. there.1 i ∷ n ∷ sym passed.1.1.0 i ∷ l ∷ []) (header_front there.0 n l there.2 passed.1.1.1.0)

pub header_places : HasPlaces IsTag MayStand left_of
header_places = table_places IsTag 4 MayStand (record { free = tags_free; passes = header_passes; some = header_some; whole = header_whole })

-- ---- a body within its tag

abbrev pub with_cats : Tag → ℕ → List ℕ → Tag × Label
with_cats tag level cats = (tag, record { level = level; cats = cats })

body_within : (tag : Tag) (size level : ℕ) (s : List ℕ) → level < 256 → IsWithin (with_cats tag level) (IsSized size (IsBody tag)) IsTag (header_of tag (4 + size) level) s 0
body_within tag size level s small =
    record {
      into = λ t v agree m. tag_with tag size level t v m.is m.long small;
      back = λ t w agree m.
          let long : 4 + size ≡ 4 + length m.body = ap (λ x. get_or x 1 0) m.is in
          let type : tag_type tag ≡ tag_type w.0 = ap (λ x. get_or x 0 0) m.is in
          let same : t ≡ m.body = ap (drop 4) m.is in
          let carries : IsBody tag t w.1.cats = subst (λ g. IsBody g t w.1.cats) (sym (same_tag tag w.0 type)) (subst (λ x. IsBody w.0 x w.1.cats) (sym same) m.carries) in
          (w.1.cats, record { long = ap length same ∙ omega (arith, long); is = carries });
    }

body_front : (tag : Tag) (size : ℕ) → IsSize tag size → IsFront (IsSized size (IsBody tag)) []
body_front tag size fits =
    let h = size_there tag size fits in
    let m = h.2 in
    record {
      more = m.body;
      value = h.1.cats;
      member = record { long = omega (arith, tag_long h.0 (tag, h.1) m, h.3); is = m.carries };
    }

pub body_reads : (tag : Tag) (size level : ℕ) (bytes s cats : List ℕ) → level < 256 → bytes ≡ header_of tag (4 + size) level ++ s → ReadsFront (IsSized size (IsBody tag)) s cats size → ReadsFront IsTag bytes (with_cats tag level cats) (4 + size)
body_reads tag size level bytes s cats small is reads =
    subst (λ x. ReadsFront IsTag x (with_cats tag level cats) (4 + size)) (sym is)
    (reads_under (with_cats tag level) (IsSized size (IsBody tag)) IsTag (header_of tag (4 + size) level) s 0 size cats (omega arith) (body_within tag size level s small) reads)

pub body_fails : (tag : Tag) (size level : ℕ) (bytes s : List ℕ) (f : WireFault) → IsSize tag size → level < 256 → bytes ≡ header_of tag (4 + size) level ++ s → FailsFront (IsSized size (IsBody tag)) s f → FailsFront IsTag bytes (moved_by 4 f)
body_fails tag size level bytes s f fits small is fails =
    subst (λ x. FailsFront IsTag x (moved_by 4 f)) (sym is)
    (part_fails (with_cats tag level) (IsSized size (IsBody tag)) IsTag tags_free (header_of tag (4 + size) level) s 0 f (omega arith) (body_within tag size level s small) (body_front tag size fits) fails)
