-- Whether octets are a CIPSO option, or a CALIPSO option with any checksum, is decided.
use Rattle.std.proofs.Common.{◌≡◌, ℕ, suc, ◌+◌, ◌*◌, ◌/◌, ◌%◌, ◌<◌, ◌≤◌, List, [], ◌∷◌, ◌++◌, length, get_or, drop, refl, sym, ap, subst, ◌∙◌, arith, inl, inr}
use Rattle.std.specs.Int.{w16, w32, to_be_bytes, to_le_bytes, from_le_bytes}
use Rattle.std.proofs.lemmas.Bool.{cases_lt, cases_eq}
use Rattle.mls_label.specs.octet_grammar.Octets.{IsOctets}
use Rattle.mls_label.specs.octet_grammar.Numbers.{u32_at}
use Rattle.mls_label.proofs.octet_grammar.Octets.{octets-cons, octets-drop}
use Rattle.mls_label.proofs.octet_grammar.Numbers.{u32_octets, u32_small, u32_written}
use Rattle.mls_label.proofs.octet_grammar.Layouts.{firsts_rest}
use Rattle.mls_label.specs.declared.label.Tag.{Tag}
use Rattle.mls_label.specs.declared.label.Tag.TheVariants.{One, Two, Five}
use Rattle.mls_label.specs.declared.label.Label.{Label}
use Rattle.mls_label.specs.Cats.{Ascends, IsCats, cats_where}
use Rattle.mls_label.specs.category_bitmap.Bitmap.{bitmap_cats}
use Rattle.cipso_tags.specs.Body.{words, IsNumbers, Descends, covers, IsBody}
use Rattle.cipso_tags.specs.Tag.{tag_type, IsTag}
use Rattle.cipso_tags.proofs.Law.{tags_have_4_to_34_octets, each_tag_has_its_type}
use Rattle.cipso_option.specs.declared.cipso.Cipso.{Cipso}
use Rattle.cipso_option.specs.Cipso.{IsCipso}
use Rattle.cipso_option.proofs.Law.{options_have_10_to_40_octets, written_option_reads_back as cipso_reads_back}
use Rattle.calipso_option.specs.Calipso.{IsCalipsoShape}
use Rattle.calipso_option.proofs.Law.{shapes_have_10_to_254_octets, written_option_reads_back as calipso_reads_back}
use Rattle.packet_label.proofs.Decided.{Decided, both, as_well, below, at_most, Whole, IsDecided}

octets_decided : (s : List ℕ) → Decided (IsOctets s)
octets_decided [] = inl (record { at = λ i. omega arith })
octets_decided (b ∷ s) = as_well (both (below b 256) (octets_decided s)) (λ p. octets-cons b s p.0 p.1) (λ o. (o.at 0, record { at = λ i. o.at (suc i) }))

-- ---- numbers of two octets

abbrev AreSmall : List ℕ → Type 0
AreSmall [] = Unit {0}
AreSmall (n ∷ ns) = (n < 65536) × AreSmall ns

abbrev numbers_in : List ℕ → List ℕ
numbers_in [] = []
numbers_in (a ∷ []) = []
numbers_in (a ∷ b ∷ s) = (256 * a + b) ∷ numbers_in s

words_back : (s : List ℕ) → IsOctets s → length s % 2 ≡ 0 → words (numbers_in s) ≡ s
words_back [] octets even = refl
words_back (a ∷ []) octets even = absurd (omega (arith, even))
words_back (a ∷ b ∷ s) octets even =
    let first : a < 256 = octets.at 0 in
    let second : b < 256 = octets.at 1 in
    let high : (256 * a + b) / 256 % 256 ≡ a = omega arith in
    let low : (256 * a + b) % 256 ≡ b = omega arith in
    let rest = words_back s (record { at = λ i. octets.at (suc (suc i)) }) (omega (arith, even)) in
    λ i. high i ∷ low i ∷ rest i

numbers_back : (ns : List ℕ) → AreSmall ns → numbers_in (words ns) ≡ ns
numbers_back [] small = refl
numbers_back (n ∷ ns) small =
    let same : 256 * (n / 256 % 256) + n % 256 ≡ n = omega (arith, small.0) in
    λ i. same i ∷ numbers_back ns small.1 i

words_long : (ns : List ℕ) → length (words ns) ≡ 2 * length ns
words_long [] = refl
words_long (n ∷ ns) = omega (arith, words_long ns)

words_octets : (ns : List ℕ) → IsOctets (words ns)
words_octets [] = record { at = λ i. omega arith }
words_octets (n ∷ ns) = octets-cons (n / 256 % 256) (n % 256 ∷ words ns) (omega arith) (octets-cons (n % 256) (words ns) (omega arith) (words_octets ns))

-- ---- bodies

ascends_small : (low : ℕ) (ns : List ℕ) → Ascends low 65535 ns → AreSmall ns
ascends_small low [] a = tt
ascends_small low (n ∷ ns) a = (omega (arith, a.1), ascends_small (n + 1) ns a.2)

descends_small : (upper : ℕ) (ns : List ℕ) → upper ≤ 65535 → Descends upper ns → AreSmall ns
descends_small upper [] le d = tt
descends_small upper (top ∷ []) le d = (omega (arith, le, d), tt)
descends_small upper (top ∷ bottom ∷ ns) le d = (omega (arith, le, d.0), (omega (arith, le, d.0, d.1), descends_small bottom ns (omega (arith, le, d.0, d.1)) d.2))

ascends : (low high : ℕ) (ns : List ℕ) → Decided (Ascends low high ns)
ascends low high [] = inl tt
ascends low high (n ∷ ns) = as_well (both (at_most low n) (both (below n high) (ascends (n + 1) high ns))) (λ p. (p.0, p.1.0, p.1.1)) (λ a. (a.0, (a.1, a.2)))

descends : (upper : ℕ) (ns : List ℕ) → Decided (Descends upper ns)
descends upper [] = inl tt
descends upper (top ∷ []) = below top upper
descends upper (top ∷ bottom ∷ ns) = as_well (both (below top upper) (both (at_most bottom top) (descends bottom ns))) (λ p. (p.0, p.1.0, p.1.1)) (λ a. (a.0, (a.1, a.2)))

numbers_decided : (most : ℕ) (IsInOrder : List ℕ → Type 0) (cats_of : List ℕ → List ℕ) → ((ns : List ℕ) → Decided (IsInOrder ns)) → ((ns : List ℕ) → IsInOrder ns → AreSmall ns)
    → (body : List ℕ) → IsOctets body → Decided (Whole (IsNumbers most IsInOrder cats_of) body)
numbers_decided most IsInOrder cats_of decided small body octets =
    let numbers = numbers_in body in
    as_well (both (cases_eq (length body % 2) 0) (both (at_most (length numbers) most) (decided numbers)))
    (λ p. (cats_of numbers, record { numbers = numbers; is = sym (words_back body octets p.0); room = p.1.0; ordered = p.1.1; carries = refl }))
    (λ w. let m = w.1 in
    let same : m.numbers ≡ numbers = sym (numbers_back m.numbers (small m.numbers m.ordered)) ∙ ap numbers_in (sym m.is) in
    (omega (arith, ap length m.is, words_long m.numbers), (subst (λ (ns : List ℕ). length ns ≤ most) same m.room, subst IsInOrder same m.ordered)))

body_decided : (tag : Tag) (body : List ℕ) → IsOctets body → Decided (Whole (IsBody tag) body)
body_decided One body octets = as_well (at_most (length body) 30) (λ le. (bitmap_cats body, record { room = le; octets = octets; carries = refl })) (λ w. w.1.room)
body_decided Two body octets = numbers_decided 15 IsCats (λ ns. ns) (ascends 0 65535) (ascends_small 0) body octets
body_decided Five body octets = numbers_decided 14 (Descends 65535) (λ ns. cats_where (covers ns)) (descends 65535) (λ ns. descends_small 65535 ns (omega arith)) body octets

body_octets : (tag : Tag) (body cats : List ℕ) → IsBody tag body cats → IsOctets body
body_octets One body cats m = m.octets
body_octets Two body cats m = subst IsOctets (sym m.is) (words_octets m.numbers)
body_octets Five body cats m = subst IsOctets (sym m.is) (words_octets m.numbers)

-- ---- tags

other_type : (n : ℕ) → (n ≡ 1 → ⊥) → (n ≡ 2 → ⊥) → (n ≡ 5 → ⊥) → (tag : Tag) → tag_type tag ≡ n → ⊥
other_type n a b c One e = a (sym e)
other_type n a b c Two e = b (sym e)
other_type n a b c Five e = c (sym e)

type_decided : (n : ℕ) → Decided ((tag : Tag) × (tag_type tag ≡ n))
type_decided n = elim (cases_eq n 1) [
  | inl e ↦ inl (One, sym e)
  | inr a ↦ elim (cases_eq n 2) [
    | inl e ↦ inl (Two, sym e)
    | inr b ↦ elim (cases_eq n 5) [ inl e ↦ inl (Five, sym e) | inr c ↦ inr (λ t. other_type n a b c t.0 t.1) ]
  ]
]

type_small : (tag : Tag) → tag_type tag < 256
type_small One = omega arith
type_small Two = omega arith
type_small Five = omega arith

tag_octets : (s : List ℕ) (v : Tag × Label) → IsTag s v → IsOctets s
tag_octets s v m =
    let bounds = tags_have_4_to_34_octets v.0 (length s) (s, v.1, m, refl) in
    let body = body_octets v.0 m.body v.1.cats m.carries in
    subst IsOctets (sym m.is)
    (octets-cons (tag_type v.0) ((4 + length m.body) ∷ 0 ∷ v.1.level ∷ m.body) (type_small v.0)
    (octets-cons (4 + length m.body) (0 ∷ v.1.level ∷ m.body) (omega (arith, bounds.1, ap length m.is))
    (octets-cons 0 (v.1.level ∷ m.body) (omega arith) (octets-cons v.1.level m.body m.level body))))

tag_decided : (s : List ℕ) → IsOctets s → Decided (Whole IsTag s)
tag_decided [] octets = inr (λ w. omega (arith, ap length w.1.is))
tag_decided (t ∷ []) octets = inr (λ w. omega (arith, ap length w.1.is))
tag_decided (t ∷ n ∷ []) octets = inr (λ w. omega (arith, ap length w.1.is))
tag_decided (t ∷ n ∷ z ∷ []) octets = inr (λ w. omega (arith, ap length w.1.is))
tag_decided (t ∷ n ∷ z ∷ l ∷ body) octets = elim (type_decided t) [
  | inr none ↦ inr (λ w. none (w.0.0, sym (ap (λ x. get_or x 0 0) w.1.is)))
  | inl type ↦ as_well (both (cases_eq n (4 + length body)) (both (cases_eq z 0) (body_decided type.0 body (octets-drop 4 (t ∷ n ∷ z ∷ l ∷ body) octets))))
      (λ p. ((type.0, record { level = l; cats = p.1.1.0 }), record { body = body; is = λ i. sym type.1 i ∷ p.0 i ∷ p.1.0 i ∷ l ∷ body; level = octets.at 3; carries = p.1.1.1 }))
      (λ w. let m = w.1 in
      let same : body ≡ m.body = ap (drop 4) m.is in
      let tag : type.0 ≡ w.0.0 = each_tag_has_its_type type.0 w.0.0 (type.1 ∙ ap (λ x. get_or x 0 0) m.is) in
      let carries : IsBody type.0 body w.0.1.cats = subst (λ (x : List ℕ). IsBody type.0 x w.0.1.cats) (sym same) (subst (λ (x : Tag). IsBody x m.body w.0.1.cats) (sym tag) m.carries) in
      (omega (arith, ap (λ x. get_or x 1 0) m.is, ap length same), (ap (λ x. get_or x 2 0) m.is, (w.0.1.cats, carries))))
]

-- ---- CIPSO options

cipso_octets : (s : List ℕ) (v : Cipso) → IsCipso s v → IsOctets s
cipso_octets s v m =
    let rest = m.rest in
    let doi = v.doi in
    let bounds = options_have_10_to_40_octets s v m in
    let behind = tag_octets rest (v.tag, v.label) m.carries in
    let doi_4 = octets-cons (doi % 256) rest (omega arith) behind in
    let doi_3 = octets-cons (doi / 256 % 256) (doi % 256 ∷ rest) (omega arith) doi_4 in
    let doi_2 = octets-cons (doi / 65536 % 256) (doi / 256 % 256 ∷ doi % 256 ∷ rest) (omega arith) doi_3 in
    let named = octets-cons (doi / 16777216 % 256) (doi / 65536 % 256 ∷ doi / 256 % 256 ∷ doi % 256 ∷ rest) (omega arith) doi_2 in
    subst IsOctets (sym m.is)
    (octets-cons 134 ((6 + length rest) ∷ (to_be_bytes w32 doi ++ rest)) (omega arith)
    (octets-cons (6 + length rest) (to_be_bytes w32 doi ++ rest) (omega (arith, bounds.1, ap length m.is)) named))

cipso_of : (s : List ℕ) → IsOctets s → 6 ≤ length s → Decided (Whole IsCipso s)
cipso_of s octets long =
    let rest = drop 6 s in
    let doi = u32_octets s 2 octets in
    as_well (both (cases_eq (get_or s 0 0) 134) (both (cases_eq (get_or s 1 0) (6 + length rest)) (both (below 0 (u32_at s 2)) (tag_decided rest (octets-drop 6 s octets)))))
    (λ p. let tag = p.1.1.1 in (
      record { doi = u32_at s 2; tag = tag.0.0; label = tag.0.1 },
      record { rest = rest; is = firsts_rest s 6 long ∙ λ i. p.0 i ∷ p.1.0 i ∷ (sym doi i ++ rest); carries = tag.1; named = p.1.1.0; fits = u32_small s 2 octets },
    ))
    (λ w. let m = w.1 in
    let same : rest ≡ m.rest = ap (drop 6) m.is in
    let said : u32_at s 2 ≡ w.0.doi = ap (λ x. u32_at x 2) m.is ∙ u32_written w.0.doi m.rest m.fits in
    let tag : IsTag rest (w.0.tag, w.0.label) = subst (λ (x : List ℕ). IsTag x (w.0.tag, w.0.label)) (sym same) m.carries in
    (ap (λ x. get_or x 0 0) m.is, (omega (arith, ap (λ x. get_or x 1 0) m.is, ap length same), (omega (arith, said, m.named), ((w.0.tag, w.0.label), tag)))))

cipso_decided : (s : List ℕ) → Decided (Whole IsCipso s)
cipso_decided s = elim (octets_decided s) [
  | inr not ↦ inr (λ w. not (cipso_octets s w.0 w.1))
  | inl octets ↦ elim (cases_lt (length s) 6) [
    | inl lt ↦ inr (λ w. omega (arith, lt, (options_have_10_to_40_octets s w.0 w.1).0))
    | inr ge ↦ cipso_of s octets ge
  ]
]

pub cipso_is_decided : IsDecided IsCipso 40
cipso_is_decided = record {
  whole = cipso_decided;
  octets = cipso_octets;
  short = λ s v m. (options_have_10_to_40_octets s v m).1;
  some = record { more = _; value = _; member = cipso_reads_back 1 One (record { level = 0; cats = [] }) (omega arith) (omega arith) (omega arith) tt refl };
}

-- ---- CALIPSO options with any checksum

checksum_spelled : (low high : ℕ) → low < 256 → high < 256 → to_le_bytes w16 (from_le_bytes w16 (low ∷ high ∷ [])) ≡ low ∷ high ∷ []
checksum_spelled low high ll lh =
    let n = from_le_bytes w16 (low ∷ high ∷ []) in
    let first : n % 256 ≡ low = omega arith in
    let second : n / 256 % 256 ≡ high = omega arith in
    λ i. first i ∷ second i ∷ []

shape_of : (s : List ℕ) → IsOctets s → 10 ≤ length s → Decided (Whole IsCalipsoShape s)
shape_of s octets long =
    let bitmap = drop 10 s in
    let count = get_or s 6 0 in
    let doi = u32_octets s 2 octets in
    let checksum = checksum_spelled (get_or s 8 0) (get_or s 9 0) (octets.at 8) (octets.at 9) in
    as_well (both (cases_eq (get_or s 0 0) 7) (both (cases_eq (get_or s 1 0) (8 + 4 * count)) (both (cases_eq (length bitmap) (4 * count)) (both (at_most count 61) (below 0 (u32_at s 2))))))
    (λ p. (
      (record { doi = u32_at s 2; label = record { level = get_or s 7 0; cats = bitmap_cats bitmap } }, from_le_bytes w16 (get_or s 8 0 ∷ get_or s 9 0 ∷ [])),
      record {
        words = count;
        bitmap = bitmap;
        is = firsts_rest s 10 long ∙ λ i. p.0 i ∷ p.1.0 i ∷ (sym doi i ++ count ∷ get_or s 7 0 ∷ (sym checksum i ++ bitmap));
        long = p.1.1.0;
        room = p.1.1.1.0;
        octets = octets;
        named = p.1.1.1.1;
        fits = u32_small s 2 octets;
        stored = omega (arith, octets.at 8, octets.at 9);
        carries = refl;
      },
    ))
    (λ w. let m = w.1 in
    let same : bitmap ≡ m.bitmap = ap (drop 10) m.is in
    let said : u32_at s 2 ≡ w.0.0.doi = ap (λ x. u32_at x 2) m.is ∙ u32_written w.0.0.doi [] m.fits in
    let counted : count ≡ m.words = ap (λ x. get_or x 6 0) m.is in
    (ap (λ x. get_or x 0 0) m.is, (omega (arith, counted, ap (λ x. get_or x 1 0) m.is), (omega (arith, counted, ap length same, m.long), (omega (arith, counted, m.room), omega (arith, said, m.named))))))

shape_decided : (s : List ℕ) → Decided (Whole IsCalipsoShape s)
shape_decided s = elim (octets_decided s) [
  | inr not ↦ inr (λ w. not w.1.octets)
  | inl octets ↦ elim (cases_lt (length s) 10) [
    | inl lt ↦ inr (λ w. omega (arith, lt, (shapes_have_10_to_254_octets s w.0 w.1).0))
    | inr ge ↦ shape_of s octets ge
  ]
]

pub shape_is_decided : IsDecided IsCalipsoShape 254
shape_is_decided = record {
  whole = shape_decided;
  octets = λ s v m. m.octets;
  short = λ s v m. (shapes_have_10_to_254_octets s v m).1;
  some = record { more = _; value = _; member = (calipso_reads_back 1 (record { level = 0; cats = [] }) (omega arith) (omega arith) (omega arith) tt (λ c h. absurd cc)).shape };
}
