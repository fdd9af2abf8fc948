-- Lists of numbers as octets.
use Rattle.std.proofs.Common.{◌≡◌, ℕ, ◌+◌, ◌*◌, ◌/◌, ◌%◌, ◌<◌, List, [], ◌∷◌, ◌++◌, length, take, refl, sym, ap, ◌∙◌, arith}
use Rattle.std.specs.Int.{w16, to_be_bytes}
use Rattle.std.proofs.lemmas.List.{append-nil, nil_from_length}
use Rattle.std.proofs.lemmas.List.Concat.{flat_map-append}
use Rattle.mls_label.specs.octet_grammar.Octets.{IsOctets}
use Rattle.mls_label.specs.octet_grammar.Numbers.{u16_at}
use Rattle.mls_label.proofs.octet_grammar.Numbers.{u16_more}
use Rattle.cipso_tags.specs.Body.{words}

pub length-words : (ns : List ℕ) → length (words ns) ≡ 2 * length ns
length-words [] = refl
length-words (n ∷ ns) = omega (arith, length-words ns)

pub words-append : (xs ys : List ℕ) → words (xs ++ ys) ≡ words xs ++ words ys
words-append xs ys = flat_map-append (to_be_bytes w16) xs ys

-- each number is one of two octets
abbrev pub AreSmall : List ℕ → Type 0
AreSmall [] = Unit {0}
AreSmall (n ∷ ns) = (n < 65536) × AreSmall ns

pub small_left : (xs ys : List ℕ) → AreSmall (xs ++ ys) → AreSmall xs
small_left [] ys small = tt
small_left (x ∷ xs) ys small = (small.0, small_left xs ys small.1)

pub small_right : (xs ys : List ℕ) → AreSmall (xs ++ ys) → AreSmall ys
small_right [] ys small = small
small_right (x ∷ xs) ys small = small_right xs ys small.1

-- what a list of numbers goes on with, where its octets begin as those of another
pub record GoesOn (xs zs rest : List ℕ) : Type 0 where
  pub more : List ℕ
  pub is : zs ≡ xs ++ more
  pub octets : rest ≡ words more

pub cut : (xs zs rest : List ℕ) → AreSmall xs → AreSmall zs → words zs ≡ words xs ++ rest → GoesOn xs zs rest
cut [] zs rest small fits e = record { more = zs; is = refl; octets = sym e }
cut (x ∷ xs) [] rest small fits e = absurd (cc)
cut (x ∷ xs) (z ∷ zs) rest small fits e =
    let high : z / 256 % 256 ≡ x / 256 % 256 = cc in
    let low : z % 256 ≡ x % 256 = cc in
    let same : z ≡ x = omega (arith, small.0, fits.0) in
    let tail : words zs ≡ words xs ++ rest = cc in
    let c = cut xs zs rest small.1 fits.1 tail in
    record { more = c.more; is = λ i. same i ∷ c.is i; octets = c.octets }

pub words_same : (xs ys : List ℕ) → AreSmall xs → AreSmall ys → words xs ≡ words ys → xs ≡ ys
words_same xs ys small fits e =
    let c = cut xs ys [] small fits (sym e ∙ sym (append-nil (words xs))) in
    let none : c.more ≡ [] = nil_from_length c.more (omega (arith, ap length c.octets, length-words c.more)) in
    sym (append-nil xs) ∙ ap (λ more. xs ++ more) (sym none) ∙ sym c.is

-- one number more was read
pub take_number : (s xs : List ℕ) (o n : ℕ) → IsOctets s → take o s ≡ words xs → o + 1 < length s → n ≡ u16_at s o → take (o + 2) s ≡ words (xs ++ n ∷ [])
take_number s xs o n octets read lt is =
    u16_more s o octets lt ∙ (λ i. read i ++ to_be_bytes w16 (sym is i)) ∙ sym (words-append xs (n ∷ []))
