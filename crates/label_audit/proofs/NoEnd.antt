-- Texts in which no line ends.
use Rattle.std.proofs.Common.{◌≡◌, ℕ, zero, suc, ◌+◌, ◌/◌, ◌%◌, ◌<◌, Bool, true, false, List, [], ◌∷◌, ◌++◌, take, drop, flat_map, decimal, refl, ◌∙◌, arith}
use Rattle.std.specs.Prelude.{◌==◌, ◌||◌, map}
use Rattle.std.specs.List.{list_any, join_with_byte}
use Rattle.std.specs.Fmt.{digits, digits_onto, digit_glyph}
use Rattle.std.specs.Char.{digit_char}
use Rattle.std.specs.Net.Text.{ipv4_text, hex, groups_text, longest_zero_run, hex_groups_text, compressed_text, leading_zero_digits}
use Rattle.std.proofs.lemmas.Bool.{cond_both}
use Rattle.std.proofs.lemmas.Bool.Decides.{nat_tests}
use Rattle.std.proofs.lemmas.List.Folds.{list_any-append}

abbrev pub has_end : List ℕ → Bool
has_end octets = list_any (λ octet. octet == 10) octets

-- in a record, so that the lists are read off a goal
pub record NoEnd (xs : List ℕ) : Type 0 where
  pub none : has_end xs ≡ false

pub nil : NoEnd []
nil = record { none = refl }

or_none : (a b : Bool) → a ≡ false → b ≡ false → (a || b) ≡ false
or_none a b x y = rw (x, y) refl

pub and : (xs ys : List ℕ) → NoEnd xs → NoEnd ys → NoEnd (xs ++ ys)
and xs ys h k = record { none = list_any-append (λ octet. octet == 10) xs ys ∙ or_none (has_end xs) (has_end ys) h.none k.none }

pub onto : (x : ℕ) (xs : List ℕ) → (x == 10) ≡ false → NoEnd xs → NoEnd (x ∷ xs)
onto x xs h k = record { none = or_none (x == 10) (has_end xs) h k.none }

-- ---- numbers

glyph : (d : ℕ) → d < 10 → (digit_glyph false d == 10) ≡ false
glyph d few = grind (arith, few, nat_tests)

onto_digits : (k n : ℕ) (acc : List ℕ) → NoEnd acc → NoEnd (digits_onto k 10 false n acc)
onto_digits zero n acc h = h
onto_digits (suc k) n acc h =
    let here = onto (digit_glyph false (n % 10)) acc (glyph (n % 10) (omega arith)) h in
    cond_both (n / 10 == 0) (digit_glyph false (n % 10) ∷ acc) (digits_onto k 10 false (n / 10) (digit_glyph false (n % 10) ∷ acc)) NoEnd (λ _. here) (λ _. onto_digits k (n / 10) (digit_glyph false (n % 10) ∷ acc) here)

pub number : (n : ℕ) → NoEnd (decimal n)
unfolding digits
number n = onto_digits 64 n [] nil

pub joined : (texts : List ℕ) → NoEnd (join_with_byte 44 (map decimal texts))
joined [] = nil
joined (n ∷ []) = number n
joined (n ∷ m ∷ ns) = and (decimal n) (44 ∷ join_with_byte 44 (map decimal (m ∷ ns))) (number n) (onto 44 (join_with_byte 44 (map decimal (m ∷ ns))) refl (joined (m ∷ ns)))

-- ---- addresses

hex_digit : (d : ℕ) → (digit_char d == 10) ≡ false
hex_digit d = grind (arith, nat_tests)

cut : (n : ℕ) (xs : List ℕ) → NoEnd xs → NoEnd (drop n xs)
cut zero xs h = h
cut (suc n) [] h = h
cut (suc n) (x ∷ xs) h = cut n xs (record { none = behind (x == 10) (has_end xs) h.none }) where
  behind : (a b : Bool) → (a || b) ≡ false → b ≡ false
  behind true b h = absurd cc
  behind false b h = h

hex_text : (n : ℕ) → NoEnd (hex n)
unfolding hex
hex_text n =
    let a = digit_char (n / 0x1000) in
    let b = digit_char (n / 0x100 % 16) in
    let c = digit_char (n / 0x10 % 16) in
    let d = digit_char (n % 16) in
    cut (leading_zero_digits n) (a ∷ b ∷ c ∷ d ∷ [])
    (onto a (b ∷ c ∷ d ∷ []) (hex_digit (n / 0x1000)) (onto b (c ∷ d ∷ []) (hex_digit (n / 0x100 % 16)) (onto c (d ∷ []) (hex_digit (n / 0x10 % 16)) (onto d [] (hex_digit (n % 16)) nil))))

more_groups : (xs : List ℕ) → NoEnd (flat_map (λ t. 58 ∷ hex t) xs)
more_groups [] = nil
more_groups (x ∷ xs) = and (58 ∷ hex x) (flat_map (λ t. 58 ∷ hex t) xs) (onto 58 (hex x) refl (hex_text x)) (more_groups xs)

groups : (xs : List ℕ) → NoEnd (groups_text xs)
groups [] = nil
groups (x ∷ xs) = and (hex x) (flat_map (λ t. 58 ∷ hex t) xs) (hex_text x) (more_groups xs)

compressed : (xs : List ℕ) (run : ℕ × ℕ) → NoEnd (compressed_text xs run)
compressed xs run =
    let two : NoEnd (58 ∷ 58 ∷ []) = record { none = refl } in
    cond_both _ _ _ NoEnd (λ _. and _ _ (and _ _ (groups (take run.0 xs)) two) (groups (drop (run.0 + run.1) xs))) (λ _. groups xs)

pub six : (xs : List ℕ) → NoEnd (hex_groups_text xs)
unfolding hex_groups_text
six xs = compressed xs (longest_zero_run xs)

pub four : (o : List ℕ) → NoEnd (ipv4_text o)
four o =
    let dot : NoEnd (46 ∷ []) = record { none = refl } in
    and _ _ (and _ _ (and _ _ (and _ _ (and _ _ (and _ _ (number _) dot) (number _)) dot) (number _)) dot) (number _)
