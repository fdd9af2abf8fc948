-- The bits of words of 32 bits: place 0 is the most significant bit.
use Rattle.std.proofs.Common.{◌≡◌, ℕ, zero, suc, ◌+◌, ◌-◌, ◌*◌, ◌/◌, ◌%◌, ◌^◌, ◌<◌, ◌≤◌, min, Bool, true, false, ◌==◌, ◌||◌, nat_lt, List, [], ◌∷◌, get_or, drop, bit_and, bit_or, w32, refl, sym, ap, ◌∙◌, arith, inl, inr}
use Rattle.std.specs.Prelude.{if◌then◌else◌}
use Rattle.std.specs.Int.{bit_at, from_be_bytes, from_bool}
use Rattle.std.specs.Int.Bits.{bit_xor}
use Rattle.std.specs.Int.Count.{count_leading_zeros}
use Rattle.std.proofs.Math.Nat.{pow-suc}
use Rattle.std.proofs.lemmas.Bool.{cases_lt, ne_eqb}
use Rattle.std.proofs.lemmas.Bool.Decides.{nat_tests}
use Rattle.std.proofs.lemmas.Nat.{pow_pos, leading_top, and_le_r}
use Rattle.std.proofs.lemmas.Nat.Bits.{bit_at-lt, bit_at-zero, bit_at-pow_other, bit_at_above, bit_at_and, bit_at_xor, bit_at_ones, bit_at_ones_above, bit_at_cat_low, bit_at_cat_high, ones_shr}
use Rattle.std.proofs.lemmas.List.{get_or-drop}
use Rattle.mls_label.specs.octet_grammar.Octets.{IsOctets}
use Rattle.mls_label.specs.category_bitmap.Bitmap.{has_bit}
use Rattle.mls_label.specs.category_bitmap.inside.Read.{IsNextTurn, differs}
use Rattle.mls_label.proofs.category_bitmap.Places.{shifted, or_bits}

-- ---- four octets as one number

-- a bit of the octet at i
in_octet : (octets : List ℕ) (k i : ℕ) → i * 8 ≤ k → k < i * 8 + 8 → bit_at (get_or octets i 0) (7 + i * 8 - k) ≡ bit_at (get_or octets (k / 8) 0) (7 - k % 8)
in_octet octets k i from to =
    let octet : i ≡ k / 8 = omega arith in
    let place : 7 + i * 8 - k ≡ 7 - k % 8 = omega arith in
    λ j. bit_at (get_or octets (octet j) 0) (place j)

word_bit : (a b c d k : ℕ) → b < 256 → c < 256 → d < 256 → k < 32 → bit_at (from_be_bytes w32 (a ∷ b ∷ c ∷ d ∷ [])) (31 - k) ≡ bit_at (get_or (a ∷ b ∷ c ∷ d ∷ []) (k / 8) 0) (7 - k % 8)
word_bit a b c d k q r s lt =
    let word = from_be_bytes w32 (a ∷ b ∷ c ∷ d ∷ []) in
    let octets = a ∷ b ∷ c ∷ d ∷ [] in
    elim (cases_lt k 8) [
      | inl first ↦
          let e : word ≡ a * 2 ^ 24 + (b * 65536 + c * 256 + d) = omega arith in
          let place : 31 - k - 24 ≡ 7 + 0 * 8 - k = omega arith in
          ap (λ n. bit_at n (31 - k)) e
          ∙ bit_at_cat_high a 24 (b * 65536 + c * 256 + d) (31 - k) (omega arith) (omega arith)
          ∙ ap (bit_at a) place
          ∙ in_octet octets k 0 (omega arith) (omega arith)
      | inr more ↦ elim (cases_lt k 16) [
        | inl second ↦
            let e : word ≡ (a * 2 ^ 8 + b) * 2 ^ 16 + (c * 256 + d) = omega arith in
            let place : 31 - k - 16 ≡ 7 + 1 * 8 - k = omega arith in
            ap (λ n. bit_at n (31 - k)) e
            ∙ bit_at_cat_high (a * 2 ^ 8 + b) 16 (c * 256 + d) (31 - k) (omega arith) (omega arith)
            ∙ bit_at_cat_low a 8 b (31 - k - 16) (omega arith)
            ∙ ap (bit_at b) place
            ∙ in_octet octets k 1 (omega arith) (omega arith)
        | inr most ↦ elim (cases_lt k 24) [
          | inl third ↦
              let e : word ≡ ((a * 256 + b) * 2 ^ 8 + c) * 2 ^ 8 + d = omega arith in
              let place : 31 - k - 8 ≡ 7 + 2 * 8 - k = omega arith in
              ap (λ n. bit_at n (31 - k)) e
              ∙ bit_at_cat_high ((a * 256 + b) * 2 ^ 8 + c) 8 d (31 - k) (omega arith) (omega arith)
              ∙ bit_at_cat_low (a * 256 + b) 8 c (31 - k - 8) (omega arith)
              ∙ ap (bit_at c) place
              ∙ in_octet octets k 2 (omega arith) (omega arith)
          | inr last ↦
              let e : word ≡ (a * 65536 + b * 256 + c) * 2 ^ 8 + d = omega arith in
              let place : 31 - k ≡ 7 + 3 * 8 - k = omega arith in
              ap (λ n. bit_at n (31 - k)) e
              ∙ bit_at_cat_low (a * 65536 + b * 256 + c) 8 d (31 - k) (omega arith)
              ∙ ap (bit_at d) place
              ∙ in_octet octets k 3 (omega arith) (omega arith)
        ]
      ]
    ]

four_octets : (s : List ℕ) (i : ℕ) → i < 4 → get_or (get_or s 0 0 ∷ get_or s 1 0 ∷ get_or s 2 0 ∷ get_or s 3 0 ∷ []) i 0 ≡ get_or s i 0
four_octets s zero lt = refl
four_octets s (suc zero) lt = refl
four_octets s (suc (suc zero)) lt = refl
four_octets s (suc (suc (suc zero))) lt = refl
four_octets s (suc (suc (suc (suc i)))) lt = absurd (omega arith)

-- the four octets from a place on, with zeros in place of those behind the end
pub word_has : (bitmap s : List ℕ) (at word : ℕ) → IsOctets bitmap → s ≡ drop at bitmap → word ≡ from_be_bytes w32 (get_or s 0 0 ∷ get_or s 1 0 ∷ get_or s 2 0 ∷ get_or s 3 0 ∷ []) → (k : ℕ) → k < 32 → (bit_at word (31 - k) == 1) ≡ has_bit bitmap (8 * at + k)
word_has bitmap s at word octets rest is k lt =
    let there : (i : ℕ) → get_or s i 0 ≡ get_or bitmap (at + i) 0 = λ i. ap (λ xs. get_or xs i 0) rest ∙ get_or-drop at bitmap i 0 in
    let small : (i : ℕ) → get_or s i 0 < 256 = λ i. omega (arith, there i, octets.at (at + i)) in
    let octet : at + k / 8 ≡ (8 * at + k) / 8 = omega arith in
    let place : 7 - k % 8 ≡ 7 - (8 * at + k) % 8 = omega arith in
    let bit : bit_at word (31 - k) ≡ bit_at (get_or bitmap (at + k / 8) 0) (7 - k % 8) =
    ap (λ n. bit_at n (31 - k)) is
    ∙ word_bit (get_or s 0 0) (get_or s 1 0) (get_or s 2 0) (get_or s 3 0) k (small 1) (small 2) (small 3) lt
    ∙ ap (λ n. bit_at n (7 - k % 8)) (four_octets s (k / 8) (omega arith) ∙ there (k / 8)) in
    ap (λ n. n == 1) bit ∙ (λ j. bit_at (get_or bitmap (octet j) 0) (place j) == 1)

-- ---- the turns of a word

one_of : (a b : ℕ) → a < 2 → b < 2 → ((a + b) % 2 == 1) ≡ differs (a == 1) (b == 1)
one_of zero zero p q = refl
one_of zero (suc zero) p q = refl
one_of (suc zero) zero p q = refl
one_of (suc zero) (suc zero) p q = refl
one_of zero (suc (suc b)) p q = absurd (omega arith)
one_of (suc zero) (suc (suc b)) p q = absurd (omega arith)
one_of (suc (suc a)) b p q = absurd (omega arith)

xor_bits : (a b i : ℕ) → (bit_at (bit_xor a b) i == 1) ≡ differs (bit_at a i == 1) (bit_at b i == 1)
xor_bits a b i = ap (λ n. n == 1) (bit_at_xor a b i) ∙ one_of (bit_at a i) (bit_at b i) (bit_at-lt a i) (bit_at-lt b i)

-- the bit that comes in at place 0
bit_in : (last : Bool) → (bit_at (from_bool last * 2 ^ 31 % 2 ^ 32) 31 == 1) ≡ last
bit_in true = refl
bit_in false = refl

none_in : (last : Bool) (i : ℕ) → i < 31 → (bit_at (from_bool last * 2 ^ 31 % 2 ^ 32) i == 1) ≡ false
none_in true i lt = ap (λ n. n == 1) (bit_at-pow_other 31 i (λ e. omega (arith, e, lt)))
none_in false i lt = ap (λ n. n == 1) (bit_at-zero i)

or_same : (a b c : Bool) → a ≡ c → b ≡ false → (a || b) ≡ c
or_same true b c e f = e
or_same false b c e f = f ∙ e

in_front : (word k : ℕ) (last : Bool) → word < 2 ^ 32 → k < 32 → ((bit_at (word / 2 ^ 1) (31 - k) == 1) || (bit_at (from_bool last * 2 ^ 31 % 2 ^ 32) (31 - k) == 1)) ≡ (if k == 0 then last else (bit_at word (32 - k) == 1))
in_front word zero last small lt =
    let none : bit_at (word / 2 ^ 1) 31 ≡ 0 = shifted word 1 31 ∙ bit_at_above word 32 32 small (omega arith) in
    ap (λ n. (n == 1) || (bit_at (from_bool last * 2 ^ 31 % 2 ^ 32) 31 == 1)) none ∙ bit_in last
in_front word (suc k) last small lt =
    let place : 1 + (31 - suc k) ≡ 32 - suc k = omega arith in
    let bit = bit_at word (32 - suc k) == 1 in
    or_same _ _ _ (ap (λ n. n == 1) (shifted word 1 (31 - suc k) ∙ ap (bit_at word) place)) (none_in last (31 - suc k) (omega arith))
    ∙ sym (ap (λ b. if b then last else bit) (ne_eqb (suc k) 0 (λ e. omega (arith, e))))

pub turn_bits : (word : ℕ) (last : Bool) (k : ℕ) → word < 2 ^ 32 → k < 32 → (bit_at (bit_xor word (bit_or (word / 2 ^ 1) (from_bool last * 2 ^ 31 % 2 ^ 32))) (31 - k) == 1) ≡ differs (bit_at word (31 - k) == 1) (if k == 0 then last else (bit_at word (32 - k) == 1))
turn_bits word last k small lt =
    xor_bits word (bit_or (word / 2 ^ 1) (from_bool last * 2 ^ 31 % 2 ^ 32)) (31 - k)
    ∙ ap (differs (bit_at word (31 - k) == 1)) (or_bits (word / 2 ^ 1) (from_bool last * 2 ^ 31 % 2 ^ 32) (31 - k) ∙ in_front word k last small lt)

-- ---- the first one of a word

top_bit : (a j : ℕ) → 2 ^ j ≤ a → a < 2 ^ suc j → bit_at a j ≡ 1
top_bit a j le lt =
    let whole : a ≡ 1 * 2 ^ j + (a - 2 ^ j) = omega arith in
    let low : a - 2 ^ j < 2 ^ j = omega (arith, pow-suc 2 j) in
    let none : j - j ≡ 0 = omega arith in
    ap (λ n. bit_at n j) whole ∙ bit_at_cat_high 1 j (a - 2 ^ j) j low (omega arith) ∙ ap (bit_at 1) none

one_behind : (place k : ℕ) → place < k → k < 32 → bit_at (2147483647 / 2 ^ place) (31 - k) ≡ 1
one_behind place k lt small = shifted 2147483647 place (31 - k) ∙ bit_at_ones 31 (place + (31 - k)) (omega arith)

zero_up_to : (place k : ℕ) → k ≤ place → k < 32 → bit_at (2147483647 / 2 ^ place) (31 - k) ≡ 0
zero_up_to place k le small = shifted 2147483647 place (31 - k) ∙ bit_at_ones_above 31 (place + (31 - k)) (omega arith)

rest_bits : (turns place k : ℕ) → k < 32 → bit_at (bit_and turns (2147483647 / 2 ^ place)) (31 - k) ≡ (if nat_lt place k then bit_at turns (31 - k) else 0)
rest_bits turns place k lt =
    bit_at_and turns (2147483647 / 2 ^ place) (31 - k)
    ∙ elim (cases_lt place k) [
      | inl behind ↦ ap (λ b. min (bit_at turns (31 - k)) b) (one_behind place k behind lt) ∙ grind (arith, nat_tests, bit_at-lt turns (31 - k))
      | inr before ↦ ap (λ b. min (bit_at turns (31 - k)) b) (zero_up_to place k before lt) ∙ grind (arith, nat_tests)
    ]

rest_fewer : (turns place top : ℕ) → place + suc top ≡ 32 → 2 ^ top ≤ turns → bit_and turns (2147483647 / 2 ^ place) < turns
rest_fewer turns place top all le =
    let there : 31 - place ≡ top = omega arith in
    let mask : 2147483647 / 2 ^ place ≡ 2 ^ top - 1 = ones_shr 31 place (omega arith) ∙ ap (λ n. 2 ^ n - 1) there in
    let some : 0 < 2 ^ top = pow_pos top in
    omega (arith, mask, some, le, and_le_r turns (2147483647 / 2 ^ place))

pub first_turn : (turns : ℕ) → 0 < turns → turns < 2 ^ 32 → IsNextTurn turns (count_leading_zeros 32 turns) (bit_and turns (2147483647 / 2 ^ count_leading_zeros 32 turns))
first_turn turns some small =
    let place = count_leading_zeros 32 turns in
    let top = leading_top 32 turns some small in
    let there : 31 - place ≡ top.0 = omega (arith, top.1) in
    record {
      within = omega (arith, top.1);
      one = ap (bit_at turns) there ∙ top_bit turns top.0 top.2 top.3;
      zeros = λ k before. bit_at_above turns (suc top.0) (31 - k) top.3 (omega (arith, top.1));
      behind = rest_bits turns place;
      fewer = rest_fewer turns place top.0 top.1 top.2;
    }
