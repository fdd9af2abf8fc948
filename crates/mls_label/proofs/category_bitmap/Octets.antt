-- An octet as eight bits.
use Rattle.std.proofs.Common.{◌≡◌, ℕ, zero, suc, ◌+◌, ◌-◌, ◌*◌, ◌/◌, ◌%◌, ◌^◌, ◌<◌, Bool, true, false, ◌==◌, List, [], ◌∷◌, ◌++◌, length, map, refl, sym, ap, ◌∙◌, arith}
use Rattle.std.specs.Int.{bit_at, from_bool}
use Rattle.std.specs.List.{range_with_len}
use Rattle.std.proofs.Math.Nat.{pow-suc, div-div-eq-div-mul}
use Rattle.std.proofs.lemmas.List.{map-append}
use Rattle.std.proofs.lemmas.List.FromFn.{length-map-range_with_len}
use Rattle.mls_label.specs.Cats.{has}
use Rattle.mls_label.specs.category_bitmap.Bitmap.{bits_after, octet_of}

bits_below : (n : ℕ) (bits : List Bool) → bits_after n bits < (n + 1) * 2 ^ length bits
bits_below n [] = omega arith
bits_below n (true ∷ bits) =
    let rest : bits_after (2 * n + 1) bits < (2 * n + 1 + 1) * 2 ^ length bits = bits_below (2 * n + 1) bits in
    rw (pow-suc 2 (length bits)) (omega arith)
bits_below n (false ∷ bits) =
    let rest : bits_after (2 * n + 0) bits < (2 * n + 0 + 1) * 2 ^ length bits = bits_below (2 * n + 0) bits in
    rw (pow-suc 2 (length bits)) (omega arith)

pub octet_small : (cats : List ℕ) (i : ℕ) → octet_of cats i < 256
unfolding octet_of
octet_small cats i =
    omega (arith, bits_below 0 (map (has cats) (range_with_len (8 * i) 8)), ap (λ k. 2 ^ k) (length-map-range_with_len (has cats) (8 * i) 8))

-- ---- the bits of a number

bits_behind : (n : ℕ) (bits : List Bool) → bits_after n bits / 2 ^ length bits ≡ n
bits_behind n [] = omega arith
bits_behind n (true ∷ bits) =
    ap (λ k. bits_after (2 * n + 1) bits / k) (pow-suc 2 (length bits))
    ∙ sym (div-div-eq-div-mul (bits_after (2 * n + 1) bits) (2 ^ length bits) 2)
    ∙ ap (λ k. k / 2) (bits_behind (2 * n + 1) bits)
    ∙ omega arith
bits_behind n (false ∷ bits) =
    ap (λ k. bits_after (2 * n + 0) bits / k) (pow-suc 2 (length bits))
    ∙ sym (div-div-eq-div-mul (bits_after (2 * n + 0) bits) (2 ^ length bits) 2)
    ∙ ap (λ k. k / 2) (bits_behind (2 * n + 0) bits)
    ∙ omega arith

last_bit : (n : ℕ) (b : Bool) → (2 * n + from_bool b) % 2 ≡ from_bool b
last_bit n true = omega arith
last_bit n false = omega arith

-- the bit behind which so many stand
bit_behind : (n : ℕ) (bits : List Bool) (b : Bool) (more : List Bool) → bit_at (bits_after n (bits ++ b ∷ more)) (length more) ≡ from_bool b
bit_behind n [] b more = ap (λ k. k % 2) (bits_behind (2 * n + from_bool b) more) ∙ last_bit n b
bit_behind n (x ∷ bits) b more = bit_behind (2 * n + from_bool x) bits b more

pub range_split : (a m n : ℕ) → range_with_len a (m + n) ≡ range_with_len a m ++ range_with_len (a + m) n
range_split a zero n =
    let few : 0 + n ≡ n = omega arith in
    let same : a ≡ a + 0 = omega arith in
    ap (range_with_len a) few ∙ ap (λ k. range_with_len k n) same
range_split a (suc m) n =
    let more : suc m + n ≡ suc (m + n) = omega arith in
    let same : a + 1 + m ≡ a + suc m = omega arith in
    ap (range_with_len a) more ∙ ap (λ xs. a ∷ xs) (range_split (a + 1) m n ∙ ap (λ k. range_with_len (a + 1) m ++ range_with_len k n) same)

bool_of : (b : Bool) → (from_bool b == 1) ≡ b
bool_of true = refl
bool_of false = refl

-- bit 7 - k of an octet is its k-th category
pub octet_bit : (cats : List ℕ) (i k : ℕ) → k < 8 → (bit_at (octet_of cats i) (7 - k) == 1) ≡ has cats (8 * i + k)
unfolding octet_of
octet_bit cats i k lt =
    let a = 8 * i in
    let more = map (has cats) (range_with_len (a + k + 1) (7 - k)) in
    let long : length more ≡ 7 - k = length-map-range_with_len (has cats) (a + k + 1) (7 - k) in
    let all : 8 ≡ k + suc (7 - k) = omega arith in
    let split : map (has cats) (range_with_len a 8) ≡ map (has cats) (range_with_len a k) ++ has cats (a + k) ∷ more =
    ap (λ n. map (has cats) (range_with_len a n)) all
    ∙ ap (map (has cats)) (range_split a k (suc (7 - k)))
    ∙ map-append (has cats) (range_with_len a k) (range_with_len (a + k) (suc (7 - k))) in
    let bit : bit_at (bits_after 0 (map (has cats) (range_with_len a 8))) (7 - k) ≡ from_bool (has cats (a + k)) =
    ap (λ xs. bit_at (bits_after 0 xs) (7 - k)) split
    ∙ ap (λ n. bit_at (bits_after 0 (map (has cats) (range_with_len a k) ++ has cats (a + k) ∷ more)) n) (sym long)
    ∙ bit_behind 0 (map (has cats) (range_with_len a k)) (has cats (a + k)) more in
    ap (λ n. n == 1) bit ∙ bool_of (has cats (a + k))
