-- The places of an octet: place 0 is the most significant bit.
use Rattle.std.proofs.Common.{◌≡◌, ℕ, zero, suc, ◌+◌, ◌-◌, ◌/◌, ◌%◌, ◌^◌, ◌<◌, ◌≤◌, min, max, ◌==◌, ◌||◌, bit_and, bit_or, w8, refl, sym, ap, ◌∙◌, arith, inl, inr}
use Rattle.std.specs.Int.{bit_at}
use Rattle.std.proofs.Math.Nat.{div-div-eq-div-mul, div-le_self}
use Rattle.std.proofs.lemmas.Bool.{cases_lt}
use Rattle.std.proofs.lemmas.Bool.Decides.{nat_tests}
use Rattle.std.proofs.lemmas.Nat.{pow-add}
use Rattle.std.proofs.lemmas.Nat.Bits.{bit_at-lt, bit_at_and, bit_at_or, bit_at_not, bit_at_ones, bit_at_ones_above}
use Rattle.mls_label.specs.Cats.{is_within}

pub shifted : (n s i : ℕ) → bit_at (n / 2 ^ s) i ≡ bit_at n (s + i)
shifted n s i = ap (λ q. q % 2) (div-div-eq-div-mul n (2 ^ s) (2 ^ i) ∙ ap (λ k. n / k) (sym (pow-add 2 s i)))

-- ---- the ones from a place on

one_from : (from k : ℕ) → from ≤ k → k < 8 → bit_at (255 / 2 ^ from) (7 - k) ≡ 1
one_from from k le lt = shifted 255 from (7 - k) ∙ bit_at_ones 8 (from + (7 - k)) (omega arith)

zero_before : (from k : ℕ) → k < from → k < 8 → bit_at (255 / 2 ^ from) (7 - k) ≡ 0
zero_before from k lt small = shifted 255 from (7 - k) ∙ bit_at_ones_above 8 (from + (7 - k)) (omega arith)

flipped_is : (octet k : ℕ) → octet < 256 → bit_at (255 - octet) (7 - k) ≡ 1 - bit_at octet (7 - k)
flipped_is octet k small = bit_at_not w8 octet (7 - k) small (omega arith)

-- ---- the ones from one place to another

zero_past : (last k : ℕ) → last < 8 → k ≤ last → bit_at (127 / 2 ^ last) (7 - k) ≡ 0
zero_past last k lt le = shifted 127 last (7 - k) ∙ bit_at_ones_above 7 (last + (7 - k)) (omega arith)

one_past : (last k : ℕ) → last < k → k < 8 → bit_at (127 / 2 ^ last) (7 - k) ≡ 1
one_past last k lt small = shifted 127 last (7 - k) ∙ bit_at_ones 7 (last + (7 - k)) (omega arith)

up_to : (last k : ℕ) → bit_at (255 - 127 / 2 ^ last) (7 - k) ≡ 1 - bit_at (127 / 2 ^ last) (7 - k)
up_to last k = flipped_is (127 / 2 ^ last) k (omega (arith, div-le_self 127 (2 ^ last)))

abbrev pub ones_octet : ℕ → ℕ → ℕ
ones_octet first last = bit_and (255 / 2 ^ first) (255 - 127 / 2 ^ last)

both_bits : (first last k a b : ℕ) → bit_at (255 / 2 ^ first) (7 - k) ≡ a → bit_at (127 / 2 ^ last) (7 - k) ≡ b → bit_at (ones_octet first last) (7 - k) ≡ min a (1 - b)
both_bits first last k a b e f =
    bit_at_and (255 / 2 ^ first) (255 - 127 / 2 ^ last) (7 - k) ∙ ap (λ x. min x (bit_at (255 - 127 / 2 ^ last) (7 - k))) e ∙ ap (λ x. min a x) (up_to last k ∙ ap (λ x. 1 - x) f)

pub ones_bits : (first last k : ℕ) → first ≤ last → last < 8 → k < 8 → (bit_at (ones_octet first last) (7 - k) == 1) ≡ is_within first last k
ones_bits first last k order places lt =
    elim (cases_lt k first) [
      | inl before ↦ ap (λ b. b == 1) (both_bits first last k 0 0 (zero_before first k before lt) (zero_past last k places (omega arith))) ∙ grind (arith, nat_tests)
      | inr from ↦ elim (cases_lt last k) [
        | inl past ↦ ap (λ b. b == 1) (both_bits first last k 1 1 (one_from first k from lt) (one_past last k past lt)) ∙ grind (arith, nat_tests)
        | inr to ↦ ap (λ b. b == 1) (both_bits first last k 1 0 (one_from first k from lt) (zero_past last k places to)) ∙ grind (arith, nat_tests)
      ]
    ]

-- ---- what both octets have

either : (a b : ℕ) → a < 2 → b < 2 → (max a b == 1) ≡ ((a == 1) || (b == 1))
either zero zero p q = refl
either zero (suc zero) p q = refl
either (suc zero) zero p q = refl
either (suc zero) (suc zero) p q = refl
either zero (suc (suc b)) p q = absurd (omega arith)
either (suc zero) (suc (suc b)) p q = absurd (omega arith)
either (suc (suc a)) b p q = absurd (omega arith)

pub or_bits : (a b i : ℕ) → (bit_at (bit_or a b) i == 1) ≡ ((bit_at a i == 1) || (bit_at b i == 1))
or_bits a b i = ap (λ n. n == 1) (bit_at_or a b i) ∙ either (bit_at a i) (bit_at b i) (bit_at-lt a i) (bit_at-lt b i)
