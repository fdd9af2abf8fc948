-- Eight shifts at once: the low octet is looked up, and the rest moves down.
use Rattle.std.proofs.Common.{◌≡◌, ℕ, zero, suc, ◌+◌, ◌*◌, ◌/◌, ◌%◌, ◌^◌, ◌<◌, map, get_or, refl, sym, ap, subst, ◌∙◌, arith, inl, inr, add-mul, mul_assoc, mul_comm, pow-suc}
use Rattle.std.specs.Prelude.{bit_xor}
use Rattle.std.specs.Int.Bits.{xor_assoc, xor_zero_r}
use Rattle.std.specs.List.{range_with_len}
use Rattle.std.proofs.lemmas.Bool.{cases_eq, eq-eqb, ne_eqb}
use Rattle.std.proofs.lemmas.Nat.{xor_shr, xor_mod, shr_split, div_below, mod_below, pow_pos}
use Rattle.std.proofs.lemmas.List.FromFn.{get_or-map-range_with_len}
use Rattle.calipso_option.specs.declared.table.TheConstants.{SHIFTED_OUT}
use Rattle.calipso_option.specs.Crc.{shifted, shifted_times}

table_is : SHIFTED_OUT ≡ map (shifted_times 8) (range_with_len 0 256)
unfolding shifted
table_is = refl

pub table_at : (i : ℕ) → i < 256 → get_or SHIFTED_OUT i 0 ≡ shifted_times 8 i
table_at i lt = ap (λ t. get_or t i 0) table_is ∙ get_or-map-range_with_len (shifted_times 8) 0 256 i i 0 lt (omega arith)

-- a register that ends in the same bit is the higher bits plus the shifted rest
shift_apart : (h b x : ℕ) → b < 2 → shifted (bit_xor (2 * h + b) x) ≡ bit_xor h (shifted (bit_xor b x))
unfolding shifted
shift_apart h b x lt =
    let low : (2 * h + b) / 2 ≡ h = omega arith in
    let none : b / 2 ≡ 0 = omega arith in
    let ends : (2 * h + b) % 2 ≡ b % 2 = omega arith in
    let half : bit_xor (2 * h + b) x / 2 ≡ bit_xor h (x / 2) = xor_shr (2 * h + b) x 1 ∙ ap (λ k. bit_xor k (x / 2)) low in
    let rest : bit_xor b x / 2 ≡ x / 2 = xor_shr b x 1 ∙ ap (λ k. bit_xor k (x / 2)) none in
    let same : bit_xor (2 * h + b) x % 2 ≡ bit_xor b x % 2 = xor_mod (2 * h + b) x 1 ∙ ap (λ k. bit_xor k (x % 2)) ends ∙ sym (xor_mod b x 1) in
    elim (cases_eq (bit_xor b x % 2) 1) [
      | inl one ↦ rw (eq-eqb (bit_xor b x % 2) 1 one, eq-eqb (bit_xor (2 * h + b) x % 2) 1 (same ∙ one), half, rest) (xor_assoc h (x / 2) 33800)
      | inr other ↦ rw (ne_eqb (bit_xor b x % 2) 1 other, ne_eqb (bit_xor (2 * h + b) x % 2) 1 (λ e. other (sym same ∙ e)), half, rest) refl
    ]

regroup : (h b q r : ℕ) → h * (q * 2) + (b * q + r) ≡ (2 * h + b) * q + r
regroup h b q r =
    let sum : (2 * h + b) * q ≡ 2 * h * q + b * q = add-mul (2 * h) b q in
    let doubled : 2 * h * q ≡ 2 * (h * q) = mul_assoc 2 h q in
    let moved : h * (q * 2) ≡ h * q * 2 = sym (mul_assoc h q 2) in
    omega arith

-- what lies above n bits moves down by n
shifts_apart : (n h l : ℕ) → l < 2 ^ n → shifted_times n (h * 2 ^ n + l) ≡ bit_xor h (shifted_times n l)
shifts_apart zero h l lt =
    let none : l ≡ 0 = omega arith in
    let whole : h * 1 + l ≡ h = omega arith in
    whole ∙ sym (xor_zero_r h) ∙ ap (bit_xor h) (sym none)
shifts_apart (suc n) h l lt =
    let q = 2 ^ n in
    let b = l / q in
    let r = l % q in
    let split : l ≡ b * q + r = sym (shr_split l n) in
    let bit : b < 2 = div_below l q 2 (pow_pos n) (subst (λ k. l < k) (pow-suc 2 n ∙ mul_comm q 2) lt) in
    let small : r < q = mod_below l q (pow_pos n) in
    let whole : h * 2 ^ suc n + l ≡ (2 * h + b) * q + r = (λ i. h * pow-suc 2 n i + split i) ∙ regroup h b q r in
    let above = shifts_apart n (2 * h + b) r small in
    let below = shifts_apart n b r small in
    ap (λ k. shifted (shifted_times n k)) whole
    ∙ ap shifted above
    ∙ shift_apart h b (shifted_times n r) bit
    ∙ ap (λ k. bit_xor h (shifted k)) (sym below)
    ∙ ap (λ k. bit_xor h (shifted (shifted_times n k))) (sym split)

-- eight shifts of a register
pub eight_shifts : (register : ℕ) → bit_xor (register / 256) (shifted_times 8 (register % 256)) ≡ shifted_times 8 register
eight_shifts register =
    let whole : register / 256 * 256 + register % 256 ≡ register = omega arith in
    sym (shifts_apart 8 (register / 256) (register % 256) (omega arith)) ∙ ap (shifted_times 8) whole
