-- Decimal numbers below 2^64.
use Rattle.std.proofs.Common.{◌≡◌, ℕ, ◌^◌, ◌<◌, List, true, false, Some, None, sym, ap, ◌∙◌, arith, decimal}
use Rattle.std.specs.Prelude.{nat_le, ◌&&◌, ◌==◌}
use Rattle.std.specs.List.{All}
use Rattle.std.specs.Str.{bytes_eq}
use Rattle.std.specs.Str.Parse.{digits_value}
use Rattle.std.proofs.lemmas.Bool.{and_from, and_parts, cond-true, cond-false, false_from_ne_true, le-leb, leb-true}
use Rattle.std.proofs.lemmas.Bool.Decides.{nat_tests}
use Rattle.std.proofs.lemmas.List.Elements.{All-from_get_or}
use Rattle.std.proofs.lemmas.Fmt.{decimal_is_IsNumeral}
use Rattle.std.proofs.lemmas.Str.Parse.{digit_at}
use Rattle.std.proofs.lemmas.Slice.Eq.{bytes_eq-Decides}
use Rattle.call_report.specs.report_lines.Slot.{whole_number}

value_is : (n : ℕ) (text : List ℕ) → n < 2 ^ 64 → text ≡ decimal n → digits_value 10 text ≡ n
value_is n text small is = ap (digits_value 10) is ∙ (decimal_is_IsNumeral n small).1

pub a_number : (n : ℕ) (text : List ℕ) → n < 2 ^ 64 → text ≡ decimal n → whole_number text ≡ Some n
unfolding whole_number
a_number n text small is =
    let v = value_is n text small is in
    let spelled : bytes_eq (decimal (digits_value 10 text)) text ≡ true = (bytes_eq-Decides _ text).1 (ap decimal v ∙ sym is) in
    let fits : nat_le (digits_value 10 text) 18446744073709551615 ≡ true = le-leb _ 18446744073709551615 (omega (arith, v)) in
    cond-true _ _ _ (and_from _ _ spelled fits) ∙ ap (λ k. Some k) v

tested : (text : List ℕ) → ((n : ℕ) → n < 2 ^ 64 → text ≡ decimal n → ⊥) → (bytes_eq (decimal (digits_value 10 text)) text && nat_le (digits_value 10 text) 18446744073709551615) ≡ true → ⊥
tested text none both =
    let parts = and_parts _ _ both in
    none (digits_value 10 text) (omega (arith, leb-true _ 18446744073709551615 parts.1)) (sym ((bytes_eq-Decides _ text).0 parts.0))

pub no_number : (text : List ℕ) → ((n : ℕ) → n < 2 ^ 64 → text ≡ decimal n → ⊥) → whole_number text ≡ None
unfolding whole_number
no_number text none = cond-false _ _ _ (false_from_ne_true _ (tested text none))

-- the digits of a number are none of the octets below them
pub digits_but : (b n : ℕ) → b < 48 → n < 2 ^ 64 → All (λ c. (c == b) ≡ false) (decimal n)
digits_but b n low small = All-from_get_or (λ c. (c == b) ≡ false) (decimal n) 0 λ i h.
    let digit = digit_at (decimal n) i (decimal_is_IsNumeral n small).0.1 h in grind (arith, nat_tests, digit, low)
