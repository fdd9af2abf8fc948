-- Decimal numbers up to a bound.
use Rattle.std.proofs.Common.{◌≡◌, ℕ, ◌^◌, ◌<◌, ◌≤◌, Bool, true, false, List, Some, None, refl, sym, ap, ◌∙◌, arith, decimal, All}
use Rattle.std.specs.Prelude.{nat_le}
use Rattle.std.specs.Str.{bytes_eq}
use Rattle.std.specs.Str.Parse.{digits_value}
use Rattle.std.proofs.lemmas.Bool.{and_from, and_right, and_parts, cond-true, cond-false, false_from_ne_true, le-leb, lt-leb, leb-true}
use Rattle.std.proofs.lemmas.Fmt.{decimal_is_IsNumeral}
use Rattle.std.proofs.lemmas.List.Elements.{All-from_get_or}
use Rattle.std.proofs.lemmas.Str.Parse.{digit_at}
use Rattle.std.proofs.lemmas.Slice.Eq.{bytes_eq-Decides}
use Rattle.domain_map.specs.address_text.Number.{number_of_text}

-- the number of a decimal text
value_is : (n : ℕ) (text : List ℕ) → n < 2 ^ 64 → text ≡ decimal n → digits_value 10 text ≡ n
value_is n text small is = ap (digits_value 10) is ∙ (decimal_is_IsNumeral n small).1

pub number_of_decimal : (most n : ℕ) (text : List ℕ) → n < 2 ^ 64 → text ≡ decimal n → n ≤ most → number_of_text most text ≡ Some n
number_of_decimal most n text small is le =
    let v = value_is n text small is in
    let spelled : bytes_eq (decimal (digits_value 10 text)) text ≡ true = (bytes_eq-Decides _ text).1 (ap decimal v ∙ sym is) in
    let fits : nat_le (digits_value 10 text) most ≡ true = le-leb _ most (omega (arith, v)) in
    cond-true _ _ _ (and_from _ _ spelled fits) ∙ ap (λ k. Some k) v

pub number_too_large : (most n : ℕ) (text : List ℕ) → n < 2 ^ 64 → text ≡ decimal n → most < n → number_of_text most text ≡ None
number_too_large most n text small is lt =
    let v = value_is n text small is in
    cond-false _ _ _ (and_right (bytes_eq (decimal (digits_value 10 text)) text) _ (lt-leb _ most (omega (arith, v))))

pub no_number : (most : ℕ) (text : List ℕ) → most < 2 ^ 64 → ((n : ℕ) → n < 2 ^ 64 → text ≡ decimal n → ⊥) → number_of_text most text ≡ None
no_number most text small none =
    let n = digits_value 10 text in
    cond-false _ _ _ (false_from_ne_true _ λ both.
    let parts = and_parts (bytes_eq (decimal n) text) (nat_le n most) both in
    none n (omega (arith, leb-true n most parts.1)) (sym ((bytes_eq-Decides (decimal n) text).0 parts.0)))

pub number_of_written : (most n : ℕ) → most < 2 ^ 64 → n ≤ most → number_of_text most (decimal n) ≡ Some n
number_of_written most n small le = number_of_decimal most n (decimal n) (omega arith) refl le

-- no digit of a number passes the test
pub digits_lack : (test : ℕ → Bool) (n : ℕ) → ((c : ℕ) → 48 ≤ c → c ≤ 57 → test c ≡ false) → n < 2 ^ 64 → All (λ c. test c ≡ false) (decimal n)
digits_lack test n none small =
    All-from_get_or (λ c. test c ≡ false) (decimal n) 0 (λ i h.
    let digit = digit_at (decimal n) i (decimal_is_IsNumeral n small).0.1 h in none _ digit.0 digit.1)
