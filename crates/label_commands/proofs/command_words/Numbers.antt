-- Decimal numbers, as words name them.
use Rattle.std.proofs.Common.{◌≡◌, ◌⊎◌, inl, inr, ℕ, ◌^◌, ◌<◌, ◌≤◌, List, true, Some, None, sym, ap, ◌∙◌, arith, decimal}
use Rattle.std.specs.Prelude.{nat_le}
use Rattle.std.specs.Str.{bytes_eq}
use Rattle.std.specs.Str.Parse.{digits_value}
use Rattle.std.proofs.lemmas.Bool.{and_from, and_right, cond-true, cond-false, le-leb, lt-leb}
use Rattle.std.proofs.lemmas.Fmt.{decimal_is_IsNumeral, decimal_injective}
use Rattle.std.proofs.lemmas.Slice.Eq.{bytes_eq-Decides}
use Rattle.label_commands.specs.command_words.Numbers.{number_named}
use Rattle.label_commands.specs.command_words.Words.{NamesWorkers}

value_is : (n : ℕ) (text : List ℕ) → n < 2 ^ 64 → text ≡ decimal n → digits_value 10 text ≡ n
value_is n text small is = ap (digits_value 10) is ∙ (decimal_is_IsNumeral n small).1

pub names_number : (n : ℕ) (text : List ℕ) → n < 2 ^ 64 → text ≡ decimal n → n ≤ 4294967295 → number_named text ≡ Some n
names_number n text small is le =
    let v = value_is n text small is in
    let spelled : bytes_eq (decimal (digits_value 10 text)) text ≡ true = (bytes_eq-Decides _ text).1 (ap decimal v ∙ sym is) in
    let fits : nat_le (digits_value 10 text) 4294967295 ≡ true = le-leb _ 4294967295 (omega (arith, v)) in
    cond-true _ _ _ (and_from _ _ spelled fits) ∙ ap (λ k. Some k) v

pub names_too_much : (n : ℕ) (text : List ℕ) → n < 2 ^ 64 → text ≡ decimal n → 4294967295 < n → number_named text ≡ None
names_too_much n text small is lt =
    let v = value_is n text small is in
    cond-false _ _ _ (and_right (bytes_eq (decimal (digits_value 10 text)) text) _ (lt-leb _ 4294967295 (omega (arith, v))))

-- a text of another number names no workers
pub no_workers : (text : List ℕ) (n : ℕ) → text ≡ decimal n → n < 2 ^ 64 → (n ≡ 0) ⊎ ((n ≡ 0 → ⊥) × 16 < n) → (workers : ℕ) → NamesWorkers text workers → ⊥
no_workers text n is small other workers named =
    let same : n ≡ workers = decimal_injective n workers small (omega (arith, named.few)) (sym is ∙ named.is) in
    elim other [ inl zero ↦ omega (arith, zero, same, named.some) | inr many ↦ omega (arith, many.1, same, named.few) ]
