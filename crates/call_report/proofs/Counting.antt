-- A decimal number that is counted up in place, from its last digit on.
use Rattle.std.proofs.Common.{◌≡◌, ℕ, ◌+◌, ◌/◌, ◌%◌, ◌^◌, ◌<◌, ◌≤◌, List, [], ◌∷◌, ◌++◌, length, get_or, set, take, drop, sym, ap, ◌∙◌, arith, inl, inr, ◌⊎◌}
use Rattle.std.specs.Fmt.{decimal}
use Rattle.std.proofs.Math.Seq.{get_or-append_seam, set-append_seam, take-append_seam}
use Rattle.std.proofs.lemmas.Bool.{cases_lt}
use Rattle.std.proofs.lemmas.List.{length-append, drop_all}
use Rattle.std.proofs.lemmas.Fmt.{decimal_digit, decimal_step}
use Rattle.mls_label.proofs.octet_grammar.Digits.{drop-set}

-- digits are those in front and a last one
record EndsIn (digits : List ℕ) (last : ℕ) (front : List ℕ) (digit : ℕ) : Type 0 where
  at : last ≡ length front
  is : digits ≡ front ++ digit ∷ []

ends : (digits : List ℕ) (last : ℕ) (front : List ℕ) (digit : ℕ) → last + 1 ≡ length digits → digits ≡ front ++ digit ∷ [] → EndsIn digits last front digit
ends digits last front digit len is = record {
  at = omega (arith, len, ap length is, length-append front (digit ∷ []));
  is = is;
}

last_digit : (digits : List ℕ) (last : ℕ) (front : List ℕ) (digit : ℕ) → EndsIn digits last front digit → get_or digits last 0 ≡ digit
last_digit digits last front digit e =
    ap (λ ds. get_or ds last 0) e.is ∙ ap (λ k. get_or (front ++ digit ∷ []) k 0) e.at ∙ get_or-append_seam front digit [] 0

with_last : (digits : List ℕ) (last : ℕ) (front : List ℕ) (digit new : ℕ) → EndsIn digits last front digit → set digits last new ≡ front ++ new ∷ []
with_last digits last front digit new e =
    ap (λ ds. set ds last new) e.is ∙ ap (λ k. set (front ++ digit ∷ []) k new) e.at ∙ set-append_seam front digit [] new

in_front : (digits : List ℕ) (last : ℕ) (front : List ℕ) (digit new : ℕ) → EndsIn digits last front digit → take last (set digits last new) ≡ front
in_front digits last front digit new e =
    ap (take last) (with_last digits last front digit new e) ∙ ap (λ k. take k (front ++ new ∷ [])) e.at ∙ take-append_seam front (new ∷ [])

-- a last digit below 9 is counted up
pub digit_up : (number last : ℕ) (digits : List ℕ) → number + 1 < 2 ^ 64 → last + 1 ≡ length digits → get_or digits last 0 < 57
    → digits ≡ decimal number → set digits last (get_or digits last 0 + 1) ≡ decimal (number + 1)
digit_up number last digits small len below spelled = by_size (cases_lt number 10)
  where
    by_size : (number < 10) ⊎ (10 ≤ number) → set digits last (get_or digits last 0 + 1) ≡ decimal (number + 1)
    by_size (inl one) =
        let e = ends digits last [] (48 + number) len (spelled ∙ decimal_digit number one) in
        let digit = last_digit digits last [] (48 + number) e in
        let same : get_or digits last 0 + 1 ≡ 48 + (number + 1) = omega (arith, digit) in
        with_last digits last [] (48 + number) (get_or digits last 0 + 1) e ∙ ap (λ d. d ∷ []) same ∙ sym (decimal_digit (number + 1) (omega (arith, digit)))
    by_size (inr many) =
        let front = decimal (number / 10) in
        let d = 48 + number % 10 in
        let e = ends digits last front d len (spelled ∙ decimal_step number many (omega arith)) in
        let digit = last_digit digits last front d e in
        let same : get_or digits last 0 + 1 ≡ 48 + (number + 1) % 10 = omega (arith, digit) in
        let tens : number / 10 ≡ (number + 1) / 10 = omega (arith, digit) in
        with_last digits last front d (get_or digits last 0 + 1) e
        ∙ ap (λ x. front ++ x ∷ []) same
        ∙ ap (λ m. decimal m ++ (48 + (number + 1) % 10) ∷ []) tens
        ∙ sym (decimal_step (number + 1) (omega arith) small)

-- a last digit 9 becomes 0, and those in front are counted up
pub digit_carried : (number last : ℕ) (digits part : List ℕ) → number + 1 < 2 ^ 64 → last + 1 ≡ length digits → 57 ≤ get_or digits last 0
    → 0 < length (take last (set digits last 48)) → digits ≡ decimal number
    → ((tens : ℕ) → tens + 1 < 2 ^ 64 → take last (set digits last 48) ≡ decimal tens → part ≡ decimal (tens + 1))
    → part ++ drop last (set digits last 48) ≡ decimal (number + 1)
digit_carried number last digits part small len nine some spelled counts = by_size (cases_lt number 10)
  where
    by_size : (number < 10) ⊎ (10 ≤ number) → part ++ drop last (set digits last 48) ≡ decimal (number + 1)
    by_size (inl one) =
        let e = ends digits last [] (48 + number) len (spelled ∙ decimal_digit number one) in
        absurd (omega (arith, some, ap length (in_front digits last [] (48 + number) 48 e)))
    by_size (inr many) =
        let front = decimal (number / 10) in
        let d = 48 + number % 10 in
        let e = ends digits last front d len (spelled ∙ decimal_step number many (omega arith)) in
        let digit = last_digit digits last front d e in
        let tens : number / 10 + 1 ≡ (number + 1) / 10 = omega (arith, digit) in
        let zero_left : 48 ≡ 48 + (number + 1) % 10 = omega (arith, digit) in
        ap (λ ds. part ++ ds) (drop-set digits last 48 (omega (arith, len)) ∙ ap (λ ds. 48 ∷ ds) (drop_all (last + 1) digits (omega (arith, len))))
        ∙ ap (λ p. p ++ 48 ∷ []) (counts (number / 10) (omega arith) (in_front digits last front d 48 e))
        ∙ ap (λ m. decimal m ++ 48 ∷ []) tens
        ∙ ap (λ x. decimal ((number + 1) / 10) ++ x ∷ []) zero_left
        ∙ sym (decimal_step (number + 1) (omega arith) small)
