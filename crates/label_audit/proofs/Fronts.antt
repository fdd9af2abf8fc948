-- The first lines of a text.
use Rattle.std.proofs.Common.{◌≡◌, ◌≤◌, ◌⊎◌, inl, inr, ℕ, zero, suc, ◌+◌, Bool, true, false, cond, List, [], ◌∷◌, ◌++◌, refl, ap, ◌∙◌, arith}
use Rattle.std.specs.Prelude.{◌==◌}
use Rattle.std.proofs.lemmas.List.Sums.{sum_by-cons}
use Rattle.std.proofs.lemmas.Bool.Decides.{nat_tests}
use Rattle.call_report.specs.report_file.Meeting.{lines_in}

-- a text of whole lines
abbrev pub Whole : List ℕ → Type 0
Whole text = (text ≡ []) ⊎ ((front : List ℕ) × (text ≡ front ++ 10 ∷ []))

abbrev pub one_at : ℕ → ℕ
one_at octet = cond (octet == 10) 1 0

abbrev one_if : Bool → ℕ
one_if b = cond b 1 0

pub lines-cons : (o : ℕ) (xs : List ℕ) → lines_in (o ∷ xs) ≡ one_at o + lines_in xs
lines-cons o xs = sum_by-cons one_at o xs

-- ---- the first lines of a text

-- so many lines in front of the rest of a text
pub record Cut (k : ℕ) (text : List ℕ) : Type 0 where
  pub front : List ℕ
  pub rest : List ℕ
  pub is : text ≡ front ++ rest
  pub count : lines_in front ≡ k
  pub whole : Whole front

ended : (o : ℕ) (front : List ℕ) → o ≡ 10 → Whole front → Whole (o ∷ front)
ended o front ten (inl none) = inr ([], ap (λ n. n ∷ front) ten ∙ ap (λ t. 10 ∷ t) none)
ended o front ten (inr last) = inr (o ∷ last.0, ap (λ t. o ∷ t) last.1)

amid : (o k : ℕ) (front : List ℕ) → lines_in front ≡ suc k → Whole front → Whole (o ∷ front)
amid o k front some (inl none) = absurd (omega (arith, some, ap lines_in none))
amid o k front some (inr last) = inr (o ∷ last.0, ap (λ t. o ∷ t) last.1)

cut_at : (o k : ℕ) (text : List ℕ) (b : Bool) → (o == 10) ≡ b → suc k ≤ lines_in (o ∷ text) → (k ≤ lines_in text → Cut k text) → (suc k ≤ lines_in text → Cut (suc k) text) → Cut (suc k) (o ∷ text)
cut_at o k text true is few here behind =
    let ten : o ≡ 10 = grind (arith, nat_tests) in
    let more = here (omega (arith, few, lines-cons o text, ap one_if is)) in
    record {
      front = o ∷ more.front;
      rest = more.rest;
      is = ap (λ t. o ∷ t) more.is;
      count = omega (arith, lines-cons o more.front, ap one_if is, more.count);
      whole = ended o more.front ten more.whole;
    }
cut_at o k text false is few here behind =
    let more = behind (omega (arith, few, lines-cons o text, ap one_if is)) in
    record {
      front = o ∷ more.front;
      rest = more.rest;
      is = ap (λ t. o ∷ t) more.is;
      count = omega (arith, lines-cons o more.front, ap one_if is, more.count);
      whole = amid o k more.front more.count more.whole;
    }

-- the first lines of a text, as many as may be
pub cut : (k : ℕ) (text : List ℕ) → k ≤ lines_in text → Cut k text
cut zero text few = record { front = []; rest = text; is = refl; count = refl; whole = inl refl }
cut (suc k) [] few = absurd (omega (arith, few))
cut (suc k) (o ∷ text) few = cut_at o k text (o == 10) refl few (λ less. cut k text less) (λ less. cut (suc k) text less)

-- ---- what may stand behind the beginning of a report
