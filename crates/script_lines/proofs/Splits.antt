-- Texts that are split at octets that pass a test.
use Rattle.std.proofs.Common.{◌≡◌, ℕ, ◌+◌, ◌<◌, ◌≤◌, Bool, true, false, cond, List, [], ◌∷◌, ◌++◌, length, get_or, take, drop, Option, Some, None, refl, sym, ap, ◌∙◌, subst, arith, All}
use Rattle.std.specs.List.{slice_split, position, position_or_len, list_any}
use Rattle.std.proofs.lemmas.Bool.{or_parts, ltb-true, ltb-false}
use Rattle.std.proofs.lemmas.List.{get_or-take, length-take}
use Rattle.std.proofs.lemmas.List.Splits.{slice_split_at}
use Rattle.std.proofs.lemmas.List.Sums.{split_at_first, fails_before_first, passes_at_first}
use Rattle.std.proofs.lemmas.List.Elements.{All-from_get_or, All-nil, All-cons}
use Rattle.std.proofs.lemmas.Option.{none-some, cond_some}

-- the first octet that passes has i others in front of it
pub record Cut (p : ℕ → Bool) (text : List ℕ) (i : ℕ) : Type 0 where
  pub octet : ℕ
  pub within : i < length text
  pub is : text ≡ take i text ++ (octet ∷ drop (i + 1) text)
  pub passes : p octet ≡ true
  pub fails : All (λ c. p c ≡ false) (take i text)

fails_before : (p : ℕ → Bool) (text : List ℕ) (k : ℕ) → k < length (take (position_or_len p text) text) → p (get_or (take (position_or_len p text) text) k 0) ≡ false
fails_before p text k h =
    let i = position_or_len p text in
    let below : k < i = omega (arith, h, length-take i text) in
    ap p (get_or-take i text k 0 below) ∙ fails_before_first p text k 0 below

cut_first : (p : ℕ → Bool) (text : List ℕ) → position_or_len p text < length text → Cut p text (position_or_len p text)
cut_first p text lt = record {
  octet = get_or text (position_or_len p text) 0;
  within = lt;
  is = split_at_first p text 0 lt;
  passes = passes_at_first p text 0 lt;
  fails = All-from_get_or (λ c. p c ≡ false) (take (position_or_len p text) text) 0 (fails_before p text);
}

pub cut_at : (p : ℕ → Bool) (text : List ℕ) (i : ℕ) → position p text ≡ Some i → Cut p text i
cut_at p text i e =
    let n = position_or_len p text in
    let found = cond_some _ n i e in
    subst (Cut p text) found.1 (cut_first p text (ltb-true n (length text) found.0))

no_place : (b : Bool) (k : ℕ) → cond b (Some k) None ≡ None → b ≡ false
no_place true k e = absurd (none-some k (sym e))
no_place false k e = refl

pub none_passes : (p : ℕ → Bool) (text : List ℕ) → position p text ≡ None → All (λ c. p c ≡ false) text
none_passes p text e =
    let n = position_or_len p text in
    let all : length text ≤ n = ltb-false n (length text) (no_place _ n e) in
    All-from_get_or (λ c. p c ≡ false) text 0 (λ k h. fails_before_first p text k 0 (omega arith))

pub none_of : (p : ℕ → Bool) (text : List ℕ) → list_any p text ≡ false → All (λ c. p c ≡ false) text
none_of p [] e = All-nil (λ c. p c ≡ false)
none_of p (c ∷ cs) e =
    let parts = or_parts (p c) (list_any p cs) e in All-cons (λ c. p c ≡ false) c cs parts.0 (none_of p cs parts.1)

pub split_cut : (p : ℕ → Bool) (text : List ℕ) (i : ℕ) → Cut p text i → slice_split p text ≡ take i text ∷ slice_split p (drop (i + 1) text)
split_cut p text i cut = ap (slice_split p) cut.is ∙ slice_split_at p (take i text) cut.octet (drop (i + 1) text) cut.fails cut.passes

-- nothing was found
pub none_from : (place : Option ℕ) → ((i : ℕ) → place ≡ Some i → ⊥) → place ≡ None
none_from None not = refl
none_from (Some i) not = absurd (not i refl)
