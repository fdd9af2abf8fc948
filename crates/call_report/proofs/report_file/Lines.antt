-- Lines as octets: where one ends.
use Rattle.std.proofs.Common.{◌≡◌, ℕ, Bool, true, false, List, [], ◌∷◌, ◌++◌, refl, sym, ◌∙◌, subst}
use Rattle.std.specs.Prelude.{◌==◌, ◌||◌}
use Rattle.std.specs.List.{list_any}
use Rattle.std.proofs.lemmas.List.Folds.{list_any-append}
use Rattle.std.proofs.lemmas.Bool.{true≢false}

abbrev pub is_end : ℕ → Bool
is_end octet = octet == 10

abbrev pub has_end : List ℕ → Bool
has_end octets = list_any is_end octets

none_behind : (a b : Bool) → (a || b) ≡ false → b ≡ false
none_behind true b none = absurd (true≢false none)
none_behind false b none = none

none_here : (a b : Bool) → (a || b) ≡ false → a ≡ false
none_here true b none = absurd (true≢false none)
none_here false b none = refl

-- octets that have an end in them
pub with_end : (front behind : List ℕ) → has_end (front ++ 10 ∷ behind) ≡ true
with_end [] behind = refl
with_end (o ∷ front) behind = rw (with_end front behind) (or_true (is_end o))
  where
    or_true : (b : Bool) → (b || true) ≡ true
    or_true true = refl
    or_true false = refl

pub none_in_front : (xs ys : List ℕ) → has_end (xs ++ ys) ≡ false → has_end xs ≡ false
none_in_front xs ys none = none_here (has_end xs) (has_end ys) (sym (list_any-append is_end xs ys) ∙ none)

pub none_in_both : (xs ys : List ℕ) → has_end xs ≡ false → has_end ys ≡ false → has_end (xs ++ ys) ≡ false
none_in_both xs ys a b = list_any-append is_end xs ys ∙ rw (a, b) refl

-- a line goes up to the first end
pub one_line : (one other behind after : List ℕ) → has_end one ≡ false → has_end other ≡ false → one ++ 10 ∷ behind ≡ other ++ 10 ∷ after → one ≡ other
one_line [] [] behind after a b same = refl
one_line [] (o ∷ other) behind after a b same =
    let is : 10 ≡ o = cc in absurd (true≢false (none_here (is_end 10) (has_end other) (subst (λ n. (is_end n || has_end other) ≡ false) (sym is) b)))
one_line (o ∷ one) [] behind after a b same =
    let is : o ≡ 10 = cc in absurd (true≢false (none_here (is_end 10) (has_end one) (subst (λ n. (is_end n || has_end one) ≡ false) is a)))
one_line (o ∷ one) (p ∷ other) behind after a b same =
    let head : o ≡ p = cc in
    let tail : one ++ 10 ∷ behind ≡ other ++ 10 ∷ after = cc in
    let rest = one_line one other behind after (none_behind (is_end o) (has_end one) a) (none_behind (is_end p) (has_end other) b) tail in
    cc
