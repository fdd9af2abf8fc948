-- Sets of categories as plain lists: two with the same members are one, and `cats_where` is the one with given members.
use Rattle.std.proofs.Common.{◌≡◌, ℕ, zero, suc, ◌+◌, ◌<◌, ◌≤◌, Bool, true, false, ◌&&◌, ◌||◌, cond, nat_eq, nat_lt, nat_le, List, [], ◌∷◌, ◌++◌, filter, refl, sym, ap, ◌∙◌, arith, inl, inr}
use Rattle.std.specs.List.{range_with_len}
use Rattle.std.proofs.lemmas.Bool.{cases_lt, cases_order, cases_eq, eq-eqb, ne_eqb, false≢true, true≢false, and_from, and_right}
use Rattle.std.proofs.lemmas.Bool.Decides.{nat_tests}
use Rattle.std.proofs.lemmas.List.Folds.{list_any-append}
use Rattle.mls_label.specs.Cats.{has, Ascends, IsCats, IsSubset, cats_where}

-- ---- what is a member

pub has_first : (x : ℕ) (xs : List ℕ) (c : ℕ) → c ≡ x → has (x ∷ xs) c ≡ true
has_first x xs c e = ap (λ b. b || has xs c) (eq-eqb c x e)

pub has_rest : (x : ℕ) (xs : List ℕ) (c : ℕ) → (c ≡ x → ⊥) → has (x ∷ xs) c ≡ has xs c
has_rest x xs c ne = ap (λ b. b || has xs c) (ne_eqb c x ne)

pub has-append : (xs ys : List ℕ) (c : ℕ) → has (xs ++ ys) c ≡ (has xs c || has ys c)
has-append xs ys c = list_any-append (nat_eq c) xs ys

pub has-range_with_len : (a n c : ℕ) → has (range_with_len a n) c ≡ (nat_le a c && nat_lt c (a + n))
has-range_with_len a zero c = grind (arith, nat_tests)
has-range_with_len a (suc n) c =
    let rest : has (range_with_len (a + 1) n) c ≡ (nat_le (a + 1) c && nat_lt c (a + 1 + n)) = has-range_with_len (a + 1) n c in
    elim (cases_eq c a) [
      | inl e ↦ has_first a (range_with_len (a + 1) n) c e ∙ grind (arith, nat_tests)
      | inr ne ↦ has_rest a (range_with_len (a + 1) n) c ne ∙ (rest ∙ grind (arith, nat_tests))
    ]

-- a filter keeps the members that pass
has_kept : (p : ℕ → Bool) (x : ℕ) (xs kept : List ℕ) (c : ℕ) (b : Bool) → p x ≡ b → has kept c ≡ (has xs c && p c) → has (cond b (x ∷ kept) kept) c ≡ (has (x ∷ xs) c && p c)
has_kept p x xs kept c true h rest =
    elim (cases_eq c x) [
      | inl e ↦ has_first x kept c e ∙ sym (and_from (has (x ∷ xs) c) (p c) (has_first x xs c e) (ap p e ∙ h))
      | inr ne ↦ has_rest x kept c ne ∙ (rest ∙ ap (λ b. b && p c) (sym (has_rest x xs c ne)))
    ]
has_kept p x xs kept c false h rest =
    elim (cases_eq c x) [
      | inl e ↦ rest ∙ (and_right (has xs c) (p c) (ap p e ∙ h) ∙ sym (and_right (has (x ∷ xs) c) (p c) (ap p e ∙ h)))
      | inr ne ↦ rest ∙ ap (λ b. b && p c) (sym (has_rest x xs c ne))
    ]

pub has-filter : (p : ℕ → Bool) (xs : List ℕ) (c : ℕ) → has (filter p xs) c ≡ (has xs c && p c)
has-filter p [] c = refl
has-filter p (x ∷ xs) c = has_kept p x xs (filter p xs) c (p x) refl (has-filter p xs c)

has_filtered_range : (p : ℕ → Bool) (n c : ℕ) → c < n → has (filter p (range_with_len 0 n)) c ≡ p c
has_filtered_range p n c lt =
    let within : has (range_with_len 0 n) c ≡ true = has-range_with_len 0 n c ∙ grind (arith, nat_tests) in
    has-filter p (range_with_len 0 n) c ∙ ap (λ b. b && p c) within

-- ---- in ascending order

pub ascends_less : (lower low high : ℕ) (xs : List ℕ) → lower ≤ low → Ascends low high xs → Ascends lower high xs
ascends_less lower low high [] le a = tt
ascends_less lower low high (x ∷ xs) le a = (omega (arith, a.0), a.1, a.2)

pub ascends_more : (low high higher : ℕ) (xs : List ℕ) → high ≤ higher → Ascends low high xs → Ascends low higher xs
ascends_more low high higher [] le a = tt
ascends_more low high higher (x ∷ xs) le a = (a.0, omega (arith, a.1), ascends_more (x + 1) high higher xs le a.2)

pub ascends_range : (low high a n : ℕ) → low ≤ a → a + n ≤ high → Ascends low high (range_with_len a n)
ascends_range low high a zero le fit = tt
ascends_range low high a (suc n) le fit = (le, omega arith, ascends_range (a + 1) high (a + 1) n (omega arith) (omega arith))

pub ascends-append : (low middle high : ℕ) (xs ys : List ℕ) → low ≤ middle → middle ≤ high → Ascends low middle xs → Ascends middle high ys → Ascends low high (xs ++ ys)
ascends-append low middle high [] ys le fit a b = ascends_less low middle high ys le b
ascends-append low middle high (x ∷ xs) ys le fit a b =
    (a.0, omega (arith, a.1), ascends-append (x + 1) middle high xs ys (omega (arith, a.1)) fit a.2 b)

ascends_kept : (b : Bool) (low high x : ℕ) (kept : List ℕ) → low ≤ x → x < high → Ascends (x + 1) high kept → Ascends low high (cond b (x ∷ kept) kept)
ascends_kept true low high x kept le lt a = (le, lt, a)
ascends_kept false low high x kept le lt a = ascends_less low (x + 1) high kept (omega arith) a

pub ascends-filter : (p : ℕ → Bool) (low high : ℕ) (xs : List ℕ) → Ascends low high xs → Ascends low high (filter p xs)
ascends-filter p low high [] a = tt
ascends-filter p low high (x ∷ xs) a = ascends_kept (p x) low high x (filter p xs) a.0 a.1 (ascends-filter p (x + 1) high xs a.2)

pub has_below : (low high : ℕ) (xs : List ℕ) (c : ℕ) → Ascends low high xs → c < low → has xs c ≡ false
has_below low high [] c a lt = refl
has_below low high (x ∷ xs) c a lt =
    has_rest x xs c (λ e. omega (arith, a.0)) ∙ has_below (x + 1) high xs c a.2 (omega (arith, a.0))

pub has_past : (low high : ℕ) (xs : List ℕ) (c : ℕ) → Ascends low high xs → high ≤ c → has xs c ≡ false
has_past low high [] c a le = refl
has_past low high (x ∷ xs) c a le =
    has_rest x xs c (λ e. omega (arith, a.1)) ∙ has_past (x + 1) high xs c a.2 le

-- a member lies within the bounds
pub has_bounds : (low high : ℕ) (xs : List ℕ) (c : ℕ) → Ascends low high xs → has xs c ≡ true → (low ≤ c) × (c < high)
has_bounds low high xs c a h = (
  elim (cases_lt c low) [
    | inl lt ↦ absurd (true≢false (sym h ∙ has_below low high xs c a lt))
    | inr le ↦ le
  ],
  elim (cases_lt c high) [
    | inl lt ↦ lt
    | inr le ↦ absurd (true≢false (sym h ∙ has_past low high xs c a le))
  ],
)

-- ---- the same members, the same list

pub ascends_same : (low high : ℕ) (xs ys : List ℕ) → Ascends low high xs → Ascends low high ys → ((c : ℕ) → low ≤ c → c < high → has xs c ≡ has ys c) → xs ≡ ys
ascends_same low high [] [] a b same = refl
ascends_same low high [] (y ∷ ys) a b same =
    absurd (false≢true (same y b.0 b.1 ∙ has_first y ys y refl))
ascends_same low high (x ∷ xs) [] a b same =
    absurd (true≢false (sym (has_first x xs x refl) ∙ same x a.0 a.1))
ascends_same low high (x ∷ xs) (y ∷ ys) a b same =
    elim (cases_order x y) [
      | inl e ↦
          let tails : (c : ℕ) → x + 1 ≤ c → c < high → has xs c ≡ has ys c =
          λ c le lt. sym (has_rest x xs c (λ q. omega arith)) ∙ same c (omega (arith, a.0)) lt ∙ has_rest y ys c (λ q. omega arith) in
          let b2 : Ascends (x + 1) high ys = ascends_less (x + 1) (y + 1) high ys (omega arith) b.2 in
          λ i. e i ∷ ascends_same (x + 1) high xs ys a.2 b2 tails i
      | inr o ↦ elim o [
        | inl lt ↦
            absurd (true≢false (sym (has_first x xs x refl) ∙ same x a.0 a.1 ∙ has_rest y ys x (λ e. omega arith) ∙ has_below (y + 1) high ys x b.2 (omega arith)))
        | inr lt ↦
            absurd (true≢false (sym (has_first y ys y refl) ∙ sym (same y b.0 b.1) ∙ has_rest x xs y (λ e. omega arith) ∙ has_below (x + 1) high xs y a.2 (omega arith)))
      ]
    ]

pub cats_same : (a b : List ℕ) → IsCats a → IsCats b → ((c : ℕ) → c < 65535 → has a c ≡ has b c) → a ≡ b
cats_same a b is is2 same = ascends_same 0 65535 a b is is2 (λ c le lt. same c lt)

agree : (x y : Bool) → (x ≡ true → y ≡ true) → (y ≡ true → x ≡ true) → x ≡ y
agree true true f g = refl
agree true false f g = sym (f refl)
agree false true f g = g refl
agree false false f g = refl

-- two sets, each within the other, are one
pub subset_both : (a b : List ℕ) → IsCats a → IsCats b → IsSubset a b → IsSubset b a → a ≡ b
subset_both a b is is2 f g = cats_same a b is is2 (λ c lt. agree (has a c) (has b c) (f c) (g c))

-- ---- the categories that pass a test

pub cats_where-cats : (p : ℕ → Bool) → IsCats (cats_where p)
unfolding cats_where
cats_where-cats p = ascends-filter p 0 65535 (range_with_len 0 65535) (ascends_range 0 65535 0 65535 (omega arith) (omega arith))

pub has-cats_where : (p : ℕ → Bool) (c : ℕ) → c < 65535 → has (cats_where p) c ≡ p c
unfolding cats_where
has-cats_where p c lt = has_filtered_range p 65535 c lt

pub cats_where_is : (cats : List ℕ) (p : ℕ → Bool) → IsCats cats → ((c : ℕ) → c < 65535 → has cats c ≡ p c) → cats ≡ cats_where p
cats_where_is cats p is same =
    cats_same cats (cats_where p) is (cats_where-cats p) (λ c lt. same c lt ∙ sym (has-cats_where p c lt))

pub cats_where_same : (p q : ℕ → Bool) → ((c : ℕ) → c < 65535 → p c ≡ q c) → cats_where p ≡ cats_where q
cats_where_same p q same =
    cats_where_is (cats_where p) q (cats_where-cats p) (λ c lt. has-cats_where p c lt ∙ same c lt)
