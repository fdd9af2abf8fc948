-- No key has two entries in a table, as entries come and go.
use Rattle.std.proofs.Common.{◌≡◌, ℕ, zero, suc, ◌+◌, ◌<◌, ◌≤◌, Bool, true, false, ◌||◌, not, cond, List, [], ◌∷◌, ◌++◌, length, map, Some, None, is_some, refl, sym, ap, subst, ◌∙◌, arith}
use Rattle.std.specs.Prelude.{nat_lt, count_by, remove, if◌then◌else◌}
use Rattle.std.specs.List.{AllByRecursion, IsDistinct, list_any, position, position_or_len}
use Rattle.std.specs.Map.{keys_of, lookup, remove_entry}
use Rattle.std.proofs.lemmas.Bool.{false≢true, ltb-false}
use Rattle.std.proofs.lemmas.List.{length-append, map-append}
use Rattle.std.proofs.lemmas.List.Sums.{sum_by-cons, sum_by_push}
use Rattle.std.proofs.lemmas.Map.Made.{is_some-lookup}
use Rattle.indexmap.specs.IndexMap.{insert_entry}
use Rattle.node_tables.specs.Valid.{IsTable}
use Rattle.node_tables.proofs.Defined.{all_push}

pub neither : (a b : Bool) → (a || b) ≡ false → (a ≡ false) × (b ≡ false)
neither true b e = absurd (false≢true (sym e))
neither false b e = (refl, e)

-- ---- a list in which nothing stands twice

module _ {X : Type 0} (same : X → X → Bool) where
  -- what goes last is none of those that are there
  pub once_pushed : ((a b : X) → same a b ≡ same b a) → (xs : List X) (x : X) → list_any (same x) xs ≡ false → IsDistinct same xs → IsDistinct same (xs ++ x ∷ [])
  unfolding IsDistinct
  once_pushed flips [] x absent once = (tt, tt)
  once_pushed flips (y ∷ ys) x absent once =
      let apart = neither (same x y) (list_any (same x) ys) absent in
      (all_push (λ z. same y z ≡ false) ys x once.0 (flips y x ∙ apart.0), once_pushed flips ys x apart.1 once.1)

all_removed : {X : Type 0} (P : X → Type 0) (xs : List X) (i : ℕ) → AllByRecursion P xs → AllByRecursion P (remove xs i)
all_removed P [] zero all = tt
all_removed P [] (suc i) all = tt
all_removed P (x ∷ xs) zero all = all.1
all_removed P (x ∷ xs) (suc i) all = (all.0, all_removed P xs i all.1)

pub once_removed : {X : Type 0} (same : X → X → Bool) (xs : List X) (i : ℕ) → IsDistinct same xs → IsDistinct same (remove xs i)
unfolding IsDistinct
once_removed same [] zero once = tt
once_removed same [] (suc i) once = tt
once_removed same (x ∷ xs) zero once = once.1
once_removed same (x ∷ xs) (suc i) once = (all_removed (λ y. same x y ≡ false) xs i once.0, once_removed same xs i once.1)

pub fewer_removed : {X : Type 0} (xs : List X) (i : ℕ) → length (remove xs i) ≤ length xs
fewer_removed [] zero = omega arith
fewer_removed [] (suc i) = omega arith
fewer_removed (x ∷ xs) zero = omega arith
fewer_removed (x ∷ xs) (suc i) = let less = fewer_removed xs i in omega (arith, less)

none_before_end : {X : Type 0} (test : X → Bool) (xs : List X) → length xs ≤ position_or_len test xs → list_any test xs ≡ false
none_before_end test [] le = refl
none_before_end test (x ∷ xs) le =
    (elim (test x) as (λ b. suc (length xs) ≤ cond (not b) (1 + position_or_len test xs) 0 → (b || list_any test xs) ≡ false) [
      | true ↦ λ h. absurd (omega (arith, h))
      | false ↦ λ h. none_before_end test xs (omega (arith, h))
    ]) le

pub none_placed : {X : Type 0} (test : X → Bool) (xs : List X) → is_some (position test xs) ≡ false → list_any test xs ≡ false
none_placed test xs absent =
    (elim (nat_lt (position_or_len test xs) (length xs)) as (λ b. nat_lt (position_or_len test xs) (length xs) ≡ b → is_some (cond b (Some (position_or_len test xs)) None) ≡ false → list_any test xs ≡ false) [
      | true ↦ λ e h. absurd (false≢true (sym h))
      | false ↦ λ e h. none_before_end test xs (ltb-false (position_or_len test xs) (length xs) e)
    ]) refl absent

-- ---- entries with a key and a value

module _ {K V Y : Type 0} (part : K × V → Y) where
  all_without_one : (P : Y → Type 0) (test : K → Bool) (es : List (K × V)) → AllByRecursion P (map part es) → AllByRecursion P (map part (remove_entry test es))
  all_without_one P test [] all = tt
  all_without_one P test (e ∷ es) all =
      elim (test e.0) as (λ b. AllByRecursion P (map part (cond b es (e ∷ remove_entry test es)))) [
        | true ↦ all.1
        | false ↦ (all.0, all_without_one P test es all.1)
      ]

  -- keys, or values
  pub once_without : (same : Y → Y → Bool) (test : K → Bool) (es : List (K × V)) → IsDistinct same (map part es) → IsDistinct same (map part (remove_entry test es))
  unfolding IsDistinct
  once_without same test [] once = tt
  once_without same test (e ∷ es) once =
      elim (test e.0) as (λ b. IsDistinct same (map part (cond b es (e ∷ remove_entry test es)))) [
        | true ↦ once.1
        | false ↦ (all_without_one (λ y. same (part e) y ≡ false) test es once.0, once_without same test es once.1)
      ]

pub fewer_without : {K V : Type 0} (test : K → Bool) (es : List (K × V)) → length (remove_entry test es) ≤ length es
fewer_without test [] = omega arith
fewer_without test (e ∷ es) =
    let less = fewer_without test es in
    elim (test e.0) as (λ b. length (cond b es (e ∷ remove_entry test es)) ≤ suc (length es)) [
      | true ↦ omega arith
      | false ↦ omega (arith, less)
    ]

-- a key that is there keeps its place
pub keys_stay : {K V : Type 0} (same : K → K → Bool) (es : List (K × V)) (key : K) (was is : V) → lookup (same key) es ≡ Some was → keys_of (insert_entry same es key is) ≡ keys_of es
keys_stay same [] key was is found = absurd (cc)
keys_stay {K} {V} same (e ∷ es) key was is found =
    (elim (same key e.0) as (λ b. cond b (Some e.1) (lookup (same key) es) ≡ Some was → keys_of (if b then (e.0, is) ∷ es else e ∷ insert_entry same es key is) ≡ e.0 ∷ keys_of es) [
      | true ↦ λ f. refl
      | false ↦ λ f. ap (λ (ks : List K). e.0 ∷ ks) (keys_stay same es key was is f)
    ]) found

-- ---- how many there are of a kind

pub count_pushed : {X : Type 0} (test : X → Bool) (xs : List X) (x : X) → count_by test (xs ++ x ∷ []) ≡ count_by test xs + cond (test x) 1 0
count_pushed test xs x = sum_by_push (λ y. cond (test y) 1 0) xs x

pub count_without : {K V : Type 0} (kind test : K → Bool) (es : List (K × V)) → count_by kind (keys_of (remove_entry test es)) ≤ count_by kind (keys_of es)
count_without kind test [] = omega arith
count_without {K} kind test (e ∷ es) =
    let one = λ (key : K). cond {A = ℕ} (kind key) 1 0 in
    let whole : count_by kind (e.0 ∷ keys_of es) ≡ cond (kind e.0) 1 0 + count_by kind (keys_of es) = sum_by-cons one e.0 (keys_of es) in
    let left : count_by kind (e.0 ∷ keys_of (remove_entry test es)) ≡ cond (kind e.0) 1 0 + count_by kind (keys_of (remove_entry test es)) = sum_by-cons one e.0 (keys_of (remove_entry test es)) in
    let less = count_without kind test es in
    elim (test e.0) as (λ b. count_by kind (keys_of (cond b es (e ∷ remove_entry test es))) ≤ count_by kind (e.0 ∷ keys_of es)) [
      | true ↦ omega (arith, whole)
      | false ↦ omega (arith, whole, left, less)
    ]

-- ---- tables

module _ {K V : Type 0} (same : K → K → Bool) (most : ℕ) where
  pub table_none : IsTable {K = K} {V = V} same most []
  unfolding IsDistinct
  table_none = record { once = tt; few = omega arith }

  pub table_pushed : ((a b : K) → same a b ≡ same b a) → (entries : List (K × V)) (key : K) (value : V) → is_some (lookup (same key) entries) ≡ false → length entries < most → IsTable same most entries → IsTable same most (entries ++ (key, value) ∷ [])
  table_pushed flips entries key value absent few is = record {
    once = subst (IsDistinct same) (sym (map-append (λ (e : K × V). e.0) entries ((key, value) ∷ []))) (once_pushed same flips (keys_of entries) key (sym (is_some-lookup (same key) entries) ∙ absent) is.once);
    few = let long = length-append entries ((key, value) ∷ []) in omega (arith, few, long);
  }

  pub table_without : (test : K → Bool) (entries : List (K × V)) → IsTable same most entries → IsTable same most (remove_entry test entries)
  table_without test entries is = record {
    once = once_without (λ (e : K × V). e.0) same test entries is.once;
    few = let less = fewer_without test entries in let few = is.few in omega (arith, few, less);
  }
