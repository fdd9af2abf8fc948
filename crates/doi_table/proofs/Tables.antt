-- A table of definitions as the map that keeps it.
use Rattle.std.proofs.Common.{◌≡◌, ℕ, zero, suc, ◌+◌, Bool, true, false, ◌&&◌, nat_eq, cond, if◌then◌else◌, List, [], ◌∷◌, ◌++◌, Some, None, refl, sym, ap, subst, ◌∙◌, arith, inl, inr, take, slice_get}
use Rattle.std.specs.Map.{keys_of, lookup}
use Rattle.std.specs.List.{AllByRecursion, IsDistinct}
use Rattle.std.proofs.lemmas.Bool.{cases_eq, eq-eqb, ne_eqb}
use Rattle.std.proofs.lemmas.Map.Keys.{IsDistinct-head, IsDistinct-tail}
use Rattle.mls_label.specs.declared.label.Proto.{Proto}
use Rattle.mls_label.specs.declared.label.Proto.TheVariants.{Cipso, Calipso}
use Rattle.mls_label.specs.contracts.label.ProtoPartialEq.TheImpl.{ghosts}
use Rattle.indexmap.specs.IndexMap.{insert_entry}
use Rattle.doi_table.specs.declared.plan.DoiPlan.{DoiPlan}
use Rattle.doi_table.specs.Table.{same_proto, same_doi, definition_of, with_definition}

-- a name that the table doesn't have goes last
pub inserted_last : {K X : Type 0} (eq : K → K → Bool) (k : K) (x : X) (table : List (K × X)) → lookup (eq k) table ≡ None → insert_entry eq table k x ≡ table ++ (k, x) ∷ []
inserted_last eq k x [] h = refl
inserted_last {K} {X} eq k x (e ∷ table) h =
    (elim (eq k e.0) as (λ b. cond b (Some e.1) (lookup (eq k) table) ≡ None → (if b then (e.0, x) ∷ table else e ∷ insert_entry eq table k x) ≡ e ∷ table ++ (k, x) ∷ []) [
      | true ↦ λ g. absurd (cc)
      | false ↦ λ g. ap (λ es. e ∷ es) (inserted_last eq k x table g)
    ]) h

-- the map compares names as the definitions do
abbrev pub map_eq : Proto × ℕ → Proto × ℕ → Bool
map_eq a b = ghosts.eq a.0 b.0 && nat_eq a.1 b.1

pub map_eq_is : (a b : Proto × ℕ) → map_eq a b ≡ same_doi a b
map_eq_is a b = ap (λ s. s && nat_eq a.1 b.1) (proto_eq_is a.0 b.0)
  where
    proto_eq_is : (a b : Proto) → ghosts.eq a b ≡ same_proto a b
    proto_eq_is Cipso Cipso = refl
    proto_eq_is Cipso Calipso = refl
    proto_eq_is Calipso Cipso = refl
    proto_eq_is Calipso Calipso = refl

pub added : (entries old new : List ((Proto × ℕ) × DoiPlan)) (proto : Proto) (doi : ℕ) (plan : DoiPlan) → definition_of old proto doi ≡ None → entries ≡ old → new ≡ insert_entry map_eq entries (proto, doi) plan → new ≡ with_definition old proto doi plan
added entries old new proto doi plan absent kept inserted =
    inserted
    ∙ ap (λ es. insert_entry map_eq es (proto, doi) plan) kept
    ∙ (λ i. insert_entry (λ a b. map_eq_is a b i) old (proto, doi) plan)
    ∙ inserted_last same_doi (proto, doi) plan old absent

-- ---- the entries before a place

same_proto_flips : (a b : Proto) → same_proto a b ≡ same_proto b a
same_proto_flips Cipso Cipso = refl
same_proto_flips Cipso Calipso = refl
same_proto_flips Calipso Cipso = refl
same_proto_flips Calipso Calipso = refl

nat_eq_flips : (x y : ℕ) → nat_eq x y ≡ nat_eq y x
nat_eq_flips x y =
    elim (cases_eq x y) [
      | inl e ↦ eq-eqb x y e ∙ sym (eq-eqb y x (sym e))
      | inr ne ↦ ne_eqb x y ne ∙ sym (ne_eqb y x (λ e. ne (sym e)))
    ]

pub same_doi_flips : (a b : Proto × ℕ) → same_doi a b ≡ same_doi b a
same_doi_flips a b = λ i. same_proto_flips a.0 b.0 i && nat_eq_flips a.1 b.1 i

module _ {K X : Type 0} (eq : K → K → Bool) (flips : (a b : K) → eq a b ≡ eq b a) where
  apart_at : (k : K) (table : List (K × X)) (i : ℕ) (e : K × X) → AllByRecursion (λ y. eq k y ≡ false) (keys_of table) → slice_get table i ≡ Some e → eq k e.0 ≡ false
  apart_at k [] i e apart at = absurd (cc)
  apart_at k (x ∷ table) zero e apart at = let same : x ≡ e = cc in subst (λ (y : K × X). eq k y.0 ≡ false) same apart.0
  apart_at k (x ∷ table) (suc i) e apart at = apart_at k table i e apart.1 at

  -- an entry's name doesn't stand before it
  pub absent_before : (table : List (K × X)) (i : ℕ) (e : K × X) → IsDistinct eq (keys_of table) → slice_get table i ≡ Some e → lookup (eq e.0) (take i table) ≡ None
  absent_before [] i e once at = absurd (cc)
  absent_before (x ∷ table) zero e once at = refl
  absent_before (x ∷ table) (suc i) e once at =
      let other : eq e.0 x.0 ≡ false = flips e.0 x.0 ∙ apart_at x.0 table i e (IsDistinct-head eq x.0 (keys_of table) once) at in
      ap (λ b. cond b (Some x.1) (lookup (eq e.0) (take i table))) other ∙ absent_before table i e (IsDistinct-tail eq x.0 (keys_of table) once) at

pub take_next : {X : Type 0} (xs : List X) (i : ℕ) (x : X) → slice_get xs i ≡ Some x → take (i + 1) xs ≡ take i xs ++ x ∷ []
take_next [] i x at = absurd (cc)
take_next (y ∷ xs) zero x at = let same : y ≡ x = cc in ap (λ z. z ∷ []) same
take_next (y ∷ xs) (suc i) x at =
    let more : suc i + 1 ≡ suc (i + 1) = omega arith in
    ap (λ n. take n (y ∷ xs)) more ∙ ap (λ zs. y ∷ zs) (take_next xs i x at)

pub copied_next : (table copy new : List ((Proto × ℕ) × DoiPlan)) (i : ℕ) (proto : Proto) (doi : ℕ) (plan def : DoiPlan) → slice_get table i ≡ Some ((proto, doi), plan) → copy ≡ take i table → def ≡ plan → new ≡ with_definition copy proto doi def → new ≡ take (i + 1) table
copied_next table copy new i proto doi plan def at so_far same added =
    added ∙ (λ j. so_far j ++ ((proto, doi), same j) ∷ []) ∙ sym (take_next table i ((proto, doi), plan) at)
