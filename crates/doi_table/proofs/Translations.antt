-- A walk gives the label of the definition.
use Rattle.std.proofs.Common.{◌≡◌, ℕ, ◌<◌, Bool, true, false, ◌||◌, cond, nat_eq, List, [], ◌∷◌, Option, Some, None, Ok, Err, is_none, refl, sym, ap, ◌∙◌, arith, inl, inr}
use Rattle.std.specs.List.{find, filter_map, cons_option}
use Rattle.std.proofs.lemmas.List.Elements.{All-head, All-tail}
use Rattle.std.proofs.lemmas.Bool.{cases_eq}
use Rattle.std.proofs.lemmas.Bool.Decides.{nat_tests}
use Rattle.mls_label.specs.declared.label.Label.{Label}
use Rattle.mls_label.specs.Cats.{has, is_within, cats_where, IsCats}
use Rattle.mls_label.proofs.Law.{tests_give_sets, sets_of_a_test_have_what_passes, sets_are_what_they_have, equal_tests_give_equal_sets}
use Rattle.doi_table.specs.declared.unmapped.Unmapped.TheVariants.{Level, Category}
use Rattle.doi_table.specs.Pairs.{number_by}
use Rattle.doi_table.specs.Definition.{AreBelow}
use Rattle.doi_table.specs.Translation.{first_unmapped, mapped_cats, mapped_label, label_by}
use Rattle.doi_table.specs.inside.Walk.{joined, walk}
use Rattle.doi_table.proofs.Lookups.{number_here, number_behind}
use Rattle.doi_table.proofs.Walks.{walk_step, walk_stop}

-- what a walk leaves, where it comes to the end
pub record Walked (f : ℕ → Option ℕ) (cats set out : List ℕ) : Type 0 where
  pub all : find (λ c. is_none (f c)) cats ≡ None
  pub made : out ≡ cats_where (λ k. has set k || has (filter_map f cats) k)

one_joined : (a b c : Bool) (k d : ℕ) → a ≡ (b || is_within d d k) → (a || c) ≡ (b || (nat_eq k d || c))
one_joined a b c k d e =
    elim (cases_eq k d) [
      | inl same ↦ grind (arith, nat_tests)
      | inr other ↦ grind (arith, nat_tests)
    ]

walked_here : (f : ℕ → Option ℕ) (c d : ℕ) (cats set out : List ℕ) → f c ≡ Some d → Walked f cats (joined set d) out → Walked f (c ∷ cats) set out
walked_here f c d cats set out e rest = record {
  all = ap (λ r. cond (is_none r) (Some c) (find (λ k. is_none (f k)) cats)) e ∙ rest.all;
  made = rest.made
      ∙ equal_tests_give_equal_sets _ _ (λ k lt. one_joined (has (joined set d) k) (has set k) (has (filter_map f cats) k) k d (sets_of_a_test_have_what_passes _ k lt))
      ∙ ap (λ r. cats_where (λ k. has set k || has (cons_option r (filter_map f cats)) k)) (sym e);
}

or_none : (a : Bool) → a ≡ (a || false)
or_none true = refl
or_none false = refl

pub walk_ok : (f : ℕ → Option ℕ) (cats set out : List ℕ) → IsCats set → walk f cats set ≡ Ok out → Walked f cats set out
walk_ok f [] set out is h =
    let same : out ≡ set = cc in
    record { all = refl; made = same ∙ sets_are_what_they_have set (λ k. has set k || false) is (λ k lt. or_none (has set k)) }
walk_ok f (c ∷ cats) set out is h =
    (elim (f c) as (λ r. f c ≡ r → Walked f (c ∷ cats) set out) [
      | None ↦ λ e. let no : Err c ≡ Ok out = sym (walk_stop f c cats set e) ∙ h in absurd (cc)
      | Some d ↦ λ e. walked_here f c d cats set out e (walk_ok f cats (joined set d) out (tests_give_sets _) (sym (walk_step f c d cats set e) ∙ h))
    ]) refl

pub walk_err : (f : ℕ → Option ℕ) (cats set : List ℕ) (x : ℕ) → walk f cats set ≡ Err x → find (λ c. is_none (f c)) cats ≡ Some x
walk_err f [] set x h = absurd (cc)
walk_err f (c ∷ cats) set x h =
    (elim (f c) as (λ r. f c ≡ r → find (λ k. is_none (f k)) (c ∷ cats) ≡ Some x) [
      | None ↦ λ e.
          let stop : Err c ≡ Err x = sym (walk_stop f c cats set e) ∙ h in
          let same : c ≡ x = cc in
          ap (λ r. cond (is_none r) (Some c) (find (λ k. is_none (f k)) cats)) e ∙ ap Some same
      | Some d ↦ λ e.
          ap (λ r. cond (is_none r) (Some c) (find (λ k. is_none (f k)) cats)) e ∙ walk_err f cats (joined set d) x (sym (walk_step f c d cats set e) ∙ h)
    ]) refl

-- ---- the label

pub label_ok : (levels cats : List (ℕ × ℕ)) (label : Label) (level : ℕ) (set : List ℕ) → number_by levels label.level ≡ Some level → walk (number_by cats) label.cats [] ≡ Ok set → label_by levels cats label ≡ Ok (record { level = level; cats = set })
label_ok levels cats label level set at walks =
    let walked = walk_ok (number_by cats) label.cats [] set tt walks in
    ap (λ l. mapped_label l (first_unmapped cats label.cats) (mapped_cats cats label.cats)) at
    ∙ ap (λ u. mapped_label (Some level) u (mapped_cats cats label.cats)) walked.all
    ∙ ap (λ s. mapped_label (Some level) None s) (sym walked.made)

pub label_category : (levels cats : List (ℕ × ℕ)) (label : Label) (level c : ℕ) → number_by levels label.level ≡ Some level → walk (number_by cats) label.cats [] ≡ Err c → label_by levels cats label ≡ Err (Category c)
label_category levels cats label level c at walks =
    ap (λ l. mapped_label l (first_unmapped cats label.cats) (mapped_cats cats label.cats)) at
    ∙ ap (λ u. mapped_label (Some level) u (mapped_cats cats label.cats)) (walk_err (number_by cats) label.cats [] c walks)

pub label_level : (levels cats : List (ℕ × ℕ)) (label : Label) → number_by levels label.level ≡ None → label_by levels cats label ≡ Err Level
label_level levels cats label none =
    ap (λ l. mapped_label l (first_unmapped cats label.cats) (mapped_cats cats label.cats)) none

-- a level that the pairs give is below their bound
pub number_within : (bound n m : ℕ) (pairs : List (ℕ × ℕ)) → AreBelow bound pairs → number_by pairs n ≡ Some m → m < bound
number_within bound n m [] below e = absurd (cc)
number_within bound n m (p ∷ pairs) below e =
    elim (cases_eq n p.0) [
      | inl here ↦ let same : p.1 ≡ m = let is : Some p.1 ≡ Some m = sym (number_here p pairs n here) ∙ e in cc in omega (arith, (All-head (λ (q : ℕ × ℕ). (q.0 < bound) × (q.1 < bound)) p pairs below).1)
      | inr ne ↦ number_within bound n m pairs (All-tail (λ (q : ℕ × ℕ). (q.0 < bound) × (q.1 < bound)) p pairs below) (sym (number_behind p pairs n ne) ∙ e)
    ]

-- what a look-up at an equal number found
pub number_at : (pairs : List (ℕ × ℕ)) (n from m : ℕ) (r : Option ℕ) → r ≡ number_by pairs from → from ≡ n → r ≡ Some m → number_by pairs n ≡ Some m
number_at pairs n from m r found same is = ap (number_by pairs) (sym same) ∙ sym found ∙ is
