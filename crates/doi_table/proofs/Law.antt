-- The laws of src/laws.rt under their names, for the crates above.
use Rattle.std.proofs.Common.{◌≡◌, ℕ, ◌<◌, Bool, true, false, ◌&&◌, cond, nat_eq, List, [], ◌∷◌, ◌++◌, Option, Some, None, Result, Ok, IsTrue, if◌then◌else◌, refl, sym, ap, subst, ◌∙◌}
use Rattle.std.specs.Cmp.{IsEquivalence}
use Rattle.std.specs.List.{IsDistinct}
use Rattle.std.specs.Map.{keys_of, lookup}
use Rattle.std.proofs.lemmas.Bool.{and_parts, eq-eqb, false≢true}
use Rattle.std.proofs.lemmas.Map.{lookup-remove_entry}
use Rattle.std.proofs.lemmas.Map.Views.{exact_unsigned_eq}
use Rattle.mls_label.specs.declared.label.Label.{Label}
use Rattle.mls_label.specs.declared.label.Proto.{Proto}
use Rattle.mls_label.specs.declared.label.Proto.TheVariants.{Cipso, Calipso}
use Rattle.mls_label.specs.Cats.{IsCats}
use Rattle.doi_table.specs.declared.plan.DoiPlan.{DoiPlan}
use Rattle.doi_table.specs.declared.unmapped.Unmapped.{Unmapped}
use Rattle.doi_table.specs.Pairs.{number_by, flipped, is_one_to_one}
use Rattle.doi_table.specs.Definition.{AreBelow, IsDefinition, number_in}
use Rattle.doi_table.specs.Translation.{label_by, wire_label, local_label}
use Rattle.doi_table.specs.GoesBy.{GoesBy}
use Rattle.doi_table.specs.Table.{same_proto, same_doi, definition_of, with_definition, without_definition}
use Rattle.doi_table.proofs.Translations.{number_within}
use Rattle.doi_table.proofs.Kept.{flipped_below}
use Rattle.doi_table.proofs.Back.{one_to_one_back, one_to_one_forth}
use Rattle.doi_table.proofs.Going.{label_made, label_set, goes, comes, goes_back, goes_same}
use Rattle.doi_table.proofs.Tables.{same_doi_flips}

pub pairs_lead_back : (pairs : List (ℕ × ℕ)) (n m : ℕ) → IsTrue (is_one_to_one pairs) → number_by pairs n ≡ Some m → number_by (flipped pairs) m ≡ Some n
pairs_lead_back = one_to_one_back

-- both kinds of pairs of a definition
one_to_one : (plan : DoiPlan) → IsDefinition plan → IsTrue (is_one_to_one plan.levels) × IsTrue (is_one_to_one plan.cats)
one_to_one plan is = and_parts (is_one_to_one plan.levels) (is_one_to_one plan.cats) is.one_to_one

abbrev passed : Label → Result Label Unmapped
passed x = Ok x

passes : (x y : Label) → passed x ≡ passed y → x ≡ y
passes x y h = cc

pub local_undoes_wire : (plan : DoiPlan) (x y : Label) → IsDefinition plan → IsCats x.cats → wire_label plan x ≡ Ok y → local_label plan y ≡ Ok x
local_undoes_wire plan x y is set h = by plan.trans h
  where
    by : (b : Bool) → (if b then label_by plan.levels plan.cats x else Ok x) ≡ Ok y → (if b then label_by (flipped plan.levels) (flipped plan.cats) y else Ok y) ≡ Ok x
    by false h = sym h
    by true h =
        comes (flipped plan.levels) (flipped plan.cats) y x set (goes_back (number_by plan.levels) (number_by plan.cats) (number_by (flipped plan.levels)) (number_by (flipped plan.cats)) x y (λ n m. one_to_one_back plan.levels n m (one_to_one plan is).0) (λ n m. one_to_one_back plan.cats n m (one_to_one plan is).1) (goes plan.levels plan.cats x y is.is_plan.cats h))

pub wire_undoes_local : (plan : DoiPlan) (x y : Label) → IsDefinition plan → IsCats x.cats → local_label plan x ≡ Ok y → wire_label plan y ≡ Ok x
wire_undoes_local plan x y is set h = by plan.trans h
  where
    by : (b : Bool) → (if b then label_by (flipped plan.levels) (flipped plan.cats) x else Ok x) ≡ Ok y → (if b then label_by plan.levels plan.cats y else Ok y) ≡ Ok x
    by false h = sym h
    by true h =
        comes plan.levels plan.cats y x set (goes_back (number_by (flipped plan.levels)) (number_by (flipped plan.cats)) (number_by plan.levels) (number_by plan.cats) x y (λ n m. one_to_one_forth plan.levels n m (one_to_one plan is).0) (λ n m. one_to_one_forth plan.cats n m (one_to_one plan is).1) (goes (flipped plan.levels) (flipped plan.cats) x y (flipped_below 65535 plan.cats is.is_plan.cats) h))

-- whichever way, with or without pairs
goes_in : (trans : Bool) (levels cats : List (ℕ × ℕ)) (x y : Label) → AreBelow 65535 cats → (if trans then label_by levels cats x else Ok x) ≡ Ok y → GoesBy (number_in trans levels) (number_in trans cats) x y
goes_in false levels cats x y below h = goes_same x y (passes x y h)
goes_in true levels cats x y below h = goes levels cats x y below h

is_label_in : (trans : Bool) (levels cats : List (ℕ × ℕ)) (x y : Label) → AreBelow 256 levels → x.level < 256 → IsCats x.cats → (if trans then label_by levels cats x else Ok x) ≡ Ok y → (y.level < 256) × IsCats y.cats
is_label_in false levels cats x y below lt set h =
    let same = passes x y h in
    (subst (λ (z : Label). z.level < 256) same lt, subst (λ (z : Label). IsCats z.cats) same set)
is_label_in true levels cats x y below lt set h =
    (number_within 256 x.level y.level levels below (label_made levels cats x y h).level, label_set levels cats x y h)

pub wire_labels_go_by_numbers : (plan : DoiPlan) (x y : Label) → IsDefinition plan → wire_label plan x ≡ Ok y → GoesBy (number_in plan.trans plan.levels) (number_in plan.trans plan.cats) x y
wire_labels_go_by_numbers plan x y is h = goes_in plan.trans plan.levels plan.cats x y is.is_plan.cats h

pub local_labels_go_by_numbers : (plan : DoiPlan) (x y : Label) → IsDefinition plan → local_label plan x ≡ Ok y → GoesBy (number_in plan.trans (flipped plan.levels)) (number_in plan.trans (flipped plan.cats)) x y
local_labels_go_by_numbers plan x y is h =
    goes_in plan.trans (flipped plan.levels) (flipped plan.cats) x y (flipped_below 65535 plan.cats is.is_plan.cats) h

pub wire_labels_are_labels : (plan : DoiPlan) (x y : Label) → IsDefinition plan → x.level < 256 → IsCats x.cats → wire_label plan x ≡ Ok y → (y.level < 256) × IsCats y.cats
wire_labels_are_labels plan x y is lt set h =
    is_label_in plan.trans plan.levels plan.cats x y is.levels lt set h

pub local_labels_are_labels : (plan : DoiPlan) (x y : Label) → IsDefinition plan → x.level < 256 → IsCats x.cats → local_label plan x ≡ Ok y → (y.level < 256) × IsCats y.cats
local_labels_are_labels plan x y is lt set h =
    is_label_in plan.trans (flipped plan.levels) (flipped plan.cats) x y (flipped_below 256 plan.levels is.levels) lt set h

-- ---- tables

same_proto_is : (a b : Proto) → same_proto a b ≡ true → a ≡ b
same_proto_is Cipso Cipso h = refl
same_proto_is Cipso Calipso h = absurd (false≢true h)
same_proto_is Calipso Cipso h = absurd (false≢true h)
same_proto_is Calipso Calipso h = refl

same_doi_is : (a b : Proto × ℕ) → same_doi a b ≡ true → a ≡ b
same_doi_is a b h =
    let parts = and_parts (same_proto a.0 b.0) (nat_eq a.1 b.1) h in
    let proto = same_proto_is a.0 b.0 parts.0 in
    let doi = exact_unsigned_eq a.1 b.1 parts.1 in
    λ i. (proto i, doi i)

same_proto_self : (a : Proto) → same_proto a a ≡ true
same_proto_self Cipso = refl
same_proto_self Calipso = refl

same_doi_laws : IsEquivalence same_doi
same_doi_laws = record {
  refl = λ a. ap (λ b. b && nat_eq a.1 a.1) (same_proto_self a.0) ∙ eq-eqb a.1 a.1 refl;
  symm = same_doi_flips;
  congr = λ a b d h. ap (λ k. same_doi k d) (same_doi_is a b h);
}

both_absent : {X : Type 0} (b : Bool) (v : X) (rest : Option X) → cond b (Some v) rest ≡ None → (b ≡ false) × (rest ≡ None)
both_absent true v rest h = absurd (cc)
both_absent false v rest h = (refl, h)

found_last : {X : Type 0} (table : List ((Proto × ℕ) × X)) (name other : Proto × ℕ) (x : X) → lookup (same_doi name) table ≡ None → lookup (same_doi other) (table ++ (name, x) ∷ []) ≡ (if same_doi other name then Some x else lookup (same_doi other) table)
found_last [] name other x absent = refl
found_last {X} (e ∷ table) name other x absent =
    let p = both_absent (same_doi name e.0) e.1 (lookup (same_doi name) table) absent in
    (elim (same_doi other e.0) as (λ b. same_doi other e.0 ≡ b → cond b (Some e.1) (lookup (same_doi other) (table ++ (name, x) ∷ [])) ≡ (if same_doi other name then Some x else cond b (Some e.1) (lookup (same_doi other) table))) [
      | true ↦ λ h.
          let apart : same_doi other name ≡ false = ap (λ k. same_doi k name) (same_doi_is other e.0 h) ∙ same_doi_flips e.0 name ∙ p.0 in
          sym (ap (λ b. if b then Some x else Some e.1) apart)
      | false ↦ λ h. found_last table name other x p.1
    ]) refl

pub added_definitions_are_found : (table : List ((Proto × ℕ) × DoiPlan)) (name other : Proto × ℕ) (plan : DoiPlan) → definition_of table name.0 name.1 ≡ None → definition_of (with_definition table name.0 name.1 plan) other.0 other.1 ≡ (if same_doi other name then Some plan else definition_of table other.0 other.1)
added_definitions_are_found table name other plan absent = found_last table name other plan absent

pub deleted_definitions_are_gone : (table : List ((Proto × ℕ) × DoiPlan)) (name other : Proto × ℕ) → IsDistinct same_doi (keys_of table) → definition_of (without_definition table name.0 name.1) other.0 other.1 ≡ (if same_doi name other then None else definition_of table other.0 other.1)
deleted_definitions_are_gone table name other once =
    lookup-remove_entry same_doi_laws (same_doi name) (λ a b h. ap (λ k. same_doi k b) (same_doi_is name a h)) other table once
