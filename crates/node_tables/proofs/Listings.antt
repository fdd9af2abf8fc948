-- Lines of listings, one after another.
use Rattle.std.proofs.Common.{◌≡◌, ℕ, zero, suc, ◌+◌, List, [], ◌∷◌, ◌++◌, take, map, filter, slice_get, Some, sym, ap, subst, ◌∙◌, arith, append_assoc}
use Rattle.std.specs.List.{AllByRecursion}
use Rattle.std.proofs.lemmas.List.{map-append}
use Rattle.std.proofs.lemmas.List.Elements.{filter-append}
use Rattle.mls_label.specs.declared.label.Proto.{Proto}
use Rattle.doi_table.specs.declared.plan.DoiPlan.{DoiPlan}
use Rattle.doi_table.specs.Table.{Entries, same_proto}
use Rattle.node_tables.specs.Listing.{definition_line, definition_lines}

pub take_next : {X : Type 0} (xs : List X) (i : ℕ) (x : X) → slice_get xs i ≡ Some x → take (i + 1) xs ≡ take i xs ++ x ∷ []
take_next [] i x at = absurd (cc)
take_next (y ∷ xs) zero x at = let same : y ≡ x = cc in ap (λ z. z ∷ []) same
take_next (y ∷ xs) (suc i) x at =
    let more : suc i + 1 ≡ suc (i + 1) = omega arith in
    ap (λ n. take n (y ∷ xs)) more ∙ ap (λ zs. y ∷ zs) (take_next xs i x at)

pub all_at : {X : Type 0} (P : X → Type 0) (xs : List X) (i : ℕ) (x : X) → AllByRecursion P xs → slice_get xs i ≡ Some x → P x
all_at P [] i x all at = absurd (cc)
all_at P (y ∷ xs) zero x all at = let same : y ≡ x = cc in subst P same all.0
all_at P (y ∷ xs) (suc i) x all at = all_at P xs i x all.1 at

-- one more line
pub listed_next : {X : Type 0} (line_of : X → List ℕ) (xs : List X) (i : ℕ) (x : X) (before so_far new : List (List ℕ)) → slice_get xs i ≡ Some x
    → so_far ≡ before ++ map line_of (take i xs) → new ≡ so_far ++ line_of x ∷ [] → new ≡ before ++ map line_of (take (i + 1) xs)
listed_next line_of xs i x before so_far new at so added =
    added
    ∙ ap (λ ls. ls ++ line_of x ∷ []) so
    ∙ append_assoc before (map line_of (take i xs)) (line_of x ∷ [])
    ∙ ap (λ ls. before ++ ls) (sym (map-append line_of (take i xs) (x ∷ [])) ∙ ap (map line_of) (sym (take_next xs i x at)))

-- and one more of a protocol's definitions, or none
pub definitions_next : (entries : Entries) (proto : Proto) (i : ℕ) (e : (Proto × ℕ) × DoiPlan) (so_far new : List (List ℕ)) → slice_get entries i ≡ Some e
    → so_far ≡ definition_lines (take i entries) proto → new ≡ so_far ++ definition_lines (e ∷ []) proto → new ≡ definition_lines (take (i + 1) entries) proto
definitions_next entries proto i e so_far new at so added =
    let is_of = λ (d : (Proto × ℕ) × DoiPlan). same_proto proto d.0.0 in
    added
    ∙ ap (λ ls. ls ++ definition_lines (e ∷ []) proto) so
    ∙ sym (map-append definition_line (filter is_of (take i entries)) (filter is_of (e ∷ [])))
    ∙ ap (map definition_line) (sym (filter-append is_of (take i entries) (e ∷ [])))
    ∙ ap (λ es. definition_lines es proto) (sym (take_next entries i e at))
