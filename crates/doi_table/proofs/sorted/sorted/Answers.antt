use Rattle.std.proofs.Common.{rules, ◌≡◌, ◌+◌, ◌<◌, ℕ, false, ltb, length, get_or, subst, true}
use Rattle.std.specs.List.{AllAdjacentBelow}
use Rattle.std.proofs.lemmas.Fn.{always_returns_same}
use Rattle.std.proofs.lemmas.List.Sorted.{IsNonDecreasingBy-from_sort_by_key}
use Rattle.doi_table.proofs.Sorting.{sorted_rising, not_distinct}
use Rattle.doi_table.proofs.sorted.sorted.Goals as goal

pub returns-then-is_sorted_by-clause-some : goal.returns-then-is_sorted_by-clause-some
returns-then-is_sorted_by-clause-some c =
    let adjacent = c.if-is_sorted_by.ensures.cases (λ x y. ltb x.0 y.0) (always_returns_same _ _ _ (λ a r q k. search rules)) in
    sorted_rising c.args.pairs.items c.sort_unstable_by_key.new.self.items c.sort_unstable_by_key.ensures.permutation (subst (λ xs. AllAdjacentBelow (λ (x y : ℕ × ℕ). true ≡ ltb x.0 y.0) xs (length xs)) c.deref.ensures.value adjacent)

pub returns-else-is_sorted_by-clause-none : goal.returns-else-is_sorted_by-clause-none
returns-else-is_sorted_by-clause-none c =
    let order = IsNonDecreasingBy-from_sort_by_key (λ (p : ℕ × ℕ). p.0) c.sort_unstable_by_key.new.self.items c.sort_unstable_by_key.ensures.sorted (λ a r q k. search rules) in
    let fails = c.if-is_sorted_by.ensures.cases (λ x y. ltb x.0 y.0) (always_returns_same _ _ _ (λ a r q k. search rules)) in
    not_distinct c.args.pairs.items c.sort_unstable_by_key.new.self.items c.sort_unstable_by_key.ensures.permutation order (subst (λ xs. (k : ℕ) × (k + 1 < length xs) × ((d : ℕ × ℕ) → false ≡ ltb (get_or xs k d).0 (get_or xs (k + 1) d).0)) c.deref.ensures.value fails)
