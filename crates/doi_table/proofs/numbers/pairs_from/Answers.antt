use Rattle.std.proofs.Common.{rules, ◌≡◌, ℕ, ◌<◌, true, false, ltb, sym, ap, subst, ◌∙◌}
use Rattle.std.specs.List.Sorted.{IsPartitionPoint}
use Rattle.std.proofs.lemmas.Bool.{ltb-true, ltb-false}
use Rattle.std.proofs.lemmas.List.{take_rest}
use Rattle.std.proofs.lemmas.List.Elements.{All-drop}
use Rattle.std.proofs.lemmas.List.Sorted.{IsPartitionPoint-from_clause, IsPartitionedBy-ltb}
use Rattle.doi_table.specs.Pairs.{number_by}
use Rattle.doi_table.specs.Definition.{AreBelow}
use Rattle.doi_table.specs.inside.Sorted.{AreRising}
use Rattle.doi_table.proofs.Lookups.{firsts_rise, rising_from, number_from}
use Rattle.doi_table.proofs.numbers.pairs_from.Goals as goal

point : (c : goal.After-result-1) → IsPartitionPoint (λ (p : ℕ × ℕ). ltb p.0 c.args.n ≡ true) (λ (p : ℕ × ℕ). ltb p.0 c.args.n ≡ false) c.args.pairs.now c.partition_point-place.result
point c =
    let parted = IsPartitionedBy-ltb (λ (p : ℕ × ℕ). p.0) c.args.pairs.now c.args.n (firsts_rise 0 c.args.pairs.now c.requires) in
    IsPartitionPoint-from_clause (λ (p : ℕ × ℕ). ltb p.0 c.args.n) _ _ c.partition_point-place.ensures.partitioned parted (λ a r q k. search rules)

pub returns-clause-rising : goal.returns-clause-rising
returns-clause-rising c =
    let pairs = c.args.pairs.now in
    let place = c.partition_point-place.result in
    subst (AreRising c.args.n) (sym (take_rest pairs place)) (rising_from 0 c.args.n place pairs c.requires c.partition_point-place.ensures.bound (λ k d lo hi. ltb-false _ _ ((point c).1 k d lo hi)))

pub returns-clause-below : goal.returns-clause-below
returns-clause-below c =
    let pairs = c.args.pairs.now in
    let place = c.partition_point-place.result in
    λ bound below. subst (AreBelow bound) (sym (take_rest pairs place)) (All-drop (λ (p : ℕ × ℕ). (p.0 < bound) × (p.1 < bound)) place pairs below)

pub returns-clause-same : goal.returns-clause-same
returns-clause-same c =
    let pairs = c.args.pairs.now in
    let place = c.partition_point-place.result in
    λ m le. number_from c.args.n m place pairs c.partition_point-place.ensures.bound (λ k d lo hi. ltb-true _ _ ((point c).0 k d lo hi)) le ∙ ap (λ ps. number_by ps m) (sym (take_rest pairs place))
