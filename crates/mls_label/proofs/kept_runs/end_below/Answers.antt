use Rattle.std.proofs.Common.{◌≡◌, true, false, ltb, rules}
use Rattle.std.specs.List.Sorted.{IsPartitionPoint}
use Rattle.std.proofs.lemmas.Bool.{ltb-true, ltb-false}
use Rattle.std.proofs.lemmas.List.Sorted.{IsPartitionPoint-from_clause, IsPartitionedBy-ltb}
use Rattle.mls_label.specs.declared.cat_set.Run.{Run}
use Rattle.mls_label.proofs.Splice.{lasts_rise}
use Rattle.mls_label.proofs.kept_runs.end_below.Goals as goal

point : (c : goal.After-partition_point) → IsPartitionPoint (λ (r : Run). ltb r.last c.args.bound ≡ true) (λ (r : Run). ltb r.last c.args.bound ≡ false) c.args.runs.now c.partition_point.result
point c =
    let parted = IsPartitionedBy-ltb (λ (r : Run). r.last) c.args.runs.now c.args.bound (lasts_rise 0 c.args.runs.now c.requires) in
    IsPartitionPoint-from_clause (λ (r : Run). ltb r.last c.args.bound) _ _ c.partition_point.ensures.partitioned parted (λ a r q k. search rules)

pub returns-clause-below : goal.returns-clause-below
returns-clause-below c = λ k d lo hi. ltb-true _ _ ((point c).0 k d lo hi)

pub returns-clause-others : goal.returns-clause-others
returns-clause-others c = λ k d lo hi. ltb-false _ _ ((point c).1 k d lo hi)
