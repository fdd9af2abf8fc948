use Rattle.std.proofs.Common.{◌≡◌, true, false, leb, rules}
use Rattle.std.specs.List.Sorted.{IsPartitionPoint}
use Rattle.std.proofs.lemmas.Bool.{leb-true, leb-false}
use Rattle.std.proofs.lemmas.List.Sorted.{IsPartitionPoint-from_clause, IsPartitionedBy-leb}
use Rattle.mls_label.specs.declared.cat_set.Run.{Run}
use Rattle.mls_label.proofs.Splice.{firsts_rise}
use Rattle.mls_label.proofs.kept_runs.begin_by.Goals as goal

point : (c : goal.After-partition_point) → IsPartitionPoint (λ (r : Run). leb r.first c.args.bound ≡ true) (λ (r : Run). leb r.first c.args.bound ≡ false) c.args.runs.now c.partition_point.result
point c =
    let parted = IsPartitionedBy-leb (λ (r : Run). r.first) c.args.runs.now c.args.bound (firsts_rise 0 c.args.runs.now c.requires) in
    IsPartitionPoint-from_clause (λ (r : Run). leb r.first c.args.bound) _ _ c.partition_point.ensures.partitioned parted (λ a r q k. search rules)

pub returns-clause-by_bound : goal.returns-clause-by_bound
returns-clause-by_bound c = λ k d lo hi. leb-true _ _ ((point c).0 k d lo hi)

pub returns-clause-others : goal.returns-clause-others
returns-clause-others c = λ k d lo hi. leb-false _ _ ((point c).1 k d lo hi)
