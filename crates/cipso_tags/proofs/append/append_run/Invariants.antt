use Rattle.std.proofs.Common.{◌≡◌, ◌-◌, ◌++◌}
use Rattle.std.specs.List.{range_with_len}
use Rattle.cipso_tags.specs.Body.{words}
use Rattle.cipso_tags.proofs.append.append_run.Given as goal

abbrev pub invariant-loop-category : goal.invariant-loop-category
invariant-loop-category g l = l.out.items ≡ l.fn.out.items ++ words (range_with_len l.first (l.category - l.first))
