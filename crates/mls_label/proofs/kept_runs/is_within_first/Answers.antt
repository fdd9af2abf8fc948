use Rattle.std.proofs.Common.{arith}
use Rattle.std.proofs.lemmas.Bool.{leb-true}
use Rattle.mls_label.proofs.Inside.{inside_first}
use Rattle.mls_label.proofs.kept_runs.is_within_first.Goals as goal

pub returns-then-cover-first : goal.returns-then-cover-first
returns-then-cover-first c =
    λ below. inside_first c.args.inner.now c.args.outer.now (record { first = 0; last = 0 }) c.requires (omega arith) (omega arith) c.if-cover-first.true (leb-true _ _ below)
