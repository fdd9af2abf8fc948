use Rattle.std.proofs.Common.{ap, subst, length, arith}
use Rattle.mls_label.specs.Cats.{IsCats}
use Rattle.mls_label.specs.Runs.{runs_of}
use Rattle.mls_label.proofs.Runs.{length-runs_of, ascends-cats_of}
use Rattle.mls_label.proofs.cat_set.CatSet.runs.Goals as goal

pub returns-clause-count : goal.returns-clause-count
returns-clause-count c =
    omega (arith, c.len.ensures, length-runs_of 0 c.self.inside.runs c.self.invariant.apart, ap (λ s. length (runs_of s)) c.self.view_is)

pub returns-clause-categories : goal.returns-clause-categories
returns-clause-categories c = subst IsCats c.self.view_is (ascends-cats_of 0 c.self.inside.runs c.self.invariant.apart)
