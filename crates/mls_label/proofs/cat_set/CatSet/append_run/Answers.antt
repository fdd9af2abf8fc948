use Rattle.std.proofs.Common.{length, ap, arith}
use Rattle.mls_label.specs.Runs.{runs_of}
use Rattle.mls_label.proofs.Runs.{length-runs_of}
use Rattle.mls_label.proofs.cat_set.CatSet.append_run.Goals as goal

pub append-requires-clause-room : goal.append-requires-clause-room
append-requires-clause-room c = omega (arith, c.requires.room, length-runs_of 0 c.self.inside.runs c.self.invariant.apart, ap (λ s. length (runs_of s)) c.self.view_is)

pub returns-clause-one_more : goal.returns-clause-one_more
returns-clause-one_more c =
    let old = length-runs_of 0 c.self.inside.runs c.self.invariant.apart in
    omega (arith, c.append.ensures.one_more, old, length-runs_of 0 c.append.new.runs c.append.ensures.kept.apart, ap (λ s. length (runs_of s)) c.self.view_is)
