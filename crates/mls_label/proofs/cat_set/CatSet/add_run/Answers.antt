use Rattle.std.proofs.Common.{length, OnOk, Result, Ok, Err, ap, arith}
use Rattle.std.proofs.lemmas.Result.{on_ok_weaker, on_err_weaker}
use Rattle.mls_label.specs.Runs.{runs_of}
use Rattle.mls_label.proofs.Runs.{length-runs_of}
use Rattle.mls_label.proofs.cat_set.CatSet.add_run.Goals as goal

on_ok_both : {T E P Q R : Type 0} (r : Result T E) → (P → Q → R) → OnOk r P → OnOk r Q → OnOk r R
on_ok_both (Ok x) f p q = f p q
on_ok_both (Err e) f p q = tt

pub returns-clause-few : goal.returns-clause-few
returns-clause-few c =
    on_ok_weaker c.join.result (λ k. omega (arith, k.few, length-runs_of 0 c.join.new.runs k.apart)) c.join.ensures.kept

pub returns-clause-one_more : goal.returns-clause-one_more
returns-clause-one_more c =
    let old = length-runs_of 0 c.self.inside.runs c.self.invariant.apart in
    on_ok_both c.join.result (λ k more. omega (arith, more, old, length-runs_of 0 c.join.new.runs k.apart, ap (λ s. length (runs_of s)) c.self.view_is)) c.join.ensures.kept c.join.ensures.one_more

pub returns-clause-full : goal.returns-clause-full
returns-clause-full c = on_err_weaker c.join.result (λ full. omega (arith, full, length-runs_of 0 c.self.inside.runs c.self.invariant.apart, ap (λ s. length (runs_of s)) c.self.view_is)) c.join.ensures.full
