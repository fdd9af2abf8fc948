use Rattle.std.proofs.Common.{◌∙◌, Result, Ok, Err, OnErr, arith}
use Rattle.netlabel_codec.specs.declared.told.NetlabelRun.{NetlabelRun}
use Rattle.netlabel_codec.proofs.Sets.{run_at, next_set}
use Rattle.netlabel_codec.proofs.Crowds.{crowded_by}
use Rattle.netlabel_codec.proofs.runs.add_runs.Goals as goal

-- what the goals read past the runs
abbrev none : NetlabelRun
none = record { first = 0; last = 0 }

on_err : {A E P : Type 0} (result : Result A E) → P → OnErr result P
on_err (Ok done) p = tt
on_err (Err cause) p = p

pub add_run-requires-clause-order : goal.add_run-requires-clause-order
add_run-requires-clause-order c = (run_at 0 c.args.runs.now c.loop-run.run-index none (omega arith) c.requires.ascend).0

pub add_run-requires-clause-categories : goal.add_run-requires-clause-categories
add_run-requires-clause-categories c = (run_at 0 c.args.runs.now c.loop-run.run-index none (omega arith) c.requires.ascend).1

pub returns-in_err-add_run-clause-too_many : goal.returns-in_err-add_run-clause-too_many
returns-in_err-add_run-clause-too_many c =
    on_err c.from_residual.result (crowded_by c.args.runs.now c.loop-run.run-index none c.loop-run.cats 1952 (omega arith) c.requires.ascend c.loop-run.invariant c.in_err-add_run.ensures.too_many)

pub loop-run-preserved : goal.loop-run-preserved
loop-run-preserved c =
    c.in_ok-add_run.ensures.ok ∙ next_set c.args.runs.now c.loop-run.run-index none c.loop-run.cats (omega arith) c.requires.ascend c.loop-run.invariant
