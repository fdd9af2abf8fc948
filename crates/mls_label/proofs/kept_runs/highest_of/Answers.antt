use Rattle.std.proofs.Common.{◌-◌, ◌<◌, length, arith}
use Rattle.mls_label.proofs.Inside.{got_at, highest_has, highest_bounds}
use Rattle.mls_label.proofs.kept_runs.highest_of.Goals as goal

pub returns : goal.returns
returns c =
    let runs = c.args.runs.now in
    let r = c.in_ok-run.run'.now in
    let at = got_at runs (length runs - 1) r c.in_ok-run.ensures.value in
    let some : 0 < length runs = omega (arith, at.0) in
    (highest_has runs r c.requires some at.1, λ d e. highest_bounds runs r d c.requires some at.1 e)
