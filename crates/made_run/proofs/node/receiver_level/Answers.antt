use Rattle.std.proofs.Common.{ℕ, List, ap}
use Rattle.mls_label.specs.declared.label.Label.{Label}
use Rattle.made_run.proofs.Commands.{run_is}
use Rattle.made_run.proofs.node.receiver_level.Goals as goal

pub returns : goal.returns
returns c =
    let cats = run_is c.insert_run.new.self (rw c.lowest-level.ensures at c.insert_run.ensures.cats) in
    ap (λ (cs : List ℕ). let level : Label = record { level = 2; cats = cs } in level) cats
