use Rattle.std.proofs.Common.{arith}
use Rattle.ripso_border.proofs.InSteps.{fault_at}
use Rattle.ripso_border.proofs.entering.option_said.Goals as goal

pub overflow_add-result : goal.overflow_add-result
overflow_add-result c =
    let low = fault_at c.args.view.now.others c.in-Some.place c.in-Some.option.now c.in-Err.fault c.requires (rw c.in-Some.is at c.others-second.ensures.first) c.in-Err.ensures.err in
    omega (arith, low)
