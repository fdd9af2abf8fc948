use Rattle.label_flow.specs.Round.{IsLater}
use Rattle.label_flow.proofs.crew.await_answer.Given as goal

abbrev pub invariant-loop : goal.invariant-loop
invariant-loop g l = IsLater l.fn.viewer l.viewer
