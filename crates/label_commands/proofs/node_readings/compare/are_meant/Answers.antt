use Rattle.std.proofs.Common.{refl, arith}
use Rattle.std.proofs.lemmas.Bool.{false≢true}
use Rattle.label_commands.proofs.node_readings.Meanings.{in_run, of_run}
use Rattle.label_commands.proofs.node_readings.compare.are_meant.Goals as goal

pub returns-then-not-is_run_meant : goal.returns-then-not-is_run_meant
returns-then-not-is_run_meant c = (
  λ on. absurd (false≢true on),
  λ are. c.if-not-is_run_meant.ensures.1 (λ k between. are k (of_run c.args.other.now k c.loop-i.i c.run-first.result c.run-first.ensures.run between.0 between.1)),
)

pub returns : goal.returns
returns c = (
  λ _ k there.
      let at = in_run c.args.other.now k there in
      c.loop-i.invariant at.0 at.1 (omega (arith, at.2, c.runs-i-end.ensures.count, c.loop-i-test.false)) at.3 k (at.4, at.5),
  λ _. refl,
)
