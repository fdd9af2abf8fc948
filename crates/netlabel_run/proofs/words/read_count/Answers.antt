use Rattle.std.proofs.Common.{arith}
use Rattle.netlabel_run.proofs.Commands.{too_many}
use Rattle.netlabel_run.proofs.words.read_count.Goals as goal

pub returns-then-count-gt-PACKETS_LIMIT-clause-none : goal.returns-then-count-gt-PACKETS_LIMIT-clause-none
returns-then-count-gt-PACKETS_LIMIT-clause-none c =
    too_many c.args.word.now c.in_ok-count.count (rw c.as_bytes.ensures.value at c.in_ok-count.ensures.read) (omega arith) (omega (arith, c.if-count-gt-PACKETS_LIMIT.true))
