use Rattle.std.proofs.Common.{arith}
use Rattle.label_commands.proofs.command_words.Numbers.{no_workers}
use Rattle.label_commands.proofs.command_words.workers.Workers.named.Goals as goal

pub returns-then-number-eq0-clause-none : goal.returns-then-number-eq0-clause-none
returns-then-number-eq0-clause-none c = no_workers c.args.word.now c.in_ok-number.number (rw c.as_bytes.ensures.value at c.in_ok-number.ensures.read) (omega arith) c.then-number-eq0.either
