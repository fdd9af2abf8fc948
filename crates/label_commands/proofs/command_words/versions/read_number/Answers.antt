use Rattle.std.proofs.Common.{sym, arith}
use Rattle.label_commands.proofs.command_words.Numbers.{names_number, names_too_much}
use Rattle.label_commands.proofs.command_words.versions.read_number.Goals as goal

pub returns-then-number-from : goal.returns-then-number-from
returns-then-number-from c =
    sym (names_too_much c.in_ok-number.number c.args.word.now (omega arith) (rw c.as_bytes.ensures.value at c.in_ok-number.ensures.read) (omega arith))

pub returns : goal.returns
returns c =
    sym (names_number c.in_ok-number.number c.args.word.now (omega arith) (rw c.as_bytes.ensures.value at c.in_ok-number.ensures.read) (omega arith))
