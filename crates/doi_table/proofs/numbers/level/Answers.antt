use Rattle.std.proofs.Common.{◌<◌, arith}
use Rattle.doi_table.proofs.Translations.{number_within, number_at}
use Rattle.doi_table.proofs.numbers.level.Goals as goal

pub overflow_cast-result : goal.overflow_cast-result
overflow_cast-result c =
    let at = number_at c.args.pairs.now c.args.n c.from.result c.in-Some.level c.number.result c.number.ensures c.from.ensures c.in-Some.is in
    let below : c.in-Some.level < 256 = number_within 256 c.args.n c.in-Some.level c.args.pairs.now c.requires.below at in
    omega arith
