use Rattle.std.proofs.Common.{sym, ◌∙◌, arith}
use Rattle.doi_table.proofs.Lookups.{none_at}
use Rattle.doi_table.proofs.numbers.number.Goals as goal

pub returns-else-first-n : goal.returns-else-first-n
returns-else-first-n c =
    let from = c.pairs_from.ensures in
    sym (from.same c.args.n (omega arith) ∙ none_at c.args.n c.pairs_from.result.now (0, 0) from.rising c.in-len1-up.len_at_least c.if-first-n.false)
