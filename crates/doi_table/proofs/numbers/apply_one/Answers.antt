use Rattle.doi_table.proofs.Lookups.{none_at}
use Rattle.doi_table.proofs.numbers.apply_one.Goals as goal

pub returns-then-first-c-clause-none : goal.returns-then-first-c-clause-none
returns-then-first-c-clause-none c =
    none_at c.args.c c.args.pairs.now (0, 0) c.requires.rising c.in-len1-up.len_at_least c.if-first-c.true
