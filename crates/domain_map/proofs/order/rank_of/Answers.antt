use Rattle.std.proofs.Common.{sym}
use Rattle.std.specs.Prelude.{nat_lt}
use Rattle.domain_map.specs.declared.order.Ranked.{Ranked}
use Rattle.domain_map.proofs.Ranks.{rank_found, rank_last}
use Rattle.domain_map.proofs.order.rank_of.Goals as goal

pub returns-in-Some-clause-rank : goal.returns-in-Some-clause-rank
returns-in-Some-clause-rank c = rank_found (λ (s : Ranked). nat_lt s.bits c.args.bits) c.args.order.now c.in-Some.place (sym c.in-Some.ensures)

pub returns-in-None-clause-rank : goal.returns-in-None-clause-rank
returns-in-None-clause-rank c = rank_last (λ (s : Ranked). nat_lt s.bits c.args.bits) c.args.order.now (sym c.in-None.ensures)
