use Rattle.std.proofs.Common.{rules, subst, sym}
use Rattle.node_tables.specs.inside.Kept.{IsGiven}
use Rattle.node_tables.proofs.tables.Tables.define_trans.Goals as goal

pub define-requires-clause-given : goal.define-requires-clause-given
define-requires-clause-given c =
    subst (IsGiven (c.args.proto, c.args.doi)) (sym c.in_ok-plan.ensures.value) (record { doi = search rules; tags = c.requires; levels = λ translates. c.in_ok-plan.ensures.levels })
