use Rattle.std.proofs.Common.{subst}
use Rattle.node_tables.specs.Tables.{TableState}
use Rattle.node_tables.specs.Coherence.{IsCoherent}
use Rattle.node_tables.proofs.Defined.{coherent_of}
use Rattle.node_tables.proofs.tables.Tables.dois.Goals as goal

pub returns-clause-coherent : goal.returns-clause-coherent
returns-clause-coherent c =
    subst (λ (t : TableState). IsCoherent t.definitions t.domains) c.self.view_is (coherent_of c.self.inside.dois c.self.inside.map c.self.invariant.defined c.self.invariant.given)
