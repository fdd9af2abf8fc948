use Rattle.node_tables.specs.inside.Kept.{IsGiven}
use Rattle.node_tables.proofs.Listings.{definitions_next, all_at}
use Rattle.node_tables.proofs.definitions.list_definitions.Goals as goal

pub push_definition_of-requires : goal.push_definition_of-requires
push_definition_of-requires c =
    let e = c.entry-of.result in
    all_at (λ e. IsGiven e.0 e.1) c.args.dois.now c.loop-i.i ((e.0, e.1), e.2.now) c.requires c.entry-of.ensures

pub loop-i-preserved : goal.loop-i-preserved
loop-i-preserved c =
    let e = c.entry-of.result in
    definitions_next c.args.dois.now c.args.proto c.loop-i.i ((e.0, e.1), e.2.now) c.loop-i.lines c.push_definition_of.new.lines c.entry-of.ensures c.loop-i.invariant c.in_ok-push_definition_of.ensures
