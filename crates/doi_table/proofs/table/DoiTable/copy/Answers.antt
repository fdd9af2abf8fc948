use Rattle.std.proofs.Common.{ap, ◌∙◌}
use Rattle.doi_table.specs.Table.{same_doi, definition_of}
use Rattle.doi_table.proofs.Tables.{same_doi_flips, absent_before, copied_next}
use Rattle.doi_table.proofs.table.DoiTable.copy.Goals as goal

pub push-requires : goal.push-requires
push-requires c =
    let e = c.entry-proto.result in
    ap (λ t. definition_of t e.0 e.1) c.loop-i.invariant
    ∙ absent_before same_doi same_doi_flips c.args.self.now c.loop-i.i ((e.0, e.1), e.2.now) c.count-i-end.ensures.once c.entry-proto.ensures

pub loop-i-preserved : goal.loop-i-preserved
loop-i-preserved c =
    let e = c.entry-proto.result in
    copied_next c.args.self.now c.loop-i.copy c.push.new.self c.loop-i.i e.0 e.1 e.2.now c.in_ok-copy.field-0 c.entry-proto.ensures c.loop-i.invariant c.in_ok-copy.ensures c.in_ok-push.ensures.ok
