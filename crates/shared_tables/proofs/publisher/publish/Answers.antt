use Rattle.std.proofs.Common.{arith, List, drop}
use Rattle.left_right.specs.Sides.{view}
use Rattle.shared_tables.specs.declared.state.Advance.{Advance}
use Rattle.shared_tables.proofs.Keeping.{finds}
use Rattle.shared_tables.proofs.Counts.{advances, publishes}
use Rattle.shared_tables.proofs.publisher.publish.Goals as goal

pub publish_as-requires : goal.publish_as-requires
publish_as-requires g c next is =
    let x = c.args.writer.desk.shown.value in
    let ops : List Advance = drop c.args.writer.behind c.args.writer.log.items in
    let a = advances x next ops is in
    finds _ _ x next a.0 (omega (arith, a.1))

pub returns-clause-ok : goal.returns-clause-ok
returns-clause-ok g c =
    let w = c.args.writer in
    let y = c.publish_as.result.0 in
    publishes c.publish_as.result.1 w.desk.shown.value y.desk.shown.value (drop w.behind w.log.items) (drop y.behind y.log.items) (view w.desk.place) (view y.desk.place) _ _
    c.publish_as.ensures.values c.publish_as.ensures.rule
