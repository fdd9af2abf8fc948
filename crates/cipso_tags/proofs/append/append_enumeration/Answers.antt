use Rattle.std.proofs.Common.{rules, arith}
use Rattle.cipso_tags.proofs.Runs.{left_start, left_next, left_room}
use Rattle.cipso_tags.proofs.append.append_enumeration.Goals as goal

pub loop-i-init : goal.loop-i-init
loop-i-init g c = left_start c.args.cats.now c.args.out.now.items

pub append_run-requires : goal.append_run-requires
append_run-requires g c =
    let room = left_room c.args.cats.now c.args.out.now.items c.loop-i.out.items c.loop-i.i c.run-first.result c.run-first.ensures.run c.loop-i.invariant in
    (search rules, (c.run-first.ensures.order, (c.run-first.ensures.categories, omega (arith, room, c.requires))))

pub loop-i-preserved : goal.loop-i-preserved
loop-i-preserved g c =
    left_next c.args.cats.now c.args.out.now.items c.loop-i.out.items c.append_run.new.out.items c.loop-i.i c.run-first.result c.run-first.ensures.run c.loop-i.invariant c.append_run.ensures
