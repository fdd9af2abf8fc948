use Rattle.std.proofs.Common.{rules, ◌≡◌, ◌+◌, ◌*◌, ◌≤◌, max, length, List, ap, sym, ◌∙◌, subst, le_trans, arith, refl}
use Rattle.label_commands.specs.declared.flow_lines.hop.Hop.{Hop}
use Rattle.shared_tables.specs.Plan.{PlanState}
use Rattle.shared_tables.specs.Board.{ViewerState}
use Rattle.label_flow.specs.Round.{pick, IsWork, IsLater}
use Rattle.label_flow.specs.inside.Work.{part_at}
use Rattle.label_flow.specs.inside.Crew.{IsShare}
use Rattle.label_flow.proofs.Works.{work_lower}
use Rattle.label_flow.proofs.Told.{part_told, part_within, part_short}
use Rattle.label_flow.proofs.order.judge.Goals as goal

pub work-requires-clause-numbers : goal.work-requires-clause-numbers
work-requires-clause-numbers g c =
    let i = c.requires.share in
    let b = c.args.share.batch.now in
    let place = c.args.share.place in
    let packets : c.packets_at-packets.result.now ≡ part_at place b.packets.items = search rules in
    let base : c.part-part.result.base ≡ b.base + place * 128 = search rules in
    omega (arith, base, ap length packets, part_within place b.packets.items (omega (arith, i.inside)), i.here.numbers)

pub returns-clause-share : goal.returns-clause-share
returns-clause-share g c =
    let r = c.requires.viewer in
    let i = c.requires.share in
    let b = c.args.share.batch.now in
    let place = c.args.share.place in
    let part = part_at place b.packets.items in
    let inside : place * 128 ≤ length b.packets.items = omega (arith, i.inside) in
    let e = c.teach.ensures.viewer in
    let mine = c.teach.ensures.mine in
    let w = c.in_ok-work.ensures in
    let from = c.args.from.now in
    let taught = c.teach.new.viewer in
    let after = c.work.new.viewer in
    let out = c.work.new.bench in
    let packets : c.packets_at-packets.result.now ≡ part = search rules in
    let base : c.part-part.result.base ≡ b.base + place * 128 = search rules in
    let workers : c.part-part.result.workers ≡ b.workers = search rules in
    let xs = pick c.args.share.number b.workers (b.base + place * 128) part in
    let plan : taught.plan ≡ from.plan = ap (λ (v : ViewerState). v.plan) e ∙ r.plan_is ∙ sym mine.1 in
    let seen : taught.seen ≡ max c.args.viewer.now.seen from.seen = ap (λ (v : ViewerState). v.seen) e in
    let low : from.seen ≤ taught.seen = omega (arith, seen) in
    let work : IsWork taught.plan c.args.shift.now.flow.now.hops taught.seen xs out after.seen = rw (packets, base, workers) at w.ok in
    let work = subst (λ (p : PlanState). IsWork p c.args.shift.now.flow.now.hops taught.seen xs out after.seen) plan work in
    let work = subst (λ (hops : List Hop). IsWork from.plan hops taught.seen xs out after.seen) r.hops_are work in
    let later : IsLater from after = record {
      board = w.later.board ∙ ap (λ (v : ViewerState). v.board) e ∙ r.board_is ∙ sym mine.0;
      plan = w.later.plan ∙ plan;
      seen = le_trans low w.later.seen;
    } in
    let share : IsShare g.A.Agreed.hops g.A.Agreed.left c.args.share.number b.workers (b.base + place * 128) (length part) from out after = record {
      packets = part;
      count_is = refl;
      told = part_told _ b.base place b.packets.items inside i.here.told;
      short = part_short place b.packets.items i.here.short;
      work = work_lower _ _ _ _ _ _ _ low work;
      later = later;
    } in
    rw c.of.ensures share
