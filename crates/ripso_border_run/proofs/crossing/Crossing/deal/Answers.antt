use Rattle.std.proofs.Common.{[], refl, sym, ap, ◌∙◌, subst, arith}
use Rattle.captures.specs.Frame.{CapturedFrame}
use Rattle.call_report.specs.declared.status.Status.TheVariants.{OutOfMemory}
use Rattle.call_report.specs.Outside.{Outside}
use Rattle.ripso_border_run.specs.declared.lines.Counts.{Counts}
use Rattle.ripso_border_run.specs.inside.Course.{IsCrossing}
use Rattle.ripso_border_run.proofs.Ending.{ends_without_memory, ends_at_line, ends_at_frame, deals, packets_is}
use Rattle.ripso_border_run.proofs.Proceeding.{ends_stopped}
use Rattle.ripso_border_run.proofs.crossing.Crossing.deal.Goals as goal

pub returns-in_default-clause-crossing : goal.returns-in_default-clause-crossing
returns-in_default-clause-crossing g c before crossing =
    let now : Outside = record { folder = g.D.Depot.state c.args.depot.now; stream = g.S.Sink.state c.args.out.now } in
    ends_stopped c.args.task.now before now OutOfMemory (ends_without_memory c.args.task.now _ before now _ _ _ _ _ crossing now refl refl)

pub returns-in-Err-clause-crossing : goal.returns-in-Err-clause-crossing
returns-in-Err-clause-crossing g c before crossing =
    let task = c.args.task.now in
    let now : Outside = record { folder = g.D.Depot.state c.args.depot.now; stream = g.S.Sink.state c.args.out.now } in
    let after : Outside = record { folder = g.D.Depot.state c.args.depot.now; stream = g.S.Sink.state c.add_line.new.out } in
    let frame : CapturedFrame = record { head = c.args.head; link = c.args.self.now.frames.header.link; octets = c.args.self.now.frame.items } in
    let verdict = c.in-Ok.verdict in
    let number = ap (λ (n : Counts). n.packets) c.counted-self.ensures ∙ packets_is c.args.self.now.counts verdict in
    ends_stopped task before after c.after_write.result
    (rw c.after_write.ensures
    (ends_at_line task c.args.border.now.definition.now before now c.args.self.now.frames frame c.args.self.now.waits.items c.args.self.now.report.waiting.items c.args.self.now.counts crossing
    verdict c.verdict_of.new.packet.items (rw (c.requires.way, c.requires.doi, c.link-link.ensures, c.deref.ensures.value) at c.in-Ok.ensures.made) (omega (arith, c.requires.below, c.requires.standing.few))
    after c.add_line.new.report.waiting.items c.in-Err.fault refl (rw number at c.in-Err.ensures)))

pub returns-in-Err-add_kept-clause-crossing : goal.returns-in-Err-add_kept-clause-crossing
returns-in-Err-add_kept-clause-crossing g c before crossing =
    let task = c.args.task.now in
    let now : Outside = record { folder = g.D.Depot.state c.args.depot.now; stream = g.S.Sink.state c.args.out.now } in
    let after : Outside = record { folder = g.D.Depot.state c.add_kept.new.depot; stream = g.S.Sink.state c.add_line.new.out } in
    let frame : CapturedFrame = record { head = c.args.head; link = c.args.self.now.frames.header.link; octets = c.args.self.now.frame.items } in
    let verdict = c.in-Ok.verdict in
    let number = ap (λ (n : Counts). n.packets) c.counted-self.ensures ∙ packets_is c.args.self.now.counts verdict in
    ends_stopped task before after c.after_write-in-Err-add_kept.result
    (rw c.after_write-in-Err-add_kept.ensures
    (ends_at_frame task c.args.border.now.definition.now before now c.args.self.now.frames frame c.args.self.now.waits.items c.args.self.now.report.waiting.items c.args.self.now.counts crossing
    verdict c.verdict_of.new.packet.items (rw (c.requires.way, c.requires.doi, c.link-link.ensures, c.deref.ensures.value) at c.in-Ok.ensures.made) (omega (arith, c.requires.below, c.requires.standing.few))
    after c.in-Ok-add_line.field-0 c.add_line.new.report.waiting.items c.add_kept.new.waits.items (rw number at c.in-Ok-add_line.ensures)
    c.in-Err-add_kept.fault (rw (c.as_str-output.ensures, c.deref-2.ensures.value) at c.in-Err-add_kept.ensures)))

pub returns-in-Ok-add_kept-clause-crossing : goal.returns-in-Ok-add_kept-clause-crossing
returns-in-Ok-add_kept-clause-crossing g c before crossing =
    let task = c.args.task.now in
    let plan = c.args.border.now.definition.now in
    let reader = c.args.self.now.frames in
    let now : Outside = record { folder = g.D.Depot.state c.args.depot.now; stream = g.S.Sink.state c.args.out.now } in
    let after : Outside = record { folder = g.D.Depot.state c.add_kept.new.depot; stream = g.S.Sink.state c.add_line.new.out } in
    let frame : CapturedFrame = record { head = c.args.head; link = c.args.self.now.frames.header.link; octets = c.args.self.now.frame.items } in
    let verdict = c.in-Ok.verdict in
    let number = ap (λ (n : Counts). n.packets) c.counted-self.ensures ∙ packets_is c.args.self.now.counts verdict in
    subst (λ (n : Counts). IsCrossing task plan before after reader [] c.add_kept.new.waits.items c.add_line.new.report.waiting.items n) (sym c.counted-self.ensures)
    (deals task plan before now reader frame c.args.self.now.waits.items c.args.self.now.report.waiting.items c.args.self.now.counts crossing
    verdict c.verdict_of.new.packet.items (rw (c.requires.way, c.requires.doi, c.link-link.ensures, c.deref.ensures.value) at c.in-Ok.ensures.made) (omega (arith, c.requires.below, c.requires.standing.few))
    after c.in-Ok-add_line.field-0 c.add_line.new.report.waiting.items c.add_kept.new.waits.items (rw number at c.in-Ok-add_line.ensures)
    c.in-Ok-add_kept.field-0 (rw (c.as_str-output.ensures, c.deref-2.ensures.value) at c.in-Ok-add_kept.ensures))
