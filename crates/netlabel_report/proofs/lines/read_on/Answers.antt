use Rattle.std.proofs.Common.{[]}
use Rattle.netlabel_report.proofs.Cutting.{reads_nothing, from_on, reads_on, moves_on}
use Rattle.netlabel_report.proofs.lines.read_on.Goals as goal

pub returns-then-not-branch-clause-next : goal.returns-then-not-branch-clause-next
returns-then-not-branch-clause-next g c = λ told. rw (c.last_part.ensures, c.deref.ensures.value) (reads_nothing c.args.line.now.items _ _ c.requires.none c.requires.within (c.in_ok-has_more.ensures.none c.if-not-branch.true told))

pub returns-clause-next : goal.returns-clause-next
returns-clause-next g c = λ told. rw (c.part_read.ensures, c.deref-2.ensures.value)
    (reads_on _ c.args.place.now c.gather.new.place c.has_more.new.window c.gather.new.window c.args.line.now.items c.gather.new.line.items c.requires.none c.in_ok-ended.ended c.in_ok-ended.ensures (c.in_ok-has_more.ensures.ahead told))

pub returns-clause-on : goal.returns-clause-on
returns-clause-on g c = rw (c.part_read.ensures, c.deref-2.ensures.value)
    (moves_on [] c.args.place.now c.gather.new.place c.has_more.new.window c.gather.new.window c.args.line.now.items c.gather.new.line.items c.requires.none c.in_ok-ended.ended c.in_ok-ended.ensures (c.in_ok-has_more.ensures.some c.if-not-branch.false))

pub returns-clause-ahead : goal.returns-clause-ahead
returns-clause-ahead g c = λ told.
    from_on _ c.args.place.now c.gather.new.place c.has_more.new.window c.gather.new.window c.args.line.now.items c.gather.new.line.items c.requires.none c.in_ok-ended.ended c.in_ok-ended.ensures (c.in_ok-has_more.ensures.ahead told)
