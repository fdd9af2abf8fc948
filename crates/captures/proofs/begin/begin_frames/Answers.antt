use Rattle.std.proofs.Common.{◌∙◌}
use Rattle.captures.proofs.Beginning.{begins_pcapng}
use Rattle.captures.proofs.begin.begin_frames.Goals as goal

pub returns-then-branch-clause-answer : goal.returns-then-branch-clause-answer
returns-then-branch-clause-answer g c = λ told.
    let before = g.D.Depot.state c.args.depot.now in
    let name = c.args.name.now in
    let frame = c.begins_as_pcapng.ensures.frame in
    let is = c.in_ok-begins_as_pcapng.ensures.answer told ∙ c.if-branch.true in
    let here = rw (frame.kept told name) at (c.in_ok-packets.ensures.answer (frame.told ∙ told)) in
    begins_pcapng (before.held name) c.in_ok-packets.packets is here
