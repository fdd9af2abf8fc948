use Rattle.std.proofs.Common.{refl}
use Rattle.std.proofs.lemmas.Result.{err_from_is_err_and}
use Rattle.net_io.specs.Depot.{octets_of}
use Rattle.captures.specs.declared.reader.AnyFrames.TheVariants.{Pcapng}
use Rattle.captures.specs.Reader.{left_of}
use Rattle.captures.proofs.Leaving.{packet_stop, no_packet, one_packet}
use Rattle.captures.proofs.frames.next_packet.Goals as goal

pub returns-in_err-given-clause-answer : goal.returns-in_err-given-clause-answer
returns-in_err-given-clause-answer g c told =
    let file = octets_of ((g.D.Depot.state c.args.depot.now).held c.args.frames.now.name) in
    let p = err_from_is_err_and c.from_residual.result c.from_residual.ensures.1 in
    rw (p.1, p.2) (packet_stop c.args.frames.now file c.next.new.self c.next.new.into.items (left_of (Pcapng c.next.new.self) file) c.in_err-given.field-0.0 (c.in_err-given.ensures.answer told))

pub returns-in-Some-clause-answer : goal.returns-in-Some-clause-answer
returns-in-Some-clause-answer g c told =
    let clauses = rw c.in-Some.is at c.in_ok-given.ensures in
    one_packet c.args.frames.now (octets_of ((g.D.Depot.state c.args.depot.now).held c.args.frames.now.name)) c.next.new.self c.linked.result c.next.new.into.items c.in-Some.given c.linked.ensures
    (clauses.answer told)

pub returns-in-None-clause-answer : goal.returns-in-None-clause-answer
returns-in-None-clause-answer g c told =
    let clauses = rw c.in-None.is at c.in_ok-given.ensures in
    no_packet c.args.frames.now (octets_of ((g.D.Depot.state c.args.depot.now).held c.args.frames.now.name)) c.next.new.self c.next.new.into.items (clauses.answer told) (clauses.end refl told)
