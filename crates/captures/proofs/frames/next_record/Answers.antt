use Rattle.std.proofs.Common.{rules}
use Rattle.std.proofs.lemmas.Result.{err_from_is_err_and}
use Rattle.net_io.specs.Depot.{octets_of}
use Rattle.captures.specs.declared.reader.AnyFrames.TheVariants.{Pcap}
use Rattle.captures.specs.Reader.{left_of}
use Rattle.captures.proofs.Leaving.{record_stop, no_record, one_record}
use Rattle.captures.proofs.frames.next_record.Goals as goal

pub returns-in_err-head-clause-answer : goal.returns-in_err-head-clause-answer
returns-in_err-head-clause-answer g c told =
    let file = octets_of ((g.D.Depot.state c.args.depot.now).held c.args.frames.now.name) in
    let p = err_from_is_err_and c.from_residual.result c.from_residual.ensures.1 in
    rw (p.1, p.2) (record_stop c.args.frames.now file c.next.new.into.items (left_of (Pcap c.next.new.self) file) c.in_err-head.field-0.0 (c.in_err-head.ensures.answer told))

pub returns-in-Some-clause-answer : goal.returns-in-Some-clause-answer
returns-in-Some-clause-answer g c told =
    let clauses = rw c.in-Some.is at c.in_ok-head.ensures in
    one_record c.args.frames.now (octets_of ((g.D.Depot.state c.args.depot.now).held c.args.frames.now.name)) c.next.new.self c.link-link.result c.next.new.into.items c.in-Some.head c.link-link.ensures
    clauses.header (search (rules, clauses.moved)) (clauses.answer told)

pub returns-in-None-clause-answer : goal.returns-in-None-clause-answer
returns-in-None-clause-answer g c told =
    let clauses = rw c.in-None.is at c.in_ok-head.ensures in
    no_record c.args.frames.now (octets_of ((g.D.Depot.state c.args.depot.now).held c.args.frames.now.name)) c.next.new.self c.next.new.into.items clauses.header (search (rules, clauses.moved))
    (clauses.answer told)
