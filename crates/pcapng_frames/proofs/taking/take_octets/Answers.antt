use Rattle.std.proofs.Common.{arith, ap, Ok, drop}
use Rattle.net_io.specs.Depot.{octets_of}
use Rattle.pcapng_frames.proofs.Packets.{octets_taken}
use Rattle.pcapng_frames.proofs.taking.take_octets.Goals as goal

pub returns-clause-answer : goal.returns-clause-answer
returns-clause-answer g c = λ told.
    let rest = drop c.args.place (octets_of ((g.D.Depot.state c.args.depot.now).held c.args.name.now)) in
    ap Ok (octets_taken c.args.captured c.in_ok-n.n rest c.take_behind.new.into.items (c.requires.whole told) (c.in_ok-n.ensures.end told)
    (omega (arith, c.in_ok-n.ensures.len, c.take_behind.new.into.ok.0)) (c.in_ok-n.ensures.octets told))
