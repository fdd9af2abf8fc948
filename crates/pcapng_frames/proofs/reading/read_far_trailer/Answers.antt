use Rattle.std.proofs.Common.{arith, sym}
use Rattle.net_io.specs.Depot.{octets_of}
use Rattle.pcapng_frames.proofs.Wholes.{trailer_read}
use Rattle.pcapng_frames.proofs.reading.read_far_trailer.Goals as goal

pub returns-clause-answer : goal.returns-clause-answer
returns-clause-answer g c = λ told.
    let file = octets_of ((g.D.Depot.state c.args.depot.now).held c.args.name.now) in
    trailer_read file c.args.place _ c.in_ok-count.count c.args.head c.read_full.new.buf c.u32_at.result (omega (arith, c.requires.far)) (omega (arith, c.from.ensures))
    (omega (arith, c.read_full.auto.buf)) c.if-count-lt4.false (c.in_ok-count.ensures.count told) (c.in_ok-count.ensures.octets told) (sym c.u32_at.ensures)
