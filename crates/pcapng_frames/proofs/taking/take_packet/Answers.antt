use Rattle.std.proofs.Common.{arith, ◌≤◌, ◌∙◌, sym, ap, length, drop}
use Rattle.std.proofs.lemmas.Result.{err_from_is_err_and}
use Rattle.net_io.specs.Depot.{octets_of}
use Rattle.pcapng_frames.specs.Packet.{packet_at}
use Rattle.pcapng_frames.specs.Block.{packet_block}
use Rattle.net_io.proofs.file_window.Law.{a_window_goes_on_behind_octets}
use Rattle.pcapng_frames.proofs.Packets.{packet_front, packet_given}
use Rattle.pcapng_frames.proofs.taking.take_packet.Goals as goal

pub returns-in_err-packet-clause-answer : goal.returns-in_err-packet-clause-answer
returns-in_err-packet-clause-answer g c = λ told.
    let file = octets_of ((g.D.Depot.state c.args.depot.now).held c.args.name.now) in
    let rest = drop c.args.place file in
    let head = c.args.head in
    let tell = packet_at c.args.section.now.section head.order head.total c.args.place in
    let long : 28 ≤ length c.args.window.now = omega (arith, c.requires.held, c.requires.least) in
    let same = packet_front c.args.section.now.section head.order head.total c.args.place rest c.args.window.now (c.requires.ahead told) long ∙ ap tell (sym c.ahead.ensures.value) in
    let p = err_from_is_err_and c.from_residual.result c.from_residual.ensures.1 in
    rw (p.1, p.2) (ap (packet_block c.args.section.now.section rest head) (same ∙ sym c.read_packet_head.ensures.value ∙ c.in_err-packet.was))

pub returns-clause-answer : goal.returns-clause-answer
returns-clause-answer g c = λ told.
    let file = octets_of ((g.D.Depot.state c.args.depot.now).held c.args.name.now) in
    let rest = drop c.args.place file in
    let head = c.args.head in
    let tell = packet_at c.args.section.now.section head.order head.total c.args.place in
    let long : 28 ≤ length c.args.window.now = omega (arith, c.requires.held, c.requires.least) in
    let same = packet_front c.args.section.now.section head.order head.total c.args.place rest c.args.window.now (c.requires.ahead told) long ∙ ap tell (sym c.ahead.ensures.value) in
    packet_given c.args.section.now.section rest head c.in_ok-packet.packet c.take_octets.new.into.items (tell rest) (same ∙ sym c.read_packet_head.ensures.value ∙ c.in_ok-packet.was)
    (c.in_ok-take_octets.ensures.answer told)

pub returns-clause-ahead : goal.returns-clause-ahead
returns-clause-ahead g c = λ told.
    let file = octets_of ((g.D.Depot.state c.args.depot.now).held c.args.name.now) in
    rw c.skip.ensures (a_window_goes_on_behind_octets file c.args.place c.args.head.total c.args.window.now (c.requires.ahead told))
