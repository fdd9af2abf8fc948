use Rattle.std.proofs.Common.{arith, ◌≡◌, ◌<◌, ◌∙◌, sym, ap, length}
use Rattle.std.proofs.lemmas.Result.{err_from_is_err_and}
use Rattle.std.proofs.lemmas.List.{length-drop}
use Rattle.net_io.specs.Depot.{octets_of}
use Rattle.pcap_frames.specs.Header.{capture_header}
use Rattle.net_io.proofs.file_window.Law.{a_window_goes_on_behind_octets}
use Rattle.pcap_frames.proofs.Windows.{header_front}
use Rattle.pcap_frames.proofs.reading.read_start.Goals as goal

pub returns-in_err-header-clause-answer : goal.returns-in_err-header-clause-answer
returns-in_err-header-clause-answer g c = λ told.
    let file = octets_of ((g.D.Depot.state c.args.depot.now).held c.args.name.now) in
    let same = header_front file c.reach.new.self (c.in_ok-reach.ensures.ahead told) (c.in_ok-reach.ensures.enough told) in
    let p = err_from_is_err_and c.from_residual-in_err-header.result c.from_residual-in_err-header.ensures.1 in
    rw (p.1, p.2) (same ∙ ap capture_header (sym c.ahead.ensures.value) ∙ sym c.read_header.ensures.value ∙ c.in_err-header.was)

pub returns-clause-answer : goal.returns-clause-answer
returns-clause-answer g c = λ told.
    let file = octets_of ((g.D.Depot.state c.args.depot.now).held c.args.name.now) in
    header_front file c.reach.new.self (c.in_ok-reach.ensures.ahead told) (c.in_ok-reach.ensures.enough told)
    ∙ ap capture_header (sym c.ahead.ensures.value) ∙ sym c.read_header.ensures.value ∙ c.in_ok-header.was

pub returns-clause-ahead : goal.returns-clause-ahead
returns-clause-ahead g c = λ told.
    let file = octets_of ((g.D.Depot.state c.args.depot.now).held c.args.name.now) in
    rw c.pass.ensures (a_window_goes_on_behind_octets file 0 24 c.reach.new.self (c.in_ok-reach.ensures.ahead told))

pub returns-clause-place : goal.returns-clause-place
returns-clause-place g c =
    rw c.pass.ensures (omega (arith, length-drop 24 c.reach.new.self, c.in_ok-reach.ensures.place, ap length c.ahead.ensures.value, c.in_ok-header.ensures.long))
