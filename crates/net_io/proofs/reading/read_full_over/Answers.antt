use Rattle.std.proofs.Common.{arith, ap, ◌∙◌, ◌+◌, length, length-drop}
use Rattle.std.proofs.lemmas.List.{take_rest}
use Rattle.net_io.proofs.Parts.{octets_more, read_same}
use Rattle.net_io.proofs.reading.read_full_over.Goals as goal

pub returns-clause-octets : goal.returns-clause-octets
returns-clause-octets g c = λ told.
    let first = c.in_ok-first.ensures in
    let name = c.args.name.now in
    let file = (g.D.Depot.state c.args.depot.now).held name in
    let buf = c.read_over.new.buf in
    let part = c.read_full.new.buf in
    let d = c.in_ok-first.first in
    let n = c.in_ok-behind.behind in
    octets_more file c.args.at d n buf part (omega (arith, first.ok.rest.0)) (omega (arith, c.read_full.auto.buf, length-drop d buf, ap length (take_rest buf d)))
    (first.ok.octets told)
    (read_same _ file (c.args.at + d) n part (first.frame.kept told name) (c.in_ok-behind.ensures.octets (first.frame.told ∙ told)))
