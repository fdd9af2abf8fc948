use Rattle.std.proofs.Common.{arith, ◌≡◌, ◌≤◌, ◌+◌, ◌∙◌, ap, length, take}
use Rattle.std.proofs.lemmas.List.{take_at, take_all, take_rest, length-drop}
use Rattle.net_io.proofs.file_window.Parts.{read_behind_it}
use Rattle.net_io.proofs.file_window.reading.read_behind.Goals as goal

pub returns-clause-octets : goal.returns-clause-octets
returns-clause-octets g c = λ told.
    let into = c.args.into.now.items in
    let count : length into ≡ c.len-have.result = omega (arith, c.args.into.now.ok.0) in
    let all : take c.args.whole into ≡ into = take_all c.args.whole into (omega arith) in
    let grown = c.deref_mut.ensures.value ∙ c.in_ok-resize.ensures.items in
    let front : take c.len-have.result c.deref_mut.result.now ≡ into = rw (grown, all) (take_at into _ c.len-have.result count) in
    let fits : c.in_ok-n.n ≤ length c.read_full.new.buf = omega (arith, c.in_ok-n.ensures.rest.0, c.read_full.auto.buf) in
    let buffer = c.deref_mut.result.now in
    let room : c.len-have.result + c.in_ok-n.n ≤ c.resize.new.self.len =
    omega (arith, c.in_ok-n.ensures.rest.0, length-drop c.len-have.result buffer, ap length (take_rest buffer c.len-have.result), c.deref_mut.ensures.len, c.in_ok-resize.ensures.len) in
    rw (← c.len-have.ensures) (read_behind_it c.len-have.result c.in_ok-n.n _ into _ _ _ _ _ count front fits room (c.in_ok-n.ensures.octets told))
