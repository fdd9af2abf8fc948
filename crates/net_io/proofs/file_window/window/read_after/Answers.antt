use Rattle.std.proofs.Common.{arith, ◌≡◌, ◌≤◌, ◌+◌, ap, length, take}
use Rattle.std.proofs.lemmas.List.{length-take-le}
use Rattle.net_io.proofs.file_window.Parts.{read_behind_it}
use Rattle.net_io.proofs.file_window.window.read_after.Goals as goal

pub returns-clause-octets : goal.returns-clause-octets
returns-clause-octets g c = λ told.
    let have = c.args.have in
    let read = c.in_ok-n.ensures.ok in
    let into = take have c.args.buffer.now.items in
    let count : length into ≡ have = length-take-le have c.args.buffer.now.items (omega arith) in
    let room : have + c.in_ok-n.n ≤ c.args.buffer.now.len = omega (arith, read.rest.0) in
    read_behind_it have c.in_ok-n.n c.args.buffer.now.len into c.deref_mut.result.now c.read_over.new.buf _ _ _ count (ap (take have) c.deref_mut.ensures.value) read.rest.0 room
    (read.octets told)
