use Rattle.std.proofs.Common.{arith, ◌≡◌, ◌-◌, ◌∙◌, sym, ap, length, take, drop}
use Rattle.std.proofs.lemmas.List.{length-drop, length-take, take_rest, take_all}
use Rattle.net_io.specs.Depot.{octets_of}
use Rattle.net_io.proofs.file_window.Parts.{go_behind}
use Rattle.net_io.proofs.file_window.reading.take_behind.Goals as goal

pub returns-clause-octets : goal.returns-clause-octets
returns-clause-octets g c = λ told.
    let file = octets_of ((g.D.Depot.state c.args.depot.now).held c.args.name.now) in
    let octets = c.args.window.now in
    let part = take (length c.ahead.result.now - c.args.front) (drop c.args.front c.ahead.result.now) in
    let have = length part in
    let rest : part ≡ drop c.args.front octets = take_rest c.ahead.result.now c.args.front ∙ ap (drop c.args.front) c.ahead.ensures.value in
    let held : have ≡ length octets - c.args.front = ap length rest ∙ length-drop c.args.front octets in
    let taken : c.extend_from_slice-2.new.self.items ≡ take have (drop c.args.front octets) =
    rw (c.requires.empty, rest) at c.in_ok-extend_from_slice-2.ensures.items ∙ sym (take_all have (drop c.args.front octets) (omega (arith, held, length-drop c.args.front octets))) in
    let count : c.extend_from_slice-2.new.self.len ≡ have =
    c.extend_from_slice-2.new.self.ok.0 ∙ ap length taken ∙ omega (arith, held, length-take have (drop c.args.front octets), length-drop c.args.front octets) in
    go_behind file c.args.place c.args.front c.in_ok-n.n have octets c.read_behind.new.into.items (c.requires.ahead told) (omega (arith, c.requires.front, held))
    (rw (count, taken) at (c.in_ok-n.ensures.octets told))
