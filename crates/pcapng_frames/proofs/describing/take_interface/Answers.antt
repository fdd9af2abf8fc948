use Rattle.std.proofs.Common.{arith, ◌+◌, ◌-◌, ◌∙◌, ap, sym, None, drop}
use Rattle.net_io.specs.Depot.{octets_of}
use Rattle.net_io.specs.file_window.Numbers.{ordered_number}
use Rattle.pcapng_frames.specs.Options.{resolution_at}
use Rattle.pcapng_frames.proofs.Answers.{by_question}
use Rattle.net_io.proofs.file_window.Law.{a_window_goes_on_behind_octets, a_number_of_a_window_is_the_files}
use Rattle.pcapng_frames.proofs.OptionLists.{interface_wrong, interface_right}
use Rattle.pcapng_frames.proofs.describing.take_interface.Goals as goal

pub read_resolution-requires-clause-ahead : goal.read_resolution-requires-clause-ahead
read_resolution-requires-clause-ahead g c = λ told.
    let file = octets_of ((g.D.Depot.state c.args.depot.now).held c.args.name.now) in
    rw c.skip.ensures (a_window_goes_on_behind_octets file c.args.place 16 c.args.window.now (c.requires.ahead told))

pub returns-in_err-resolution-clause-answer : goal.returns-in_err-resolution-clause-answer
returns-in_err-resolution-clause-answer g c = λ told.
    let file = octets_of ((g.D.Depot.state c.args.depot.now).held c.args.name.now) in
    let head = c.args.head in
    by_question (λ resolution. resolution) _ _ c.from_residual.result (resolution_at head.order None (c.args.place + 16) (head.total - 20) (drop (c.args.place + 16) file)) _ c.from_residual.ensures.1
    (interface_wrong c.args.section.now.section file c.args.place head) (c.in_err-resolution.ensures.answer told)

pub returns-clause-answer : goal.returns-clause-answer
returns-clause-answer g c = λ told.
    let file = octets_of ((g.D.Depot.state c.args.depot.now).held c.args.name.now) in
    let head = c.args.head in
    let rest = drop c.args.place file in
    let link = a_number_of_a_window_is_the_files head.order 2 8 rest 0 c.args.window.now (c.requires.ahead told) (omega (arith, c.requires.held, c.requires.least))
    ∙ ap (λ l. ordered_number head.order 2 (drop 8 l)) (sym c.ahead.ensures.value) ∙ sym c.u16_at-link.ensures in
    interface_right c.args.section.now.section c.describe.new.self.section file c.args.place head c.u16_at-link.result c.in_ok-resolution.resolution (c.in_ok-resolution.ensures.answer told) link c.in_ok-describe.ensures.ok
