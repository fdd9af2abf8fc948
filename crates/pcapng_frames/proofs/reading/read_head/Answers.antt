use Rattle.std.proofs.Common.{◌≡◌, ◌∙◌, sym, ap, drop}
use Rattle.std.proofs.lemmas.Result.{err_from_is_err_and}
use Rattle.net_io.specs.Depot.{octets_of}
use Rattle.pcapng_frames.specs.Head.{block_head_at}
use Rattle.pcapng_frames.proofs.Windows.{block_head_front}
use Rattle.pcapng_frames.proofs.reading.read_head.Goals as goal

pub returns-in_err-read_block_head-clause-answer : goal.returns-in_err-read_block_head-clause-answer
returns-in_err-read_block_head-clause-answer g c = λ told.
    let file = octets_of ((g.D.Depot.state c.args.depot.now).held c.args.name.now) in
    let head = block_head_at c.args.order c.args.place in
    let same : head (drop c.args.place file) ≡ head c.ahead.result.now =
    block_head_front c.args.order c.args.place (drop c.args.place file) c.reach.new.self (c.in_ok-reach.ensures.ahead told) (c.in_ok-reach.ensures.enough told)
    ∙ ap head (sym c.ahead.ensures.value) in
    let p = err_from_is_err_and c.from_residual-in_err-read_block_head.result c.from_residual-in_err-read_block_head.ensures.1 in
    rw (p.1, p.2) (same ∙ sym c.read_block_head.ensures.value ∙ c.in_err-read_block_head.was)

pub returns-clause-answer : goal.returns-clause-answer
returns-clause-answer g c = λ told.
    let file = octets_of ((g.D.Depot.state c.args.depot.now).held c.args.name.now) in
    let head = block_head_at c.args.order c.args.place in
    block_head_front c.args.order c.args.place (drop c.args.place file) c.reach.new.self (c.in_ok-reach.ensures.ahead told) (c.in_ok-reach.ensures.enough told)
    ∙ ap head (sym c.ahead.ensures.value)
    ∙ sym c.read_block_head.ensures.value ∙ c.in_ok-read_block_head.was
