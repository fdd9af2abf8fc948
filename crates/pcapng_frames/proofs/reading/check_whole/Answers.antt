use Rattle.std.proofs.Common.{arith, ◌∙◌, drop}
use Rattle.net_io.specs.Depot.{octets_of}
use Rattle.pcapng_frames.specs.inside.Parts.{trailer_at}
use Rattle.pcapng_frames.proofs.Answers.{by_question}
use Rattle.pcapng_frames.proofs.Wholes.{whole_short, whole_ends, whole_answer}
use Rattle.pcapng_frames.proofs.reading.check_whole.Goals as goal

pub returns-in_err-have-clause-answer : goal.returns-in_err-have-clause-answer
returns-in_err-have-clause-answer g c = λ told.
    let rest = drop c.args.place (octets_of ((g.D.Depot.state c.args.depot.now).held c.args.name.now)) in
    by_question (λ had. had) (λ _. c.args.head) _ c.from_residual.result _ _ c.from_residual.ensures.1
    (whole_short c.min-held.result c.args.place rest c.args.head (omega (arith, c.min-held.ensures))) (c.in_err-have.ensures.answer told)

pub returns-in_err-last-clause-answer : goal.returns-in_err-last-clause-answer
returns-in_err-last-clause-answer g c = λ told.
    let rest = drop c.args.place (octets_of ((g.D.Depot.state c.args.depot.now).held c.args.name.now)) in
    let frame = c.have.ensures.frame in
    by_question (λ last. last) (λ _. c.args.head) _ c.from_residual-in_err-last.result (trailer_at c.args.place rest c.args.head) _ c.from_residual-in_err-last.ensures.1
    (whole_ends c.args.place rest c.args.head) (rw (frame.kept told c.args.name.now) at (c.in_err-last.ensures.answer (frame.told ∙ told)))

pub returns-clause-answer : goal.returns-clause-answer
returns-clause-answer g c = λ told.
    let rest = drop c.args.place (octets_of ((g.D.Depot.state c.args.depot.now).held c.args.name.now)) in
    let frame = c.have.ensures.frame in
    whole_answer c.args.place rest c.args.head c.in_ok-last.last c.check_trailer.result (rw (frame.kept told c.args.name.now) at (c.in_ok-last.ensures.answer (frame.told ∙ told))) c.check_trailer.ensures
