use Rattle.std.proofs.Common.{arith, ◌≡◌, ◌≤◌, ◌+◌, ◌∙◌, ap, sym, subst, Ok, drop}
use Rattle.std.proofs.lemmas.List.{length-drop}
use Rattle.net_io.specs.Depot.{octets_of}
use Rattle.net_io.proofs.Law.{reads_go_on, reads_may_be_answered_otherwise}
use Rattle.net_io.specs.file_window.Window.{IsFrom}
use Rattle.pcapng_frames.specs.declared.fault.NgStop.TheVariants.{ReadFault}
use Rattle.pcapng_frames.specs.Options.{option_at}
use Rattle.pcapng_frames.proofs.Answers.{by_question}
use Rattle.net_io.proofs.file_window.Law.{a_window_goes_on_behind_octets}
use Rattle.pcapng_frames.proofs.OptionLists.{resolution_fault, resolution_end, option_step}
use Rattle.pcapng_frames.proofs.describing.read_resolution.Goals as goal

pub returns-in_err-option-clause-answer : goal.returns-in_err-option-clause-answer
returns-in_err-option-clause-answer g c = λ told.
    let so_far = c.loop-option.invariant in
    let name = c.args.name.now in
    let file = octets_of ((g.D.Depot.state c.args.depot.now).held name) in
    let at = c.loop-option.at in
    by_question (λ read. read) (λ resolution. resolution) _ c.from_residual.result (option_at c.args.order at c.loop-option.rest (drop at file)) _ c.from_residual.ensures.1
    (λ fault is. sym (so_far.answer told) ∙ resolution_fault c.args.order c.loop-option.told at c.loop-option.rest (drop at file) fault is)
    (rw (so_far.frame.kept told name) at (c.in_err-option.ensures.answer (so_far.frame.told ∙ told)))

pub loop-option-preserved : goal.loop-option-preserved
loop-option-preserved g c =
    let so_far = c.loop-option.invariant in
    let name = c.args.name.now in
    let file = octets_of ((g.D.Depot.state c.args.depot.now).held name) in
    let at = c.loop-option.at in
    let option = c.in-Some.option in
    let fits : option.size ≤ c.loop-option.rest = rw c.in-Some.is at c.in_ok-option.ensures.fits in
    record {
      place = omega (arith, so_far.place, fits, c.from-at.ensures);
      small = rw c.skip.ensures (omega (arith, so_far.place, fits, c.from-at.ensures, c.in_ok-option.ensures.place, c.requires.near, length-drop option.size c.option_here.new.window));
      ahead = λ told. rw (c.skip.ensures, c.from-at.ensures)
          (a_window_goes_on_behind_octets file at option.size c.option_here.new.window (rw (so_far.frame.kept told name) at (c.in_ok-option.ensures.ahead (so_far.frame.told ∙ told))));
      answer = λ told.
          let here = rw (so_far.frame.kept told name, c.in-Some.is) at (c.in_ok-option.ensures.answer (so_far.frame.told ∙ told)) in
          option_step c.args.order file c.loop-option.told c.or-told.result at c.loop-option.rest (at + c.from-at.result) option _ here c.or-told.ensures (omega (arith, c.from-at.ensures)) (so_far.answer told);
      frame = reads_may_be_answered_otherwise ReadFault _ (Ok 0) name _ _ (reads_go_on ReadFault 0 _ name _ _ _ so_far.frame c.in_ok-option.ensures.frame) (λ no. cc);
    }

pub returns-clause-answer : goal.returns-clause-answer
returns-clause-answer g c = λ told.
    let so_far = c.loop-option.invariant in
    let name = c.args.name.now in
    let file = octets_of ((g.D.Depot.state c.args.depot.now).held name) in
    let at = c.loop-option.at in
    let here = rw (so_far.frame.kept told name, c.in_default.is) at (c.in_ok-option.ensures.answer (so_far.frame.told ∙ told)) in
    sym (so_far.answer told) ∙ resolution_end c.args.order c.loop-option.told at c.loop-option.rest (drop at file) here ∙ ap Ok (sym c.unwrap_or.ensures)

pub returns-clause-ahead : goal.returns-clause-ahead
returns-clause-ahead g c = λ told.
    let so_far = c.loop-option.invariant in
    let name = c.args.name.now in
    let file = octets_of ((g.D.Depot.state c.args.depot.now).held name) in
    let at = c.loop-option.at in
    let to : at + (c.loop-option.rest + 4) ≡ c.args.from + (c.args.left + 4) = omega (arith, so_far.place) in
    rw c.skip-2.ensures (subst (λ k. IsFrom file k (drop (c.loop-option.rest + 4) c.option_here.new.window)) to
    (a_window_goes_on_behind_octets file at (c.loop-option.rest + 4) c.option_here.new.window (rw (so_far.frame.kept told name) at (c.in_ok-option.ensures.ahead (so_far.frame.told ∙ told)))))
