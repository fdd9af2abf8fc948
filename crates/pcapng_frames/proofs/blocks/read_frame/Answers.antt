use Rattle.std.proofs.Common.{arith, ◌-◌, ◌∙◌, sym, Ok, Some, None, drop}
use Rattle.std.specs.Prelude.{option_map}
use Rattle.net_io.specs.Depot.{octets_of}
use Rattle.net_io.proofs.Law.{reads_go_on, reads_may_be_answered_otherwise}
use Rattle.pcapng_frames.specs.declared.fault.NgStop.TheVariants.{ReadFault}
use Rattle.pcapng_frames.specs.Block.{block_at}
use Rattle.pcapng_frames.specs.Reader.{found_here}
use Rattle.pcapng_frames.specs.inside.Parts.{turn_block}
use Rattle.pcapng_frames.proofs.Answers.{by_question}
use Rattle.pcapng_frames.proofs.Chains.{next_fault, next_end, next_passed, next_found, chain_more}
use Rattle.pcapng_frames.proofs.Goings.{ends_here}
use Rattle.pcapng_frames.proofs.Tables.{later_on}
use Rattle.pcapng_frames.proofs.blocks.read_frame.Goals as goal

pub returns-in_err-read_block-clause-answer : goal.returns-in_err-read_block-clause-answer
returns-in_err-read_block-clause-answer g c = λ told.
    let so_far = c.loop-head.invariant in
    let name = c.args.name.now in
    let file = octets_of ((g.D.Depot.state c.args.depot.now).held name) in
    let section = c.loop-head.section.section in
    let at = c.loop-head.place in
    let new = c.read_block.new in
    by_question (turn_block new.section.section (new.place - at) new.into.items) (option_map (found_here new.section.section new.place new.into.items)) _ c.from_residual.result (block_at section at (drop at file)) _ c.from_residual.ensures.1
    (λ fault is. sym (so_far.answer told) ∙ next_fault section at (drop at file) fault is)
    (rw (so_far.frame.kept told name) at (c.in_err-read_block.ensures.answer (so_far.frame.told ∙ told)))

pub returns-in-End-clause-answer : goal.returns-in-End-clause-answer
returns-in-End-clause-answer g c = λ told.
    let so_far = c.loop-head.invariant in
    let name = c.args.name.now in
    let file = octets_of ((g.D.Depot.state c.args.depot.now).held name) in
    let at = c.loop-head.place in
    let here = rw (so_far.frame.kept told name, c.in-End.is) at (c.in_ok-read_block.ensures.answer (so_far.frame.told ∙ told)) in
    sym (so_far.answer told) ∙ next_end c.loop-head.section.section at (drop at file) here

pub returns-in-End-clause-end : goal.returns-in-End-clause-end
returns-in-End-clause-end g c = λ none told.
    let so_far = c.loop-head.invariant in
    let name = c.args.name.now in
    let file = octets_of ((g.D.Depot.state c.args.depot.now).held name) in
    let at = c.loop-head.place in
    let block = c.in_ok-read_block.ensures in
    let here = rw (so_far.frame.kept told name, c.in-End.is) at (block.answer (so_far.frame.told ∙ told)) in
    rw (block.end c.in-End.is, block.stays c.in-End.is) (ends_here c.loop-head.section.section at (drop at file) here)

pub returns-in-Frame-clause-answer : goal.returns-in-Frame-clause-answer
returns-in-Frame-clause-answer g c = λ told.
    let so_far = c.loop-head.invariant in
    let name = c.args.name.now in
    let file = octets_of ((g.D.Depot.state c.args.depot.now).held name) in
    let new = c.read_block.new in
    let here = rw (so_far.frame.kept told name, c.in-Frame.is) at (c.in_ok-read_block.ensures.answer (so_far.frame.told ∙ told)) in
    sym (so_far.answer told) ∙ next_found c.loop-head.section.section new.section.section file c.loop-head.place new.place c.in-Frame.head new.into.items c.read_block.ensures.onward here

pub returns-in-Frame-clause-chain : goal.returns-in-Frame-clause-chain
returns-in-Frame-clause-chain g c = λ told.
    let so_far = c.loop-head.invariant in
    let name = c.args.name.now in
    let file = octets_of ((g.D.Depot.state c.args.depot.now).held name) in
    let new = c.read_block.new in
    let here = rw (so_far.frame.kept told name, c.in-Frame.is) at (c.in_ok-read_block.ensures.answer (so_far.frame.told ∙ told)) in
    chain_more file c.args.section.now.section c.args.place.now c.loop-head.section.section c.loop-head.place new.section.section new.place
    (Some (record { head = c.in-Frame.head; octets = new.into.items })) (so_far.chain told) c.read_block.ensures.onward here

pub loop-head-preserved : goal.loop-head-preserved
loop-head-preserved g c =
    let so_far = c.loop-head.invariant in
    let name = c.args.name.now in
    let file = octets_of ((g.D.Depot.state c.args.depot.now).held name) in
    let old = c.loop-head.section.section in
    let at = c.loop-head.place in
    let new = c.read_block.new in
    let block = c.in_ok-read_block.ensures in
    record {
      onward = omega (arith, so_far.onward, c.read_block.ensures.onward);
      empty = block.passed c.in-Passed.is;
      small = block.place;
      later = later_on c.args.section.now c.loop-head.section new.section so_far.later c.read_block.ensures.later;
      memory = omega (arith, so_far.memory, c.read_block.ensures.memory);
      ahead = λ told. rw (so_far.frame.kept told name) at (block.ahead (so_far.frame.told ∙ told));
      chain = λ told.
          let here = rw (so_far.frame.kept told name, c.in-Passed.is) at (block.answer (so_far.frame.told ∙ told)) in
          chain_more file c.args.section.now.section c.args.place.now old at new.section.section new.place None (so_far.chain told) c.read_block.ensures.onward here;
      answer = λ told.
          let here = rw (so_far.frame.kept told name, c.in-Passed.is) at (block.answer (so_far.frame.told ∙ told)) in
          sym (next_passed old new.section.section file at new.place c.read_block.ensures.onward here) ∙ so_far.answer told;
      frame = reads_may_be_answered_otherwise ReadFault _ (Ok 0) name _ _ (reads_go_on ReadFault 0 _ name _ _ _ so_far.frame block.frame) (λ no. cc);
    }
