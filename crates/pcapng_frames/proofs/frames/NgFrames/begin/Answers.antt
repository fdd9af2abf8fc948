use Rattle.std.proofs.Common.{◌≡◌, ◌-◌, ◌∙◌, sym, Err}
use Rattle.net_io.specs.Depot.{octets_of}
use Rattle.pcapng_frames.specs.declared.fault.NgStop.TheVariants.{ReadFault}
use Rattle.net_io.proofs.Law.{reads_may_be_answered_otherwise}
use Rattle.pcapng_frames.proofs.Readers.{begins_passed, begun}
use Rattle.pcapng_frames.proofs.frames.NgFrames.begin.Goals as goal

-- where the file begins as pcapng does, its first block is a section header
pub returns-in_default : goal.returns-in_default
returns-in_default g c =
    let new = c.read_block.new in
    record {
      answer = λ told.
          let file = octets_of ((g.D.Depot.state c.args.depot.now).held c.args.name.now) in
          let here = rw c.new-section.ensures at (c.in_ok-turn.ensures.answer told) in
          absurd (c.in_default.not-Passed (begins_passed file new.section.section (new.place - 0) new.into.items c.in_ok-turn.turn (c.requires.pcapng told) here));
      name = tt;
      ready = tt;
      frame = reads_may_be_answered_otherwise ReadFault c.in_ok-turn.turn (Err c.stop_at.result) c.args.name.now _ _ c.in_ok-turn.ensures.frame (λ e. (let fault : c.stop_at.result ≡ ReadFault = cc in let no = sym c.stop_at.ensures ∙ fault in cc));
    }

pub returns-clause-ready : goal.returns-clause-ready
returns-clause-ready g c = λ tells.
    let new = c.read_block.new in
    let block = c.in_ok-turn.ensures in
    let told = sym block.frame.told ∙ tells in
    let name = c.args.name.now in
    let file = octets_of ((g.D.Depot.state c.args.depot.now).held name) in
    let here = rw (c.new-section.ensures, c.in-Passed.is) at (block.answer told) in
    rw c.in_ok-own_name.ensures.ok (rw (block.frame.kept told name) (begun file name new.section.section new.place new.window here (block.ahead told)))
