use Rattle.script_lines.proofs.Joined.{fixed_written}
use Rattle.script_lines.proofs.writing.append_fixed.Goals as goal

pub returns-clause-ok : goal.returns-clause-ok
returns-clause-ok c =
    fixed_written c.args.fixed.now c.loop-rest.rest.now _ c.as_bytes.result.now c.args.out.now.items c.extend_from_slice.new.self.items _ c.in-len1-up.len_at_least
    c.as_bytes.ensures.value c.in_ok-extend_from_slice.ensures.items c.in_default-rest.len_below c.loop-rest.invariant.words
