use Rattle.std.proofs.Common.{◌∙◌}
use Rattle.script_lines.proofs.command_values.Lists.{all_written, left_by_push}
use Rattle.script_lines.proofs.command_values.list.append_entries.Goals as goal

pub returns-clause-ok : goal.returns-clause-ok
returns-clause-ok g c =
    all_written g.E.ListEntry.text_of c.args.entries.now c.first-item.result c.loop-entry.entry-index c.args.out.now.items c.write.new.out.items _
    c.in-len1-up.len_at_least c.first-item.is c.loop-entry-test.false c.in_ok-write.ensures.ok c.loop-entry.invariant

pub returns-in_err-push-clause-err : goal.returns-in_err-push-clause-err
returns-in_err-push-clause-err g c =
    left_by_push c.from_residual-in_err-push.result c.args.out.now.items c.write.new.out.items _ _ _ c.in_ok-write.ensures.ok (c.in_err-push.ensures.items ∙ c.loop-entry.invariant)
