use Rattle.std.proofs.lemmas.Result.{on_ok_weaker}
use Rattle.script_lines.proofs.Joined.{command_written}
use Rattle.script_lines.proofs.writing.append_command.Goals as goal

pub returns-clause-ok : goal.returns-clause-ok
returns-clause-ok c =
    on_ok_weaker c.append_parameters.result (λ then. command_written c.args.command.now c.row.result c.of.result _ c.form-form.result.slots.now c.args.out.now.items c.append_fixed.new.out.items _ c.row.ensures c.of.ensures
    c.form-form.ensures.fixed c.form-form.ensures.slots c.in_ok-append_fixed.ensures.ok then) c.append_parameters.ensures.ok
