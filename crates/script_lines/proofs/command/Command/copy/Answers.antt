use Rattle.std.proofs.Common.{sym, ◌∙◌}
use Rattle.std.proofs.lemmas.Option.{none-some, same_Some}
use Rattle.script_lines.proofs.Commands.{made_again}
use Rattle.script_lines.proofs.command.Command.copy.Goals as goal

pub unreachable-requires : goal.unreachable-requires
unreachable-requires c =
    none-some c.args.self.now (sym c.in-None.is ∙ made_again c.args.self.now c.row.result c.in_ok-fields.fields c.of.result c.command_of.result c.row.ensures c.in_ok-fields.ensures c.of.ensures c.command_of.ensures)

pub returns : goal.returns
returns c =
    same_Some c.in-Some.command c.args.self.now (sym c.in-Some.is ∙ made_again c.args.self.now c.row.result c.in_ok-fields.fields c.of.result c.command_of.result c.row.ensures c.in_ok-fields.ensures c.of.ensures c.command_of.ensures)
