use Rattle.std.proofs.Common.{sym, ◌∙◌}
use Rattle.label_commands.proofs.flow_lines.FileTexts.{names_are_utf8}
use Rattle.label_commands.proofs.flow_lines.file_name.read_file_name.Goals as goal

pub unreachable-requires : goal.unreachable-requires
unreachable-requires c =
    c.in_default.ensures.cases.0 (names_are_utf8 c.args.text.now (sym c.is_file_name.ensures ∙ c.if-not-is_file_name.false))
