use Rattle.std.proofs.Common.{◌∙◌, sym}
use Rattle.call_report.specs.report_lines.Line.{line_words}
use Rattle.call_report.proofs.report_lines.Words.{told_nothing}
use Rattle.call_report.proofs.report_lines.told.told_word.Goals as goal

pub returns-then-not-has_field : goal.returns-then-not-has_field
returns-then-not-has_field c = sym (told_nothing c.args.field c.args.slots.now (line_words c.args.line.now) (sym c.has_field.ensures ∙ c.if-not-has_field.true))
