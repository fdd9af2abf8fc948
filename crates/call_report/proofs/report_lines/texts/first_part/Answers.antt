use Rattle.std.proofs.Common.{sym, ◌∙◌}
use Rattle.std.specs.Prelude.{◌==◌}
use Rattle.call_report.proofs.report_lines.Parts.{split_here, split_nowhere}
use Rattle.call_report.proofs.report_lines.texts.first_part.Goals as goal

pub returns-in-Some-clause-words : goal.returns-in-Some-clause-words
returns-in-Some-clause-words c = split_here (λ x. x == c.args.octet) c.args.text.now c.in-Some.end (sym c.place_of.ensures ∙ c.in-Some.is)

pub returns-in-None-clause-words : goal.returns-in-None-clause-words
returns-in-None-clause-words c = split_nowhere (λ x. x == c.args.octet) c.args.text.now (sym c.place_of.ensures ∙ c.in-None.is)
