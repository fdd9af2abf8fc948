use Rattle.call_report.proofs.report_lines.label_text.+after_number.Given as goal

abbrev pub decreases-after_number : goal.decreases-after_number
decreases-after_number l = l.number
