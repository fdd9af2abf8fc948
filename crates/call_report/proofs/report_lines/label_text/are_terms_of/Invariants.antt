use Rattle.std.proofs.Common.{◌≡◌, drop}
use Rattle.std.specs.Str.{bytes_eq}
use Rattle.mls_label.specs.Runs.{runs_of}
use Rattle.call_report.specs.report_lines.inside.Fronts.{runs_text}
use Rattle.call_report.proofs.report_lines.label_text.are_terms_of.Given as goal

-- the text is that of all runs if what is left of it is that of the runs that are left
abbrev pub invariant-loop-i : goal.invariant-loop-i
invariant-loop-i l = bytes_eq l.text (runs_text 58 (runs_of l.cats)) ≡ bytes_eq l.rest (runs_text l.separator (drop l.i (runs_of l.cats)))
