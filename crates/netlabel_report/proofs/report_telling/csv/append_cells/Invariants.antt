use Rattle.std.proofs.Common.{◌≡◌, ◌++◌, length}
use Rattle.netlabel_report.specs.report_telling.Csv.{columns, cells_text}
use Rattle.netlabel_report.proofs.report_telling.csv.append_cells.Given as goal

abbrev pub decreases-loop-fields : goal.decreases-loop-fields
decreases-loop-fields l = length l.fields

abbrev pub invariant-loop-fields : goal.invariant-loop-fields
invariant-loop-fields l = l.out.items ++ cells_text l.fields l.at l.form l.line ≡ l.initial.out.items ++ cells_text columns l.at l.form l.line
