use Rattle.std.proofs.Common.{◌≡◌, length}
use Rattle.std.specs.Prelude.{◌==◌}
use Rattle.std.specs.List.{list_all, slice_split}
use Rattle.mls_range.specs.LabelText.{comma}
use Rattle.call_report.specs.report_lines.Slot.{is_number}
use Rattle.call_report.proofs.report_lines.fits.is_versions.Given as goal

abbrev pub decreases-loop-part : goal.decreases-loop-part
decreases-loop-part l = length l.text

abbrev pub invariant-loop-part : goal.invariant-loop-part
invariant-loop-part l = list_all is_number (slice_split (λ c. c == comma) l.word) ≡ list_all is_number (slice_split (λ c. c == comma) l.text)
