use Rattle.std.proofs.Common.{◌≡◌, length, map}
use Rattle.call_report.specs.report_lines.Slot.{is_one_of}
use Rattle.call_report.proofs.report_lines.fits.is_one_of.Given as goal

abbrev pub decreases-loop-names : goal.decreases-loop-names
decreases-loop-names l = length l.names

abbrev pub invariant-loop-names : goal.invariant-loop-names
invariant-loop-names l = is_one_of (map (λ name. name.now) l.fn.names) l.word ≡ is_one_of (map (λ name. name.now) l.names) l.word
