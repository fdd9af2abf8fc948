use Rattle.std.proofs.Common.{◌≡◌, length, map}
use Rattle.call_report.specs.report_lines.Slot.{is_pair_of}
use Rattle.call_report.proofs.report_lines.fits.is_pair_of.Given as goal

abbrev pub decreases-loop-pairs : goal.decreases-loop-pairs
decreases-loop-pairs l = length l.pairs

abbrev pub invariant-loop-pairs : goal.invariant-loop-pairs
invariant-loop-pairs l = is_pair_of (map (λ pair. pair.now) l.fn.pairs) l.before l.word ≡ is_pair_of (map (λ pair. pair.now) l.pairs) l.before l.word
