use Rattle.std.proofs.Common.{◌≡◌, ◌++◌, map}
use Rattle.std.specs.List.{flat_map}
use Rattle.netlabel_report.specs.inside.Tallies.{tally_at}
use Rattle.netlabel_report.specs.report_telling.Summary.{tally_text}
use Rattle.netlabel_report.proofs.report_telling.summary.append_counts.Given as goal

abbrev pub invariant-loop-place : goal.invariant-loop-place
invariant-loop-place l = l.out.items ++ flat_map tally_text (map tally_at l.place-iterator) ≡ l.initial.out.items ++ flat_map tally_text (map tally_at l.fn.counts.entries)
