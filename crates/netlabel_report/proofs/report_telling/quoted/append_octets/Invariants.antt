use Rattle.std.proofs.Common.{◌≡◌, ◌++◌, length}
use Rattle.std.specs.List.{flat_map}
use Rattle.netlabel_report.specs.report_telling.Quoted.{marked}
use Rattle.netlabel_report.proofs.report_telling.quoted.append_octets.Given as goal

abbrev pub decreases-loop-rest : goal.decreases-loop-rest
decreases-loop-rest l = length l.rest

abbrev pub invariant-loop-rest : goal.invariant-loop-rest
invariant-loop-rest l = l.out.items ++ flat_map (marked l.mark) l.rest ≡ l.initial.out.items ++ flat_map (marked l.mark) l.text
