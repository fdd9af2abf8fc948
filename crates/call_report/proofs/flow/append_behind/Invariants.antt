use Rattle.std.proofs.Common.{◌≡◌, ◌++◌, length}
use Rattle.call_report.specs.inside.Extends.{Extends}
use Rattle.call_report.specs.inside.Versions.{versions_behind}
use Rattle.call_report.proofs.flow.append_behind.Given as goal

abbrev pub decreases-loop-rest : goal.decreases-loop-rest
decreases-loop-rest l = length l.rest

-- what is written with what is still to be written is all
abbrev pub invariant-loop-rest : goal.invariant-loop-rest
invariant-loop-rest l = record {
  extends : Extends l.initial.line.items l.line.items;
  whole : l.line.items ++ versions_behind l.rest ≡ l.initial.line.items ++ versions_behind l.versions;
}
