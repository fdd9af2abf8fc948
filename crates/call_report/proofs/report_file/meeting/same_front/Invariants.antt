use Rattle.std.proofs.Common.{◌≡◌, ◌≤◌, ◌-◌, take}
use Rattle.call_report.proofs.report_file.meeting.same_front.Given as goal

abbrev pub decreases-loop-same : goal.decreases-loop-same
decreases-loop-same l = l.count - l.same

abbrev pub invariant-loop-same : goal.invariant-loop-same
invariant-loop-same l = record {
  within : l.same ≤ l.count;
  same : take l.same l.one ≡ take l.same l.other;
}
