use Rattle.std.proofs.Common.{◌≡◌, ◌≤◌, ◌-◌, length, take, false}
use Rattle.std.specs.Prelude.{◌==◌}
use Rattle.std.specs.List.{list_any}
use Rattle.call_report.specs.report_file.inside.Word.{word_behind}
use Rattle.call_report.proofs.report_file.word.read_on.Given as goal

abbrev pub decreases-loop-count : goal.decreases-loop-count
decreases-loop-count l = length l.octets - l.count

abbrev pub invariant-loop-count : goal.invariant-loop-count
invariant-loop-count l = record {
  within : l.count ≤ length l.octets;
  one : list_any (λ octet. octet == 10) (take l.count l.octets) ≡ false;
  reads : word_behind (record { word = l.fn.word; versions = l.fn.versions.items }) (take l.count l.octets) ≡ record { word = l.word; versions = l.versions.items };
  few : length l.fn.versions.items ≤ 15 → length l.versions.items ≤ 15;
}
