use Rattle.std.proofs.Common.{◌≡◌, ◌≤◌, ◌-◌, ℕ, length, Some}
use Rattle.std.specs.Prelude.{slice_get}
use Rattle.label_flow.specs.flow_access.Valid.{plan_of}
use Rattle.call_report.proofs.script_input.Comparing.{GoOn}
use Rattle.call_report.proofs.script_input.compare.compare_hops.Given as goal

abbrev pub decreases-loop-place : goal.decreases-loop-place
decreases-loop-place g l = length l.hops - l.place

-- the hops up to a place are compared, and neither state of the tables has gone past its version
abbrev pub invariant-loop-place : goal.invariant-loop-place
invariant-loop-place g l = record {
  some : 1 ≤ l.place;
  within : l.place ≤ length l.hops;
  plans : (l.left.plan ≡ plan_of l.script) × (l.right.plan ≡ plan_of l.script);
  left : (v : ℕ) → slice_get l.versions (l.place - 1) ≡ Some v → (l.left.version ≤ v) × (l.right.version ≤ v);
  on : GoOn (g.C.Compares.finds) (plan_of l.script) l.script.readings l.hops l.versions (l.place - 1) l.found.items;
}
