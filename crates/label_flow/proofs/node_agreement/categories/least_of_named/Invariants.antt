use Rattle.std.proofs.Common.{false, ℕ, ◌≤◌}
use Rattle.std.specs.List.{AllWithin}
use Rattle.label_flow.specs.node_agreement.Meanings.{wire_meaning}
use Rattle.label_flow.specs.node_agreement.inside.Found.{IsSound, IsSettled, reach}
use Rattle.label_flow.proofs.node_agreement.categories.least_of_named.Given as goal

abbrev pub invariant-loop-i : goal.invariant-loop-i
invariant-loop-i l =
    let f = wire_meaning false l.ends.left.now l.ends.left_reading.now in
    let g = wire_meaning false l.ends.right.now l.ends.right_reading.now in
    record {
      sound : IsSound f g l.limit l.found;
      lower : reach l.limit l.found ≤ reach l.limit l.fn.before;
      settled : AllWithin (λ (p : ℕ × ℕ). IsSettled f g l.limit l.found p.0) l.reading.cats 0 l.i;
    }
