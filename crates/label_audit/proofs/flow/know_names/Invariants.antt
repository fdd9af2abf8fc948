use Rattle.std.proofs.Common.{◌-◌, ◌<◌, ◌≤◌, ℕ, List, length, get_or}
use Rattle.domain_map.specs.address_text.Name.{IsNameText}
use Rattle.label_audit.proofs.flow.know_names.Given as goal

abbrev pub invariant-loop-known : goal.invariant-loop-known
invariant-loop-known l = record {
  within : l.known ≤ length l.names;
  each : (i : ℕ) (d : List ℕ) → i < l.known → IsNameText (get_or l.names i d);
}

abbrev pub decreases-loop-known : goal.decreases-loop-known
decreases-loop-known l = length l.names - l.known
