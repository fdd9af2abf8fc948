use Rattle.std.proofs.Common.{◌≤◌, IfSome}
use Rattle.std.specs.List.{AllWithin}
use Rattle.label_flow.proofs.node_agreement.Floors.{IsPassed}
use Rattle.label_flow.proofs.node_agreement.dois.next_doi.Given as goal

abbrev pub invariant-loop-i : goal.invariant-loop-i
invariant-loop-i l = record {
  above : IfSome l.lowest (λ low. l.from ≤ low);
  passed : AllWithin (IsPassed l.proto l.from l.lowest) l.dois 0 l.i;
}
