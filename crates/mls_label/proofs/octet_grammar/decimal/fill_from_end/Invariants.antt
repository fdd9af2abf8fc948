use Rattle.std.proofs.Common.{◌≡◌, ◌≤◌, ◌++◌, length, drop}
use Rattle.std.specs.Fmt.{decimal}
use Rattle.mls_label.proofs.octet_grammar.decimal.fill_from_end.Given as goal

-- the digits that are written stand behind those of the rest, and there is room for these
abbrev pub invariant-loop-rest : goal.invariant-loop-rest
invariant-loop-rest l = record {
  spelled : decimal l.rest ++ drop l.first l.digits ≡ decimal l.n;
  room : length (decimal l.rest) ≤ l.first;
  within : l.first ≤ 20;
}

abbrev pub decreases-loop-rest : goal.decreases-loop-rest
decreases-loop-rest l = l.rest
