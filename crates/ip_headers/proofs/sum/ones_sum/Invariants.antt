use Rattle.std.proofs.Common.{◌≡◌, ◌+◌, sum, length}
use Rattle.mls_label.specs.octet_grammar.Octets.{IsOctets}
use Rattle.ip_headers.specs.Sum.{words_of}
use Rattle.ip_headers.specs.inside.Modulo.{modulo}
use Rattle.ip_headers.proofs.sum.ones_sum.Given as goal

abbrev pub invariant-loop-rest : goal.invariant-loop-rest
invariant-loop-rest l = record {
  octets : IsOctets l.octets;
  same : modulo (l.total + sum (words_of l.rest)) ≡ modulo (sum (words_of l.octets));
}

abbrev pub decreases-loop-rest : goal.decreases-loop-rest
decreases-loop-rest l = length l.rest
