use Rattle.std.proofs.Common.{◌+◌, ap, ◌∙◌, arith}
use Rattle.ip_headers.specs.inside.Modulo.{modulo}
use Rattle.ip_headers.proofs.Sums.{carry_in}
use Rattle.ip_headers.proofs.sum.carried.Goals as goal

pub returns : goal.returns
returns c = λ more.
    let sum = c.overflowing_add-sum in
    ap (λ n. modulo (sum.result.0 + n + more)) c.from.ensures ∙ carry_in (c.args.a + c.args.b) more sum.result.0 sum.result.1 (omega arith) sum.ensures.value sum.ensures.overflow
