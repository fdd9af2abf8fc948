use Rattle.std.proofs.Common.{◌≡◌, ◌+◌, drop, sum, ap, sym, ◌∙◌, arith}
use Rattle.std.proofs.lemmas.List.{take_rest}
use Rattle.ip_headers.specs.Sum.{words_of}
use Rattle.ip_headers.specs.inside.Modulo.{modulo}
use Rattle.ip_headers.proofs.Sums.{eight_words, sum_is}
use Rattle.ip_headers.proofs.sum.ones_sum.Goals as goal

pub loop-rest-preserved : goal.loop-rest-preserved
loop-rest-preserved c =
    let l = c.loop-rest in
    let s = l.rest.now in
    let eight = c.from_be_bytes-eight in
    let e : modulo (l.total + eight.result + sum (words_of (drop 8 s))) ≡ modulo (l.total + sum (words_of s)) =
    rw eight.ensures (eight_words l.total s c.in-len8-up.len_at_least) in
    record {
      octets = l.invariant.octets;
      same =
          c.carried-total.ensures _ ∙ ap (λ xs. modulo (l.total + eight.result + sum (words_of xs))) (take_rest s 8)
          ∙ e ∙ l.invariant.same;
    }

pub returns : goal.returns
returns c =
    let l = c.loop-rest in
    let none : c.carried.result + 0 ≡ c.carried.result = omega arith in
    let one : l.total + c.last_sum.result + 0 ≡ l.total + c.last_sum.result = omega arith in
    c.modulo.ensures ∙ ap modulo (sym none) ∙ c.carried.ensures 0 ∙ ap modulo one
    ∙ c.last_sum.ensures l.total ∙ l.invariant.same ∙ sym (sum_is c.args.octets.now l.invariant.octets)
