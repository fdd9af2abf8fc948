use Rattle.std.proofs.Common.{◌≡◌, ◌+◌, drop, sum, ap, ◌∙◌, arith}
use Rattle.std.proofs.lemmas.List.{take_rest}
use Rattle.ip_headers.specs.Sum.{words_of}
use Rattle.ip_headers.specs.inside.Modulo.{modulo}
use Rattle.ip_headers.proofs.Sums.{four_words}
use Rattle.ip_headers.proofs.sum.last_sum.Goals as goal

pub returns : goal.returns
returns c = λ total.
    let s = c.args.octets.now in
    let front = c.from_be_bytes.result in
    let back = c.few_sum-2.result in
    let e : total + (c.from.result + back) ≡ total + front + back = omega (arith, c.from.ensures) in
    ap modulo e ∙ ap (λ n. modulo (total + front + n)) c.few_sum-2.ensures.value ∙ ap (λ xs. modulo (total + front + sum (words_of xs))) (take_rest s 4)
    ∙ ap (λ n. modulo (total + n + sum (words_of (drop 4 s)))) c.from_be_bytes.ensures ∙ four_words total s c.in-len4-up.len_at_least
