use Rattle.std.proofs.Common.{◌-◌, ◌*◌, ◌/◌, ◌%◌, ◌^◌, ◌==◌, bit_or, ap, ◌∙◌, arith}
use Rattle.std.specs.Int.{bit_at}
use Rattle.std.specs.Int.Bits.{bit_xor}
use Rattle.mls_label.proofs.category_bitmap.Words.{turn_bits}
use Rattle.mls_label.proofs.category_bitmap.read.turns_of.Goals as goal

pub returns : goal.returns
returns c =
    let word = c.args.word in
    λ k lt.
    ap (λ n. bit_at (bit_xor word (bit_or (word / 2 ^ 1) (n * 2 ^ 31 % 2 ^ 32))) (31 - k) == 1) c.from.ensures
    ∙ turn_bits word c.args.last k (omega arith) lt
