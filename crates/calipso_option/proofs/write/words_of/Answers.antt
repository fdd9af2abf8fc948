use Rattle.std.proofs.Common.{arith}
use Rattle.std.proofs.Math.Facts.{Fits-of_lt}
use Rattle.calipso_option.proofs.Words.{words_are, words_few}
use Rattle.calipso_option.proofs.write.words_of.Goals as goal

pub overflow_cast-result : goal.overflow_cast-result
overflow_cast-result c =
    let label = c.args.label.now in
    Fits-of_lt (omega (arith, c.div_ceil.ensures, c.octets_of.ensures, words_are label.cats, words_few label c.requires))

pub returns : goal.returns
returns c =
    let label = c.args.label.now in
    record {
      count = omega (arith, c.div_ceil.ensures, c.octets_of.ensures, words_are label.cats);
      few = omega (arith, c.div_ceil.ensures, c.octets_of.ensures, words_are label.cats, words_few label c.requires);
    }
