use Rattle.std.proofs.Common.{arith, ap, ◌∙◌, ◌-◌, ◌++◌, length, take, drop}
use Rattle.net_io.proofs.Parts.{written_more}
use Rattle.net_io.proofs.writing.write_all_to.Goals as goal

pub loop-done-preserved : goal.loop-done-preserved
loop-done-preserved g c =
    let before = (g.S.Sink.state c.args.sink.now).written in
    let bytes = c.args.bytes.now in
    let done = c.loop-done.done in
    let n = c.in_ok-done.field-0 in
    record {
      within = omega (arith, c.in_ok-done.ensures.part.0);
      written = λ told.
          c.in_ok-done.ensures.ok (c.loop-done.invariant.told ∙ told)
          ∙ ap (λ written. written ++ take n (take (length bytes - done) (drop done bytes))) (c.loop-done.invariant.written told)
          ∙ written_more done n bytes before;
      told = c.in_ok-done.ensures.told ∙ c.loop-done.invariant.told;
      counted = c.in_ok-done.ensures.counts.ok ∙ c.loop-done.invariant.counted;
    }
