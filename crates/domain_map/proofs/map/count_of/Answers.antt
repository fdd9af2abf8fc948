use Rattle.std.proofs.Common.{ap, length, take, arith, add-one}
use Rattle.domain_map.specs.Domains.{lines_of}
use Rattle.domain_map.proofs.Rules.{lines_step}
use Rattle.domain_map.proofs.map.count_of.Goals as goal

pub loop-place-preserved : goal.loop-place-preserved
loop-place-preserved c =
    let entries = c.args.rules.now.entries in
    let i = c.loop-place.place in
    let more = lines_step entries i (c.entry_at.result.0.now, c.entry_at.result.1.now) c.entry_at.ensures in
    record {
      counted = omega (arith, c.loop-place.invariant.counted, c.lines-count.ensures.lines, more, ap (λ n. length (lines_of (take n entries))) (add-one i));
      few = omega (arith, c.loop-place.invariant.few, c.lines-count.ensures.few);
    }
