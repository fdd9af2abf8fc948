use Rattle.std.proofs.Common.{◌≡◌, ℕ, ◌-◌, ◌*◌, ◌<◌, min, ◌==◌, ◌∙◌, arith}
use Rattle.std.specs.Int.{bit_at}
use Rattle.mls_label.specs.Cats.{is_within}
use Rattle.mls_label.proofs.category_bitmap.Marks.{has_more, one_octet}
use Rattle.mls_label.proofs.category_bitmap.write.set_run.Goals as goal

pub loop-at-preserved : goal.loop-at-preserved
loop-at-preserved c =
    let a = c.args in
    let at = c.loop-at.at in
    let are : (k : ℕ) → k < 8 → (bit_at c.ones-in-loop-at.result (7 - k) == 1) ≡ is_within (a.first - 8 * at) (min (a.last - 8 * at) 7) k =
    λ k lt. c.ones-in-loop-at.ensures k lt ∙ (λ i. is_within (c.saturating_sub-from.ensures i) (c.min-to.ensures i) k) in
    has_more a.bitmap.now c.loop-at.bitmap a.first a.last at c.ones-in-loop-at.result (omega (arith, c.loop-at-test.true, c.min-end.ensures, c.loop-at.invariant.long)) (omega (arith, c.loop-at.auto.at, c.loop-at-test.true)) (omega (arith, c.loop-at-test.true, c.min-end.ensures)) c.loop-at.invariant are

pub returns-then-last-bitmap-clause-bits : goal.returns-then-last-bitmap-clause-bits
returns-then-last-bitmap-clause-bits c = one_octet c.args.bitmap.now c.args.first c.args.last c.ones.result (omega (arith, c.if-first-last.true)) (omega (arith, c.if-last-bitmap.true)) c.ones.ensures
