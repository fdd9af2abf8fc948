use Rattle.std.proofs.Common.{◌||◌, ◌∙◌, arith}
use Rattle.mls_label.proofs.octet_grammar.Octets.{octets_of}
use Rattle.mls_label.specs.Cats.{is_within}
use Rattle.mls_label.specs.category_bitmap.Bitmap.{has_bit}
use Rattle.mls_label.proofs.category_bitmap.Marks.{runs_none, runs_more, runs_all}
use Rattle.mls_label.proofs.category_bitmap.write.set_cats.Goals as goal

pub loop-i-init : goal.loop-i-init
loop-i-init c = runs_none c.args.cats.now c.args.bitmap.now (octets_of c.args.bitmap.now c.type_inv.bitmap) c.requires.zeros

pub loop-i-preserved : goal.loop-i-preserved
loop-i-preserved c =
    let l = c.loop-i in
    runs_more c.args.cats.now l.bitmap c.set_run.new.bitmap _ l.i c.run-first.result c.run-first.ensures.run l.invariant (octets_of c.set_run.new.bitmap c.type_inv.bitmap) c.set_run.ensures.length (λ k lt. c.set_run.ensures.bits k lt ∙ (λ i. has_bit l.bitmap k || is_within (c.from.ensures i) (c.from-in-loop-i.ensures i) k))

pub returns : goal.returns
returns c =
    runs_all c.args.cats.now c.loop-i.bitmap _ c.loop-i.i (omega (arith, c.loop-i-test.false, c.runs-i-end.ensures.count)) c.loop-i.invariant
