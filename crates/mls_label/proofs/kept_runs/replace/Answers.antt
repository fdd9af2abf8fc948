use Rattle.std.proofs.Common.{◌≡◌, ◌+◌, ◌∷◌, ◌++◌, take, drop, ap, ◌∙◌, arith}
use Rattle.mls_label.proofs.Places.{replaced}
use Rattle.mls_label.proofs.kept_runs.replace.Goals as goal

pub returns-then-start-end-clause-items : goal.returns-then-start-end-clause-items
returns-then-start-end-clause-items c =
    c.remove.ensures ∙ ap (λ xs. take (c.args.start + 1) xs ++ drop c.args.end xs) c.set.ensures ∙ replaced c.args.start c.args.end c.args.runs.now _ c.requires.order c.requires.within

-- one run alone is replaced
pub returns-else-start-end-clause-items : goal.returns-else-start-end-clause-items
returns-else-start-end-clause-items c =
    let next : c.args.start + 1 ≡ c.args.end = omega (arith, c.requires.order, c.if-start-end.false) in
    c.set.ensures ∙ ap (λ k. take c.args.start c.args.runs.now ++ c.args.run ∷ drop k c.args.runs.now) next
