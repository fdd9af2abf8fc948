use Rattle.std.proofs.Common.{length, ap, sym, subst, ◌∙◌, arith}
use Rattle.std.proofs.lemmas.List.{length_push}
use Rattle.mls_label.specs.inside.Kept.{cats_of, AreApart}
use Rattle.mls_label.proofs.Splice.{appended_apart, appended_cats, before_by_numbers}
use Rattle.mls_label.proofs.kept_runs.append.Goals as goal

pub returns-clause-kept : goal.returns-clause-kept
returns-clause-kept c =
    let runs = c.args.runs.now in
    let run = c.args.run in
    record {
      apart = subst (AreApart 0) (sym c.push.ensures) (appended_apart runs run c.requires.kept.apart c.requires.order c.requires.categories (before_by_numbers runs run c.requires.kept.apart c.requires.behind));
      few = omega (arith, ap length c.push.ensures, length_push runs run, c.requires.room);
    }

pub returns-clause-cats : goal.returns-clause-cats
returns-clause-cats c =
    let runs = c.args.runs.now in
    let run = c.args.run in
    ap cats_of c.push.ensures ∙ appended_cats runs run c.requires.kept.apart c.requires.order c.requires.categories (before_by_numbers runs run c.requires.kept.apart c.requires.behind)
