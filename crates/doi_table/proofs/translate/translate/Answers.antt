use Rattle.std.proofs.Common.{◌≡◌, Some, [], ap, sym, ◌∙◌}
use Rattle.doi_table.specs.Pairs.{number_by}
use Rattle.doi_table.specs.inside.Walk.{walk}
use Rattle.doi_table.proofs.Translations.{label_ok, label_category}
use Rattle.doi_table.proofs.translate.translate.Goals as goal

pub returns-in-Ok-clause-ok : goal.returns-in-Ok-clause-ok
returns-in-Ok-clause-ok c =
    let way = c.args.way.now in
    let label = c.args.label.now in
    let level : number_by way.levels.items label.level ≡ Some c.in-Some.level = cc (c.level.ensures, c.in-Some.is, c.deref.ensures.value) in
    label_ok way.levels.items way.cats.items label c.in-Some.level c.apply.new.into level (ap (λ pairs. walk (number_by pairs) label.cats []) (sym c.deref-2.ensures.value) ∙ c.in-Ok.ensures.ok)

pub returns-in-Err-clause-err : goal.returns-in-Err-clause-err
returns-in-Err-clause-err c =
    let way = c.args.way.now in
    let label = c.args.label.now in
    let level : number_by way.levels.items label.level ≡ Some c.in-Some.level = cc (c.level.ensures, c.in-Some.is, c.deref.ensures.value) in
    label_category way.levels.items way.cats.items label c.in-Some.level c.in-Err.c level (ap (λ pairs. walk (number_by pairs) label.cats []) (sym c.deref-2.ensures.value) ∙ c.in-Err.ensures.err)
