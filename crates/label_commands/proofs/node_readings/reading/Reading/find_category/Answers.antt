use Rattle.std.proofs.Common.{◌≡◌, ◌<◌, Some, None, sym, ap, subst, ◌∙◌, arith}
use Rattle.doi_table.specs.Pairs.{number_by, flipped}
use Rattle.label_commands.specs.node_readings.Reading.{NamedMeanings, meaning_in, IsReading}
use Rattle.label_commands.proofs.node_readings.Meanings.{by_meaning, by_itself}
use Rattle.label_commands.proofs.node_readings.reading.Reading.find_category.Goals as goal

-- what is found among the pairs that are kept the other way round
found : (c : goal.After-row_known-1) → (c.in-Some.category.now < 65535) × (meaning_in c.args.self.now.cats c.in-Some.category.now ≡ c.args.meaning)
found c =
    let kept : number_by (flipped c.self.inside.cats.entries) c.args.meaning ≡ Some c.in-Some.category.now =
    ap (λ ps. number_by ps c.args.meaning) (sym c.self.invariant.turned) ∙ sym c.in-Some.ensures.value in
    let is : IsReading c.args.self.now = subst IsReading c.self.view_is c.self.invariant.reading in
    by_meaning c.args.self.now is c.args.meaning c.in-Some.category.now (ap (λ (n : NamedMeanings). number_by (flipped n.cats) c.args.meaning) (sym c.self.view_is) ∙ kept)

pub overflow_cast-result : goal.overflow_cast-result
overflow_cast-result c = let below = (found c).0 in omega arith

pub returns-in-Some-clause-category : goal.returns-in-Some-clause-category
returns-in-Some-clause-category c = found c

pub returns-in-None-clause-category : goal.returns-in-None-clause-category
returns-in-None-clause-category c =
    let kept : number_by (flipped c.self.inside.cats.entries) c.args.meaning ≡ None =
    ap (λ ps. number_by ps c.args.meaning) (sym c.self.invariant.turned) ∙ sym c.in-None.ensures.value in
    let is : IsReading c.args.self.now = subst IsReading c.self.view_is c.self.invariant.reading in
    by_itself c.args.self.now is c.args.meaning (ap (λ (n : NamedMeanings). number_by (flipped n.cats) c.args.meaning) (sym c.self.view_is) ∙ kept) c.unnamed_category.result c.unnamed_category.ensures
