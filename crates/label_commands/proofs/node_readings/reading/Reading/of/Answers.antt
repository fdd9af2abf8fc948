use Rattle.std.proofs.Common.{◌∙◌, true, false, refl, sym}
use Rattle.std.proofs.lemmas.Bool.{not-true, not-false}
use Rattle.label_commands.specs.node_readings.Reading.{is_distinct}
use Rattle.label_commands.proofs.node_readings.Starts.{is_kept, levels_read, not_increasing, increasing_or}
use Rattle.label_commands.proofs.node_readings.reading.Reading.of.Goals as goal

pub returns-then-not-is_increasing-clause-err : goal.returns-then-not-is_increasing-clause-err
returns-then-not-is_increasing-clause-err c =
    let levels = levels_read c.args.levels.now c.deref.result.now c.in_ok-first.field-0.first.entries false c.in_ok-first.field-0.once (c.deref.ensures.value ∙ c.in_ok-wide.ensures) c.in_ok-first.ensures c.if-not-is_increasing.ensures in
    not_increasing c.args.levels.now c.args.categories.now levels.increasing_is

pub returns-then-not-once-clause-err : goal.returns-then-not-once-clause-err
returns-then-not-once-clause-err c =
    let levels = levels_read c.args.levels.now c.deref.result.now c.in_ok-first.field-0.first.entries true c.in_ok-first.field-0.once (c.deref.ensures.value ∙ c.in_ok-wide.ensures) c.in_ok-first.ensures c.if-not-is_increasing.ensures in
    increasing_or c.args.levels.now c.args.categories.now false (is_distinct c.args.categories.now) levels.increasing_is (levels.once_is ∙ c.if-not-once.true) refl

pub returns-then-not-named-clause-err : goal.returns-then-not-named-clause-err
returns-then-not-named-clause-err c =
    let levels = levels_read c.args.levels.now c.deref.result.now c.in_ok-first.field-0.first.entries true c.in_ok-first.field-0.once (c.deref.ensures.value ∙ c.in_ok-wide.ensures) c.in_ok-first.ensures c.if-not-is_increasing.ensures in
    let distinct = sym c.in_ok-named.ensures.distinct ∙ not-true c.in_ok-named.named.distinct c.if-not-named.true in
    increasing_or c.args.levels.now c.args.categories.now true false levels.increasing_is (levels.once_is ∙ c.if-not-once.false) distinct

pub invariant_of-result : goal.invariant_of-result
invariant_of-result c =
    let levels = levels_read c.args.levels.now c.deref.result.now c.in_ok-first.field-0.first.entries true c.in_ok-first.field-0.once (c.deref.ensures.value ∙ c.in_ok-wide.ensures) c.in_ok-first.ensures c.if-not-is_increasing.ensures in
    let distinct = sym c.in_ok-named.ensures.distinct ∙ not-false c.in_ok-named.named.distinct c.if-not-named.false in
    let is = not-false c.in_ok-named.named.distinct c.if-not-named.false in
    is_kept c.args.levels.now c.args.categories.now c.in_ok-first.field-0.first.entries c.in_ok-named.named.first.entries c.in_ok-named.named.by_meaning.entries
    (levels.whole c.if-not-once.false) (c.in_ok-named.ensures.whole is) (c.in_ok-named.ensures.turned is)
    levels.increasing_is (levels.once_is ∙ c.if-not-once.false) distinct c.requires

pub returns-clause-allowed : goal.returns-clause-allowed
returns-clause-allowed c =
    let levels = levels_read c.args.levels.now c.deref.result.now c.in_ok-first.field-0.first.entries true c.in_ok-first.field-0.once (c.deref.ensures.value ∙ c.in_ok-wide.ensures) c.in_ok-first.ensures c.if-not-is_increasing.ensures in
    let distinct = sym c.in_ok-named.ensures.distinct ∙ not-false c.in_ok-named.named.distinct c.if-not-named.false in
    increasing_or c.args.levels.now c.args.categories.now true true levels.increasing_is (levels.once_is ∙ c.if-not-once.false) distinct
