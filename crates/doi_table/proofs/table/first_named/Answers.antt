use Rattle.std.proofs.Common.{ℕ, ◌∷◌, cond, Some, suc, sym, ap, ◌∙◌, drop, add-one}
use Rattle.std.proofs.Math.Seq.{drop-cons}
use Rattle.std.proofs.lemmas.Option.{slice_get_within, get_or_from_slice_get}
use Rattle.mls_label.specs.declared.label.Proto.{Proto}
use Rattle.doi_table.specs.declared.plan.DoiPlan.{DoiPlan}
use Rattle.doi_table.specs.Table.{Entries, definition_of}
use Rattle.doi_table.proofs.table.first_named.Goals as goal

pub returns-then-is_named : goal.returns-then-is_named
returns-then-is_named c =
    let entries : Entries = c.args.definitions.now.entries in
    let i = c.loop-place.place in
    let e : (Proto × ℕ) × DoiPlan = (c.entry_at.result.0.now, c.entry_at.result.1.now) in
    let step = drop-cons entries i e (slice_get_within entries i e c.entry_at.ensures) ∙ ap (λ x. x ∷ drop (suc i) entries) (get_or_from_slice_get entries i e e c.entry_at.ensures) in
    sym (c.loop-place.invariant ∙ ap (λ es. definition_of es c.args.proto c.args.doi) step
    ∙ ap (λ hit. cond hit (Some e.1) (definition_of (drop (suc i) entries) c.args.proto c.args.doi)) (sym c.is_named.ensures ∙ c.if-is_named.true))

pub loop-place-preserved : goal.loop-place-preserved
loop-place-preserved c =
    let entries : Entries = c.args.definitions.now.entries in
    let i = c.loop-place.place in
    let e : (Proto × ℕ) × DoiPlan = (c.entry_at.result.0.now, c.entry_at.result.1.now) in
    let step = drop-cons entries i e (slice_get_within entries i e c.entry_at.ensures) ∙ ap (λ x. x ∷ drop (suc i) entries) (get_or_from_slice_get entries i e e c.entry_at.ensures) in
    c.loop-place.invariant ∙ ap (λ es. definition_of es c.args.proto c.args.doi) step
    ∙ ap (λ hit. cond hit (Some e.1) (definition_of (drop (suc i) entries) c.args.proto c.args.doi)) (sym c.is_named.ensures ∙ c.if-is_named.false)
    ∙ ap (λ n. definition_of (drop n entries) c.args.proto c.args.doi) (sym (add-one i))
