use Rattle.std.proofs.Common.{◌∷◌, cond, Some, suc, sym, ap, ◌∙◌, drop, add-one}
use Rattle.std.proofs.Math.Seq.{drop-cons}
use Rattle.std.proofs.lemmas.Option.{slice_get_within, get_or_from_slice_get}
use Rattle.domain_map.specs.declared.address_text.address.Address.{Address}
use Rattle.node_tables.specs.declared.receiver.Receiver.{Receiver}
use Rattle.node_tables.specs.Tables.{Receivers, find_receiver_of}
use Rattle.node_tables.proofs.receivers.first_at.Goals as goal

pub returns-then-same : goal.returns-then-same
returns-then-same c =
    let entries : Receivers = c.args.receivers.now.entries in
    let i = c.loop-place.place in
    let e : Address × Receiver = (c.entry_at.result.0.now, c.entry_at.result.1.now) in
    let step = drop-cons entries i e (slice_get_within entries i e c.entry_at.ensures) ∙ ap (λ x. x ∷ drop (suc i) entries) (get_or_from_slice_get entries i e e c.entry_at.ensures) in
    sym (c.loop-place.invariant ∙ ap (λ es. find_receiver_of es c.args.address.now) step
    ∙ ap (λ hit. cond hit (Some e.1) (find_receiver_of (drop (suc i) entries) c.args.address.now)) (sym c.same.ensures ∙ c.if-same.true))

pub loop-place-preserved : goal.loop-place-preserved
loop-place-preserved c =
    let entries : Receivers = c.args.receivers.now.entries in
    let i = c.loop-place.place in
    let e : Address × Receiver = (c.entry_at.result.0.now, c.entry_at.result.1.now) in
    let step = drop-cons entries i e (slice_get_within entries i e c.entry_at.ensures) ∙ ap (λ x. x ∷ drop (suc i) entries) (get_or_from_slice_get entries i e e c.entry_at.ensures) in
    c.loop-place.invariant ∙ ap (λ es. find_receiver_of es c.args.address.now) step
    ∙ ap (λ hit. cond hit (Some e.1) (find_receiver_of (drop (suc i) entries) c.args.address.now)) (sym c.same.ensures ∙ c.if-same.false)
    ∙ ap (λ n. find_receiver_of (drop n entries) c.args.address.now) (sym (add-one i))
