use Rattle.std.proofs.Common.{sym, ap, ◌∙◌, arith, Some, option_map}
use Rattle.std.proofs.lemmas.Option.{slice_get_within, get_or_from_slice_get}
use Rattle.domain_map.proofs.Longests.{longest_none, longest_some}
use Rattle.domain_map.proofs.address_list.find_in.Goals as goal

pub returns-in_err-place : goal.returns-in_err-place
returns-in_err-place c =
    c.from_residual.ensures ∙ sym (ap (option_map (λ e. e.1)) (longest_none (λ e. e.0) c.args.address.now c.args.entries.now c.args.order.now c.requires c.in_err-place.ensures))

pub offset_bounds-entries-place : goal.offset_bounds-entries-place
offset_bounds-entries-place c =
    let best = longest_some (λ e. e.0) c.args.address.now c.args.entries.now c.args.order.now c.requires c.in_ok-place.place c.in_ok-place.ensures in
    omega (arith, slice_get_within c.args.entries.now c.in_ok-place.place best.entry best.is, c.requires.few)

pub bounds-entries-place : goal.bounds-entries-place
bounds-entries-place c =
    let best = longest_some (λ e. e.0) c.args.address.now c.args.entries.now c.args.order.now c.requires c.in_ok-place.place c.in_ok-place.ensures in
    slice_get_within c.args.entries.now c.in_ok-place.place best.entry best.is

pub returns : goal.returns
returns c =
    let best = longest_some (λ e. e.0) c.args.address.now c.args.entries.now c.args.order.now c.requires c.in_ok-place.place c.in_ok-place.ensures in
    ap (λ e. Some e.1) c.index-entries-place.is ∙ ap (λ e. Some e.1) (get_or_from_slice_get c.args.entries.now c.in_ok-place.place best.entry c.index-entries-place.result best.is) ∙ sym (ap (option_map (λ e. e.1)) best.longest)
