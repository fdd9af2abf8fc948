use Rattle.std.proofs.Common.{refl, ◌∙◌, arith}
use Rattle.std.proofs.lemmas.Result.{err_from_is_err_and}
use Rattle.ip_headers.proofs.Swaps.{swapped_over, swapped_octets, swapped_room, swapped_length, kept_whole}
use Rattle.ip_headers.proofs.packet4.rebuild_swap4.Goals as goal

pub returns-in_err-copy_without-clause-no_room : goal.returns-in_err-copy_without-clause-no_room
returns-in_err-copy_without-clause-no_room c =
    let p = err_from_is_err_and c.from_residual.result c.from_residual.ensures.1 in
    let h = c.in_err-copy_without.ensures.err in
    let over = swapped_over c.fields-fields.result c.args.kind c.args.option.now c.options.result.now c.args.view.now c.hops.result c.fields-fields.ensures c.hops.ensures c.options.ensures.others h.1 in
    rw (p.1, p.2, h.0) ((λ e. over), λ o. refl)

pub returns-in_err-copy_without-clause-too_long : goal.returns-in_err-copy_without-clause-too_long
returns-in_err-copy_without-clause-too_long c =
    let p = err_from_is_err_and c.from_residual.result c.from_residual.ensures.1 in
    let h = c.in_err-copy_without.ensures.err in
    let over = swapped_over c.fields-fields.result c.args.kind c.args.option.now c.options.result.now c.args.view.now c.hops.result c.fields-fields.ensures c.hops.ensures c.options.ensures.others h.1 in
    rw (p.1, p.2, h.0) ((λ e. absurd cc), λ x. absurd (omega (arith, over, x.0)))

pub write4_with-requires-clause-whole : goal.write4_with-requires-clause-whole
write4_with-requires-clause-whole c = kept_whole c.args.kind c.options.result.now c.deref.result.now (c.deref.ensures.0 ∙ c.in_ok-copy_without.ensures.ok)

pub returns : goal.returns
returns c =
    let kept_is = c.deref.ensures.0 ∙ c.in_ok-copy_without.ensures.ok in
    let octets = swapped_octets c.fields-fields.result c.args.kind c.args.option.now c.options.result.now c.args.view.now c.hops.result c.fields-fields.ensures c.hops.ensures c.options.ensures.others c.deref.result.now c.payload.result.now kept_is c.payload.ensures.value in
    let room = swapped_room c.fields-fields.result c.args.kind c.args.option.now c.options.result.now c.args.view.now c.hops.result c.fields-fields.ensures c.hops.ensures c.options.ensures.others c.deref.result.now c.payload.result.now kept_is c.payload.ensures.value in
    let long = swapped_length c.fields-fields.result c.args.kind c.args.option.now c.options.result.now c.args.view.now c.hops.result c.fields-fields.ensures c.hops.ensures c.options.ensures.others c.deref.result.now c.payload.result.now kept_is c.payload.ensures.value in
    let w = c.write4_with.ensures in
    record { ok = rw octets at w.ok; no_room = rw room at w.no_room; too_long = rw (room, long) at w.too_long; err = w.err }
