use Rattle.std.proofs.Common.{◌≡◌, ◌∙◌}
use Rattle.std.specs.Option.{option_copied}
use Rattle.ip_headers.specs.declared.version.Version.TheVariants.{V6}
use Rattle.ip_headers.specs.Fields.{packet6}
use Rattle.ip_headers.specs.Written.{rewritten}
use Rattle.ip_headers.specs.inside.Write.{others_in}
use Rattle.ip_headers.proofs.packet6.rebuild6.Goals as goal

pub returns : goal.returns
returns c =
    let option = option_copied c.args.option in
    let e : packet6 c.fields.result option (others_in V6 c.options.result.now) c.payload.result.now ≡ rewritten c.args.view.now option c.args.hops =
    (λ i. packet6 c.fields.result option (c.options.ensures.others i) (c.payload.ensures.value i)) ∙ c.fields.ensures.value option in
    let w = c.write6_with.ensures in
    record { ok = rw e at w.ok; no_room = rw e at w.no_room; too_long = rw e at w.too_long; err = w.err }
