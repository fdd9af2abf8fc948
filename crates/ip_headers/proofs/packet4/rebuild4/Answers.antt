use Rattle.std.proofs.Common.{◌≡◌, ◌∙◌}
use Rattle.std.specs.Option.{option_copied}
use Rattle.ip_headers.specs.declared.version.Version.TheVariants.{V4}
use Rattle.ip_headers.specs.Fields.{packet4}
use Rattle.ip_headers.specs.Written.{rewritten}
use Rattle.ip_headers.specs.inside.Write.{others_in}
use Rattle.ip_headers.proofs.Writing.{label_whole}
use Rattle.ip_headers.proofs.packet4.rebuild4.Goals as goal

pub returns : goal.returns
returns c =
    let option = option_copied c.args.option in
    let e : packet4 c.fields.result option (others_in V4 c.options.result.now) c.payload.result.now ≡ rewritten c.args.view.now option c.args.hops =
    (λ i. packet4 c.fields.result option (c.options.ensures.others i) (c.payload.ensures.value i)) ∙ c.fields.ensures option in
    let w = c.write4_with.ensures in
    record { ok = rw e at w.ok; no_room = rw e at w.no_room; too_long = rw e at w.too_long; err = w.err }

pub write4_with-requires-clause-option : goal.write4_with-requires-clause-option
write4_with-requires-clause-option c = label_whole c.args.option c.requires
