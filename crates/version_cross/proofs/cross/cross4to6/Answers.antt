use Rattle.std.proofs.Common.{◌≡◌, ◌%◌, ◌∙◌}
use Rattle.version_cross.specs.Checksum.{address_sum}
use Rattle.version_cross.proofs.Causes.{no_cause}
use Rattle.version_cross.proofs.Packets.{fields6}
use Rattle.version_cross.proofs.cross.cross4to6.Goals as goal

pub write_crossed6-requires-clause-whole : goal.write_crossed6-requires-clause-whole
write_crossed6-requires-clause-whole c =
    let view = c.args.view.now in
    rw (c.protocol.ensures, c.payload.ensures.value) (no_cause view.protocol _ _ view.payload c.requires.crossable).1

pub returns : goal.returns
returns c =
    let view = c.args.view.now in
    let old : c.address_sum-old.result % 65535 ≡ address_sum view.source view.destination % 65535 = c.address_sum-old.ensures ∙ (λ i. address_sum (c.source.ensures i) (c.destination.ensures i) % 65535) in
    let e =
    fields6 view c.args.source c.args.destination c.args.option.now c.args.hops c.tos.result c.protocol.result c.address_sum-old.result c.address_sum-new.result c.payload.result.now
    c.payload.ensures.version c.tos.ensures c.protocol.ensures c.payload.ensures.value old c.address_sum-new.ensures in
    let w = c.write_crossed6.ensures in
    record { ok = rw e at w.ok; too_long = rw e at w.too_long; err = w.err }
