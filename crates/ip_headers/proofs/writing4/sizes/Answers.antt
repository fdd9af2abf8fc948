use Rattle.std.proofs.Common.{arith}
use Rattle.std.specs.Option.{option_copied}
use Rattle.ip_headers.specs.declared.version.Version.TheVariants.{V4}
use Rattle.ip_headers.specs.inside.Write.{others_in}
use Rattle.ip_headers.proofs.Writing.{whole_small, length-area, room4, area_size4, length4}
use Rattle.ip_headers.proofs.writing4.sizes.Goals as goal

pub kept_size-kept-requires-clause-within : goal.kept_size-kept-requires-clause-within
kept_size-kept-requires-clause-within c = omega (arith, c.label_size.ensures, whole_small c.args.option c.requires.option)

pub returns : goal.returns
returns c =
    let option = option_copied c.args.option in
    let others = others_in V4 c.args.area.now in
    let long = length-area V4 option others _ _ _ c.label_size.ensures c.kept_size-kept.ensures.value c.filled_size.ensures in
    record {
      room = room4 c.args.fields.now option others c.args.payload.now _ long.0;
      area = area_size4 c.args.fields.now option others c.args.payload.now _ long.1;
      length = length4 c.args.fields.now option others c.args.payload.now _ long.1;
      near = omega (arith, c.filled_size.ensures);
    }
