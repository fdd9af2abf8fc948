use Rattle.std.specs.Option.{option_copied}
use Rattle.ip_headers.specs.declared.version.Version.TheVariants.{V6}
use Rattle.ip_headers.specs.inside.Write.{others_in}
use Rattle.ip_headers.proofs.Writing.{room6, length6}
use Rattle.ip_headers.proofs.writing6.room.Goals as goal

pub returns : goal.returns
returns c =
    let option = option_copied c.args.option in
    let others = others_in V6 c.args.area.now in
    record {
      size = c.written_size.ensures;
      room = room6 option others c.args.fields.now c.args.payload.now _ c.written_size.ensures;
      length = length6 option others c.args.fields.now c.args.payload.now _ c.written_size.ensures;
    }
