use Rattle.std.proofs.Common.{refl}
use Rattle.std.specs.Option.{option_copied}
use Rattle.ip_headers.specs.declared.version.Version.TheVariants.{V4}
use Rattle.ip_headers.specs.inside.Write.{others_in}
use Rattle.ip_headers.proofs.Layouts.{last_write}
use Rattle.ip_headers.proofs.Writing.{with_checksum4}
use Rattle.ip_headers.proofs.writing4.push4.Goals as goal

pub returns : goal.returns
returns c =
    last_write c.extend_from_slice.result _ c.put_checksum.new.out.items c.args.payload.now _ c.extend_from_slice.ensures.items
    (with_checksum4 c.args.fields.now (option_copied c.args.option) (others_in V4 c.args.area.now) c.args.payload.now c.push_header.new.out.items c.put_checksum.new.out.items _ c.in_ok-push_header.ensures c.put_checksum.ensures refl)
