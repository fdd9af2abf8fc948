use Rattle.std.proofs.Common.{refl}
use Rattle.std.specs.Option.{option_copied}
use Rattle.ip_headers.specs.declared.version.Version.TheVariants.{V6}
use Rattle.ip_headers.specs.inside.Write.{others_in}
use Rattle.ip_headers.proofs.Layouts.{last_write}
use Rattle.ip_headers.proofs.Writing.{octets6}
use Rattle.ip_headers.proofs.writing6.push6.Goals as goal

pub returns : goal.returns
returns c =
    last_write c.extend_from_slice.result _ c.push_hop_by_hop.new.out.items c.args.payload.now _ c.extend_from_slice.ensures.items
    (octets6 (option_copied c.args.option) (others_in V6 c.args.area.now) c.args.fields.now c.args.payload.now c.args.size c.push_fixed.new.out.items c.push_hop_by_hop.new.out.items _
    c.requires.size c.in_ok-push_fixed.ensures.octets c.in_ok-push_hop_by_hop.ensures refl)
