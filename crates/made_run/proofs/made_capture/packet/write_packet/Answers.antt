use Rattle.std.proofs.Common.{◌≡◌, sym, subst, ◌∙◌}
use Rattle.ip_headers.specs.declared.version.Version.TheVariants.{V4}
use Rattle.ip_headers.specs.Written.{IsLabelOption}
use Rattle.made_run.specs.made_capture.Packet.{packet_made}
use Rattle.made_run.proofs.made_capture.Packets.{option_made, option_suits}
use Rattle.made_run.proofs.made_capture.packet.write_packet.Goals as goal

pub write_datagram-requires : goal.write_datagram-requires
write_datagram-requires c = subst (IsLabelOption V4) (sym (c.deref.ensures.0 ∙ c.write_option.ensures)) (option_suits c.args.number)

pub returns-clause-ok : goal.returns-clause-ok
unfolding packet_made
returns-clause-ok c =
    let is : c.deref.result.now ≡ option_made c.args.number = c.deref.ensures.0 ∙ c.write_option.ensures in
    rw is at c.write_datagram.ensures.ok
