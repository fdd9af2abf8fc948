use Rattle.std.proofs.Common.{None, refl, sym, subst}
use Rattle.domain_map.specs.declared.protocol.Protocol.TheVariants.{Unlbl, Calipso}
use Rattle.ip_headers.specs.Written.{IsLabelOption}
use Rattle.packet_label.specs.Packet.{version_of}
use Rattle.label_send.specs.Outgoing.{outgoing}
use Rattle.label_send.proofs.Sent.{suits_packet, sent_so}
use Rattle.label_send.proofs.under.send_under.Goals as goal

pub rewrite-requires-in-Ok-calipso_for : goal.rewrite-requires-in-Ok-calipso_for
rewrite-requires-in-Ok-calipso_for c =
    let doi = c.in-Calipso.doi in
    subst (IsLabelOption (version_of c.args.packet.now)) (sym c.deref-in-Ok-calipso_for.ensures.0)
    (suits_packet c.args.packet.now (Calipso doi) (outgoing c.args.tables.now.definitions (Calipso doi) c.args.label.now) c.calipso_for.new.option.items (rw c.in-Calipso.is at c.requires.suits) c.in-Ok-calipso_for.ensures.ok)

pub returns-in-Unlbl-clause-value : goal.returns-in-Unlbl-clause-value
returns-in-Unlbl-clause-value c =
    rw c.in-Unlbl.is (sent_so c.args.packet.now Unlbl (outgoing c.args.tables.now.definitions Unlbl c.args.label.now) None c.args.hops c.rewrite.result c.rewrite.new.out.items
    c.requires.version refl c.rewrite.ensures)
