use Rattle.std.proofs.Common.{rules, sym, subst}
use Rattle.domain_map.specs.declared.protocol.Protocol.TheVariants.{Calipso}
use Rattle.ip_headers.specs.declared.version.Version.TheVariants.{V4, V6}
use Rattle.ip_headers.specs.Written.{IsLabelOption}
use Rattle.label_send.specs.Outgoing.{outgoing, IsExpressed}
use Rattle.label_gateway.proofs.Crossed.{option_suits, crosses, partner}
use Rattle.label_gateway.proofs.cross.cross_to_six.Goals as goal

pub write_six-requires-clause-label : goal.write_six-requires-clause-label
write_six-requires-clause-label c =
    subst (IsLabelOption V6) (sym c.deref.ensures.0) (option_suits V6 _ c.calipso_for.new.option.items c.in-Ok.ensures.ok)

pub returns-in-Ok-clause-value : goal.returns-in-Ok-clause-value
returns-in-Ok-clause-value c =
    let said : IsExpressed V6 (outgoing c.args.tables.now.definitions (Calipso c.args.doi) c.args.label.now) c.deref.result.now =
    subst (IsExpressed V6 (outgoing c.args.tables.now.definitions (Calipso c.args.doi) c.args.label.now)) (sym c.deref.ensures.0) c.in-Ok.ensures.ok in
    let h = c.args.view.now in
    let pairs = c.args.tables.now.pairs in
    crosses c.args.tables.now (Calipso c.args.doi) c.args.label.now h c.args.hops V6 c.in-Some.source c.in-Some-find_six.destination c.deref.result.now c.write_six.result c.write_six.new.out.items
    (partner pairs h.version V4 h.source c.in-Some.source c.requires.version (search rules)) (partner pairs h.version V4 h.destination c.in-Some-find_six.destination c.requires.version (search rules))
    (search rules) said c.write_six.ensures.value
