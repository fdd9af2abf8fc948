use Rattle.std.proofs.Common.{rules, sym, subst}
use Rattle.domain_map.specs.declared.protocol.Protocol.TheVariants.{Cipso}
use Rattle.ip_headers.specs.declared.version.Version.TheVariants.{V4, V6}
use Rattle.ip_headers.specs.Written.{IsLabelOption}
use Rattle.label_send.specs.Outgoing.{outgoing, IsExpressed}
use Rattle.label_gateway.proofs.Crossed.{option_suits, crosses, partner}
use Rattle.label_gateway.proofs.cross.cross_to_four.Goals as goal

pub write_four-requires-clause-label : goal.write_four-requires-clause-label
write_four-requires-clause-label c =
    subst (IsLabelOption V4) (sym c.deref.ensures.0) (option_suits V4 _ c.cipso_for.new.option.items c.in-Ok.ensures.ok)

pub returns-in-Ok-clause-value : goal.returns-in-Ok-clause-value
returns-in-Ok-clause-value c =
    let said : IsExpressed V4 (outgoing c.args.tables.now.definitions (Cipso c.args.doi) c.args.label.now) c.deref.result.now =
    subst (IsExpressed V4 (outgoing c.args.tables.now.definitions (Cipso c.args.doi) c.args.label.now)) (sym c.deref.ensures.0) c.in-Ok.ensures.ok in
    let h = c.args.view.now in
    let pairs = c.args.tables.now.pairs in
    crosses c.args.tables.now (Cipso c.args.doi) c.args.label.now h c.args.hops V4 c.in-Some.source c.in-Some-find_four.destination c.deref.result.now c.write_four.result c.write_four.new.out.items
    (partner pairs h.version V6 h.source c.in-Some.source c.requires.version (search rules)) (partner pairs h.version V6 h.destination c.in-Some-find_four.destination c.requires.version (search rules))
    (search rules) said c.write_four.ensures.value
