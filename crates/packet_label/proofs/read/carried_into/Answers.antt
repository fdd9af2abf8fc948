use Rattle.std.proofs.Common.{arith, rules, sym, subst, ◌∙◌}
use Rattle.ip_headers.specs.declared.version.Version.{Version}
use Rattle.ip_headers.specs.Options.{Placed, IsOption}
use Rattle.packet_label.specs.Packet.{headers_of, labelled}
use Rattle.packet_label.specs.Wire.{wire_with}
use Rattle.packet_label.proofs.Once.{option_inside, packet_ten}
use Rattle.packet_label.proofs.read.carried_into.Goals as goal

pub read_option-requires-clause-whole : goal.read_option-requires-clause-whole
read_option-requires-clause-whole c =
    let o : Placed = record { place = c.in-Some.at; octets = c.in-Some.option.now } in
    let i = option_inside c.args.bytes.now (headers_of c.in-Ok.packet) o c.in-Ok.ensures.ok (sym c.in-Some.ensures) in
    subst (λ (v : Version). IsOption v c.in-Some.option.now) (c.in-Ok.ensures.version ∙ sym c.version.ensures) i.whole

pub read_option-requires-clause-fits : goal.read_option-requires-clause-fits
read_option-requires-clause-fits c =
    let o : Placed = record { place = c.in-Some.at; octets = c.in-Some.option.now } in
    let i = option_inside c.args.bytes.now (headers_of c.in-Ok.packet) o c.in-Ok.ensures.ok (sym c.in-Some.ensures) in
    omega (arith, i.within)

pub returns-clause-within : goal.returns-clause-within
returns-clause-within c =
    packet_ten c.args.bytes.now (labelled (headers_of c.in-Ok.packet) (wire_with c.match-label_option.mark c.match-label_option.label)) (search rules)
