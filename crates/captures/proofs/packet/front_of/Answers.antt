use Rattle.std.proofs.Common.{sym, ap, ◌∙◌, Some}
use Rattle.std.specs.Option.{option_copied}
use Rattle.captures.proofs.Parts.{part_is_end}
use Rattle.captures.proofs.packet.front_of.Goals as goal

pub overflow_sub-result : goal.overflow_sub-result
overflow_sub-result c = (part_is_end c.args.link c.args.octets.now c.in_ok-part.part.now (sym c.ip_part.ensures ∙ ap option_copied c.in_ok-part.was)).within

pub returns-clause-part : goal.returns-clause-part
returns-clause-part c =
    let is = sym c.ip_part.ensures ∙ ap option_copied c.in_ok-part.was in
    ap Some (part_is_end c.args.link c.args.octets.now c.in_ok-part.part.now is).is ∙ sym is
