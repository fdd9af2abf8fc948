use Rattle.std.proofs.Common.{◌≡◌, Some, Ok, refl, sym, ap, subst, ◌∙◌}
use Rattle.captures.specs.inside.Given.{frame_given, IsGiven}
use Rattle.captures.proofs.reader.put.Goals as goal

pub returns-in-Ok-Some-clause-answer : goal.returns-in-Ok-Some-clause-answer
returns-in-Ok-Some-clause-answer c left left' is =
    let read = c.in-Ok-Some in
    let some : read.field-0 ≡ Some read.given = rw read.is at read.field-0-is in (
      frame_given read.given c.args.octets.items,
      refl,
      sym (c.packet_of.ensures.packet read.given.head),
      subst (λ r. IsGiven r c.args.octets.items left left') (read.is ∙ ap Ok some) is,
    )
