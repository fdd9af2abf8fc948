use Rattle.std.proofs.Common.{ap, sym, ◌∙◌}
use Rattle.label_gateway.specs.Forward.{Forwarded}
use Rattle.label_flow.specs.packet_walk.Walk.{verdict_of, goes_on}
use Rattle.label_flow.proofs.packet_walk.Lengths.{octets_short}
use Rattle.label_flow.proofs.packet_walk.Walks.{reads_back}
use Rattle.label_flow.proofs.packet_walk.hop.forward_at.Goals as goal

pub returns-in-Ok : goal.returns-in-Ok
returns-in-Ok c =
    let v = c.in-Ok.ensures in
    let is = sym v.judged.is ∙ v.answers.1 in
    let room = rw v.answers.1 at v.in_room in
    record {
      read = v.judged.read;
      reads = v.judged.reads;
      answered = (v.answers.0, ap (verdict_of (λ (forwarded : Forwarded). goes_on forwarded.carrier forwarded.packet)) is, v.answers.2, reads_back v.answers.0 room, rw v.answers.2 (octets_short v.answers.0 room));
    }
