use Rattle.std.proofs.Common.{[], length, sym, ◌∙◌}
use Rattle.packet_label.specs.declared.denial.Denial.TheVariants.{NotIp}
use Rattle.label_flow.specs.declared.packet_walk.walked.End.TheVariants as the_end
use Rattle.label_flow.proofs.packet_walk.Walks.{walked_frame}
use Rattle.label_flow.proofs.packet_walk.ByVersions.{more_named, rises_to}
use Rattle.label_flow.proofs.packet_walk.named.walk_named.Goals as goal

pub returns-then-not-packet-clause-many : goal.returns-then-not-packet-clause-many
returns-then-not-packet-clause-many c = λ many. (
  0,
  the_end.Denied 0 NotIp,
  [],
  more_named 0 (length c.args.versions.now) (sym c.told.ensures ∙ many),
  (walked_frame c.args.tables.now.plan c.args.flow.now.hops 0 c.args.packet.now c.if-not-packet.true).walk,
)

pub returns-then-not-packet-clause-no_later : goal.returns-then-not-packet-clause-no_later
returns-then-not-packet-clause-no_later c = λ high rises. rises_to c.args.tables.now.version high c.args.versions.now rises
