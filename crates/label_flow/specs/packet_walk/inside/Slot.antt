-- The place in which stands how a walk ended.
use Rattle.mls_label.specs.declared.label.Label.{Label}
use Rattle.label_flow.specs.declared.packet_walk.walked.End.{End}
use Rattle.label_flow.specs.declared.packet_walk.walked.End.TheVariants as the_end
use Rattle.label_flow.specs.declared.packet_walk.slot.EndMark.{EndMark}
use Rattle.label_flow.specs.declared.packet_walk.slot.EndMark.TheVariants.{Delivered, Sent, Denied}

-- with the label that is kept beside it
abbrev pub end_shown : EndMark → Label → End
end_shown (Delivered receiver) label = the_end.Delivered label receiver
end_shown (Sent carrier) label = the_end.Sent carrier
end_shown (Denied hop denial) label = the_end.Denied hop denial
