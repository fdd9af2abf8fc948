-- What becomes of a packet at a border, by the way that it goes.
use Rattle.std.specs.Prelude.{ℕ, List, Option, Result}
use Rattle.ip_headers.specs.Packet.{ParsedPacket}
use Rattle.packet_label.specs.declared.packet.Wire.{Wire}
use Rattle.packet_label.specs.declared.denial.Denial.{Denial}
use Rattle.packet_label.specs.declared.denial.Stop.{Stop}
use Rattle.doi_table.specs.declared.plan.DoiPlan.{DoiPlan}
use Rattle.label_send.specs.Answer.{Answers, packet_alone}
use Rattle.ripso_border.specs.declared.border.Way.{Way}
use Rattle.ripso_border.specs.declared.border.Way.TheVariants as way
use Rattle.ripso_border.specs.In.{In}
use Rattle.ripso_border.specs.Out.{Out}

-- the packet that is written, or why none is
abbrev pub Crossed : Type 0
Crossed = Result (ParsedPacket Wire) Denial

-- by the definition of a DOI, of the packet in a frame, if there is one
abbrev pub Crosses : Way → DoiPlan → ℕ → Option (List ℕ) → Crossed → Type 0
Crosses way.In plan doi part verdict = In plan doi part verdict
Crosses way.Out plan doi part verdict = Out plan doi part verdict

-- A call has written what becomes of it, or tells why it wrote nothing.
pub record HasCrossed (way : Way) (plan : DoiPlan) (doi : ℕ) (part : Option (List ℕ)) (result : Result (Unit {0}) Stop) (out : List ℕ) : Type 0 where
  pub verdict : Crossed
  pub crosses : Crosses way plan doi part verdict
  pub answers : Answers packet_alone verdict result out
