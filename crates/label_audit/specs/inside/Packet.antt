-- The line of a packet, by the versions that it names.
use Rattle.std.specs.Prelude.{◌≡◌, ◌+◌, ℕ, Bool, true, false, List, ◌++◌, drop}
use Rattle.shared_tables.specs.Plan.{PlanState}
use Rattle.captures.specs.declared.packet_in.PacketIn.{PacketIn}
use Rattle.label_flow.specs.declared.packet_walk.walked.End.{End}
use Rattle.label_flow.specs.declared.packet_walk.walked.Walked.{Walked}
use Rattle.label_flow.specs.packet_walk.Walk.{IsWalkOf, Rises}
use Rattle.label_flow.specs.Pair.{PairState}
use Rattle.call_report.specs.Lines.Flow.{walked_line}
use Rattle.script_run.specs.flow_run.Run.{is_denied}
use Rattle.label_audit.specs.declared.place.Place.{Place}
use Rattle.label_audit.specs.declared.walker.PacketPlace.{PacketPlace}
use Rattle.label_audit.specs.inside.Grammar.{last_met}
use Rattle.label_audit.specs.inside.Reading.{StandsIn}

-- the line of what became of a packet
abbrev pub line_at : PacketPlace → Walked → List ℕ
line_at place walked = walked_line place.flow_number place.number place.names.now place.flow.now.hops walked

-- a packet was walked under these versions, which may be here, and its line was written
pub record WrittenWalk (plan : PlanState) (place : PacketPlace) (packet : PacketIn) (named line : List ℕ) (met met' : ℕ) (denied : Bool) : Type 0 where
  pub walked : Walked
  pub octets : List ℕ
  pub walk : IsWalkOf plan place.flow.now.hops packet walked.versions walked.end octets
  pub versions : walked.versions ≡ named
  pub rises : Rises place.low place.high named
  pub line_is : line ≡ line_at place walked
  pub denied_is : denied ≡ is_denied walked.end
  pub met_is : met' ≡ last_met met named

-- they are no versions of a walk that may be here
abbrev pub IsNoWalk : PlanState → PacketPlace → PacketIn → List ℕ → Type 0
IsNoWalk plan place packet named = (end : End) (octets : List ℕ) → Rises place.low place.high named → IsWalkOf plan place.flow.now.hops packet named end octets → ⊥

abbrev pub IsWritten : PlanState → PacketPlace → PacketIn → List ℕ → List ℕ → ℕ → ℕ → Bool → Bool → Type 0
IsWritten plan place packet named line met met' denied true = WrittenWalk plan place packet named line met met' denied
IsWritten plan place packet named line met met' denied false = IsNoWalk plan place packet named

-- what may have become of a packet whose line stands first in what is left
pub record Fits (plan : PlanState) (place : PacketPlace) (packet : PacketIn) (left : List ℕ) (pair : PairState) : Type 0 where
  pub walk : IsWalkOf plan place.flow.now.hops packet pair.walked.versions pair.walked.end pair.octets
  pub rises : Rises place.low place.high pair.walked.versions
  pub more : List ℕ
  pub is : left ≡ line_at place pair.walked ++ more

-- this became of it, and nothing else
pub record PacketRead (plan : PlanState) (place : PacketPlace) (packet : PacketIn) (file : List ℕ) (old new : Place) (met met' : ℕ) (denied : Bool) : Type 0 where
  pub pair : PairState
  pub walk : IsWalkOf plan place.flow.now.hops packet pair.walked.versions pair.walked.end pair.octets
  pub rises : Rises place.low place.high pair.walked.versions
  pub only : (other : PairState) → Fits plan place packet (drop old.at file) other → other ≡ pair
  pub is : drop old.at file ≡ line_at place pair.walked ++ drop new.at file
  pub lines : new.lines ≡ old.lines + 1
  pub stands : StandsIn file new
  pub denied_is : denied ≡ is_denied pair.walked.end
  pub met_is : met' ≡ last_met met pair.walked.versions

abbrev pub IsPacketRead : PlanState → PacketPlace → PacketIn → List ℕ → Place → Place → ℕ → ℕ → Bool → Bool → Type 0
IsPacketRead plan place packet file old new met met' denied true = PacketRead plan place packet file old new met met' denied
IsPacketRead plan place packet file old new met met' denied false = (new ≡ old) × ((other : PairState) → Fits plan place packet (drop old.at file) other → ⊥)
