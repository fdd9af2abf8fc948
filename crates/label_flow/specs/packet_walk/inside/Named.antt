-- What is told of versions that are named for the hops of a packet.
use Rattle.std.specs.Prelude.{◌≡◌, ℕ, ◌<◌, nat_lt, if◌then◌else◌, List, [], length, take, Result, Ok, Err}
use Rattle.label_commands.specs.declared.flow_lines.hop.Hop.{Hop}
use Rattle.packet_label.specs.declared.denial.Carrier.TheVariants.{Unlabelled}
use Rattle.shared_tables.specs.Plan.{PlanState}
use Rattle.label_flow.specs.declared.packet_walk.stop.VersionsStop.{VersionsStop}
use Rattle.label_flow.specs.declared.packet_walk.stop.VersionsStop.TheVariants.{TooFew, TooMany, OutOfMemory}
use Rattle.label_flow.specs.declared.packet_walk.walked.End.{End}
use Rattle.label_flow.specs.packet_walk.Walk.{from_outside, IsWalk}
use Rattle.label_flow.specs.packet_walk.inside.Way.{HasWalked}

-- so many hops judged the packet, and so many versions are named
abbrev pub told_of : ℕ → ℕ → Result (Unit {0}) VersionsStop
told_of hops named = if nat_lt hops named then Err TooMany else Ok tt

-- They are those of the walk that is answered; or those of no walk, and neither is any beginning of them; or a shorter beginning is a walk's. Want
-- of memory is free.
abbrev pub IsToldOf : PlanState → List Hop → List ℕ → ℕ → ℕ → List ℕ → List ℕ → End → List ℕ → Result (Unit {0}) VersionsStop → Type 0
IsToldOf plan hops octets seen now named judged end out (Ok done) = (judged ≡ named) × HasWalked plan 1 hops Unlabelled octets seen now [] named end out
IsToldOf plan hops octets seen now named judged end out (Err TooFew) =
    (count : ℕ) (end' : End) (left : List ℕ) → IsWalk plan 1 hops (from_outside octets) (take count named) end' left → ⊥
IsToldOf plan hops octets seen now named judged end out (Err TooMany) =
    (count : ℕ) × (end' : End) × (left : List ℕ) × (count < length named) × IsWalk plan 1 hops (from_outside octets) (take count named) end' left
IsToldOf plan hops octets seen now named judged end out (Err OutOfMemory) = Unit {0}
