-- What becomes of packets whose label no option can say.
use Rattle.std.specs.Prelude.{◌≡◌, ℕ, slice_get, Some}
use Rattle.packet_label.specs.declared.denial.Denial.{Denial}
use Rattle.packet_label.specs.declared.denial.Denial.TheVariants.{Inexpressible}
use Rattle.shared_tables.specs.Plan.{PlanState}
use Rattle.captures.specs.declared.packet_in.PacketIn.{PacketIn}
use Rattle.label_flow.specs.declared.packet_walk.walked.End.TheVariants as the_end
use Rattle.label_flow.specs.packet_walk.NoOption.{MeetsNoOption}
use Rattle.label_flow.specs.Pair.{PairState}
use Rattle.script_run.specs.flow_run.Input.{packets_in}
use Rattle.script_run.specs.flow_run.Run.{FlowRun, output_capture}
use Rattle.script_run.specs.flow_run.Laws.{run_without}

-- What a run makes of packets that come to a hop which has no option for their label.
pub record WithholdsUnsaid (plan : PlanState) (run : FlowRun) : Type 0 where
  -- such a packet ends denied there, as Inexpressible where no earlier case holds, and no frame of the output stems from it
  pub denied : (n at : ℕ) (packet : PacketIn) (pair : PairState) (why : Denial) → slice_get (packets_in run.input) n ≡ Some packet → slice_get run.pairs n ≡ Some pair
      → MeetsNoOption plan run.flow.hops packet pair.walked.versions at why → (pair.walked.end ≡ the_end.Denied at why) × (output_capture run ≡ output_capture (run_without n run))
  -- and Inexpressible is told of no other packet
  pub told : (n at : ℕ) (packet : PacketIn) (pair : PairState) → slice_get (packets_in run.input) n ≡ Some packet → slice_get run.pairs n ≡ Some pair
      → pair.walked.end ≡ the_end.Denied at Inexpressible → MeetsNoOption plan run.flow.hops packet pair.walked.versions at Inexpressible
