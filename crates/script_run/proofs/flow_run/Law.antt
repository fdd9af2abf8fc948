-- The laws of src/laws.rt under their names, for the crates above.
use Rattle.std.proofs.Common.{◌≡◌, ℕ, List, slice_get, true, Some, All}
use Rattle.shared_tables.specs.Plan.{PlanState}
use Rattle.label_flow.specs.Pair.{PairState}
use Rattle.script_run.specs.flow_run.Run.{FlowRun, IsRun, is_denied, kept_frames, output_capture}
use Rattle.script_run.specs.flow_run.Laws.{IsOfPassed, run_without}
use Rattle.script_run.specs.flow_run.Withheld.{WithholdsUnsaid}
use Rattle.script_run.proofs.flow_run.NoFrame.{kept_passed, same_output}
use Rattle.script_run.proofs.flow_run.Withheld.{withholds}

pub outputs_are_of_packets_that_passed : (run : FlowRun) → All (IsOfPassed run.input.frames run.pairs) (kept_frames run.input.frames run.pairs)
outputs_are_of_packets_that_passed run = kept_passed run.input.frames run.pairs

pub denied_packets_leave_no_frame : (run : FlowRun) (n : ℕ) (pair : PairState) → slice_get run.pairs n ≡ Some pair → is_denied pair.walked.end ≡ true → output_capture run ≡ output_capture (run_without n run)
denied_packets_leave_no_frame = same_output

pub runs_withhold_what_no_option_says : (plan : PlanState) (run : FlowRun) (seen : List (List ℕ)) → IsRun plan run seen → WithholdsUnsaid plan run
runs_withhold_what_no_option_says = withholds
