-- Packets that meet no option.
use Rattle.std.proofs.Common.{◌≡◌, ℕ, zero, suc, List, [], ◌∷◌, slice_get, Some, ap, subst}
use Rattle.std.proofs.lemmas.Option.{none-some, same_Some}
use Rattle.label_commands.specs.declared.flow_lines.hop.Hop.{Hop}
use Rattle.packet_label.specs.declared.denial.Denial.{Denial}
use Rattle.shared_tables.specs.Plan.{PlanState}
use Rattle.captures.specs.declared.packet_in.PacketIn.{PacketIn}
use Rattle.label_flow.specs.declared.packet_walk.walked.End.{End}
use Rattle.label_flow.specs.declared.packet_walk.walked.End.TheVariants as the_end
use Rattle.label_flow.specs.packet_walk.Walk.{IsWalkOf}
use Rattle.label_flow.specs.packet_walk.NoOption.{MeetsNoOption}
use Rattle.label_flow.proofs.packet_walk.Law.{walks_without_an_option_end_denied, walks_that_tell_inexpressible_meet_no_option}
use Rattle.label_flow.specs.Pair.{PairState}
use Rattle.label_flow.specs.Walked.{AreWalked}
use Rattle.script_run.specs.flow_run.Input.{packets_in}
use Rattle.script_run.specs.flow_run.Run.{FlowRun, IsRun, is_denied, output_capture}
use Rattle.script_run.specs.flow_run.Laws.{run_without}
use Rattle.script_run.specs.flow_run.Withheld.{WithholdsUnsaid}
use Rattle.script_run.proofs.flow_run.NoFrame.{same_output}

walk_at : (plan : PlanState) (hops : List Hop) (n : ℕ) (packets : List PacketIn) (pairs : List PairState) (packet : PacketIn) (pair : PairState) → AreWalked plan hops packets pairs → slice_get packets n ≡ Some packet → slice_get pairs n ≡ Some pair
    → IsWalkOf plan hops packet pair.walked.versions pair.walked.end pair.octets
walk_at plan hops n packets [] packet pair walked came judged = absurd (none-some _ judged)
walk_at plan hops n [] (q ∷ pairs) packet pair walked came judged = absurd walked
walk_at plan hops zero (p ∷ packets) (q ∷ pairs) packet pair walked came judged =
    subst (λ (x : PacketIn). IsWalkOf plan hops x pair.walked.versions pair.walked.end pair.octets) (same_Some _ _ came)
    (subst (λ (x : PairState). IsWalkOf plan hops p x.walked.versions x.walked.end x.octets) (same_Some _ _ judged) walked.0)
walk_at plan hops (suc n) (p ∷ packets) (q ∷ pairs) packet pair walked came judged = walk_at plan hops n packets pairs packet pair walked.1 came judged

no_frame : (plan : PlanState) (run : FlowRun) (seen : List (List ℕ)) (n at : ℕ) (packet : PacketIn) (pair : PairState) (why : Denial) → IsRun plan run seen → slice_get (packets_in run.input) n ≡ Some packet → slice_get run.pairs n ≡ Some pair
    → MeetsNoOption plan run.flow.hops packet pair.walked.versions at why → (pair.walked.end ≡ the_end.Denied at why) × (output_capture run ≡ output_capture (run_without n run))
no_frame plan run seen n at packet pair why is came judged meets =
    let walk = walk_at plan run.flow.hops n (packets_in run.input) run.pairs packet pair is.walked came judged in
    let ends = walks_without_an_option_end_denied plan run.flow.hops packet pair.walked.versions pair.walked.end pair.octets at why walk meets in
    (ends.0, same_output run n pair judged (ap is_denied ends.0))

pub withholds : (plan : PlanState) (run : FlowRun) (seen : List (List ℕ)) → IsRun plan run seen → WithholdsUnsaid plan run
withholds plan run seen is = record {
  denied = λ n at packet pair why came judged meets. no_frame plan run seen n at packet pair why is came judged meets;
  told = λ n at packet pair came judged end.
      let walk = walk_at plan run.flow.hops n (packets_in run.input) run.pairs packet pair is.walked came judged in
      walks_that_tell_inexpressible_meet_no_option plan run.flow.hops packet pair.walked.versions pair.octets at
      (subst (λ (e : End). IsWalkOf plan run.flow.hops packet pair.walked.versions e pair.octets) end walk);
}
