-- A script that was read: the flow of a number, and its steps one by one.
use Rattle.std.proofs.Common.{◌≡◌, ◌<◌, ℕ, zero, suc, List, length, Some, ap, ◌∙◌, arith, subst}
use Rattle.std.specs.Prelude.{slice_get, All}
use Rattle.std.proofs.lemmas.Option.{get_or_from_slice_get, slice_get_within}
use Rattle.script_lines.specs.declared.command.Step.{Step}
use Rattle.label_commands.specs.declared.flow_lines.flow.FlowLine.{FlowLine}
use Rattle.label_commands.specs.flow_lines.Hop.{node_of, IsRoute}
use Rattle.node_tables.specs.Tables.{TableState}
use Rattle.node_tables.specs.Steps.{tables_after}
use Rattle.node_tables.proofs.Law.{nodes_keep_their_number}
use Rattle.label_commands.specs.declared.script.Script.{Script}
use Rattle.label_commands.specs.Script.{before}
use Rattle.label_commands.specs.Sound.{IsSoundScript}
use Rattle.label_flow.specs.packet_walk.Walk.{Rises}
use Rattle.call_report.specs.script_input.Flow.{flow_numbered, AreVersionsOf}
use Rattle.call_report.proofs.script_input.Comparing.{rises_wider}

-- what holds of each element holds of the one at a place
pub at_place : {X : Type 0} (P : X → Type 0) (xs : List X) (i : ℕ) (x : X) → All P xs → slice_get xs i ≡ Some x → P x
at_place P xs i x all at = subst P (get_or_from_slice_get xs i x x at) (all i x (slice_get_within xs i x at))

-- the tables behind one more step, and how many nodes there are
pub as_many : (count : ℕ) (steps : List Step) (k : ℕ) (nodes : List TableState) → nodes ≡ tables_after count steps k → length nodes ≡ count
as_many count steps k nodes is = ap length is ∙ nodes_keep_their_number count steps k

pub few_steps : (own : List ℕ) (script : Script) → IsSoundScript own script → length script.steps < 4294967296
few_steps own script sound = omega (arith, sound.steps)

module _ (own : List ℕ) (script : Script) (sound : IsSoundScript own script) where
  -- its hops are of nodes of the script, and there is one at least
  pub hops_of_flow : (number : ℕ) (flow : FlowLine) → flow_numbered script number ≡ Some flow → All (λ hop. node_of hop < length script.nodes) flow.hops × IsRoute flow.hops
  hops_of_flow zero flow is = absurd cc
  hops_of_flow (suc place) flow is = (
    at_place (λ (f : FlowLine). All (λ hop. node_of hop < length script.nodes) f.hops) script.flows place flow sound.hop_nodes is,
    at_place (λ (f : FlowLine). IsRoute f.hops) script.flows place flow sound.routes is,
  )

  -- its versions are those of some commands of the script
  pub versions_within : (number : ℕ) (flow : FlowLine) (versions : List ℕ) → AreVersionsOf script number flow versions → Rises 0 (length script.steps) versions
  versions_within number flow versions are =
      let order = sound.order number in
      rises_wider flow.before (before script number) 0 (length script.steps) versions (omega arith) (omega (arith, order.0, order.1)) are.rises
