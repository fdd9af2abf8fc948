-- The node of a making, and its plan.
use Rattle.std.proofs.Common.{◌≡◌, ◌<◌, ℕ, ◌+◌, Bool, true, false, ◌||◌, List, [], ◌∷◌, length, map, All, refl, sym, ap, subst, ◌∙◌, arith}
use Rattle.std.specs.Prelude.{get_or}
use Rattle.std.specs.List.{range_with_len}
use Rattle.std.proofs.lemmas.List.Elements.{All-nil, All-cons}
use Rattle.std.proofs.lemmas.Option.{slice_get_read}
use Rattle.mls_label.specs.Cats.{has, is_within, cats_where}
use Rattle.mls_label.proofs.Law.{sets_are_what_they_have, ranges_ascend, runs_have_what_each_has}
use Rattle.script_lines.specs.declared.command.Command.{Command}
use Rattle.script_lines.specs.declared.command.Step.{Step}
use Rattle.node_tables.specs.Tables.{TableState}
use Rattle.node_tables.specs.Steps.{step_applied, tables_after}
use Rattle.node_tables.proofs.Law.{steps_apply_one_by_one, nodes_keep_their_number}
use Rattle.shared_tables.specs.Plan.{PlanState, network_after}
use Rattle.shared_tables.specs.Board.{PublisherState, ViewerState}
use Rattle.made_run.specs.Network.{made_commands, made_node}
use Rattle.made_run.specs.inside.Node.{made_steps, made_plan, IsOpen}

or_false : (b : Bool) → (b || false) ≡ b
or_false true = refl
or_false false = refl

-- the categories of one run, put into an empty set
pub run_is : (cats : List ℕ) → cats ≡ cats_where (λ c. has [] c || is_within 0 13 c) → cats ≡ range_with_len 0 14
run_is cats are =
    are ∙ sym (sets_are_what_they_have (range_with_len 0 14) (λ c. has [] c || is_within 0 13 c) (ranges_ascend 0 65535 0 14 (omega arith) (omega arith))
    (λ c low. runs_have_what_each_has ((0, 13) ∷ []) c ∙ or_false (is_within 0 13 c)))

-- the tables after all commands
pub made_tables : tables_after 1 made_steps 3 ≡ made_node ∷ []
unfolding tables_after made_node
made_tables = refl

-- ---- steps at the one node

abbrev IsHere : Step → Type 0
IsHere step = step.node < 1

all_of : (commands : List Command) → All IsHere (map (λ command. let step : Step = record { node = 0; command = command } in step) commands)
all_of [] = All-nil IsHere
all_of (command ∷ commands) =
    let step : Step = record { node = 0; command = command } in
    let rest : List Step = map (λ command. record { node = 0; command = command }) commands in
    All-cons IsHere step rest (omega arith) (all_of commands)

pub all_here : (steps : List Step) → steps ≡ made_steps → All IsHere steps
all_here steps are = subst (All IsHere) (sym are) (all_of made_commands)

pub step_fits : (steps : List Step) (k : ℕ) (step : Step) (now : List TableState) → All IsHere steps → k < length steps → step ≡ get_or steps k step → now ≡ tables_after 1 steps k → step.node < length now
step_fits steps k step now all less at is =
    let one : length now ≡ 1 = ap length is ∙ nodes_keep_their_number 1 steps k in
    let low : step.node < 1 = subst IsHere (sym at) (all k step less) in
    omega (arith, one, low)

pub step_more : (steps : List Step) (k : ℕ) (step : Step) (now next : List TableState) → k < length steps → step ≡ get_or steps k step → now ≡ tables_after 1 steps k → next ≡ step_applied now step
    → next ≡ tables_after 1 steps (k + 1)
step_more steps k step now next less at is goes =
    goes ∙ ap (λ n. step_applied n step) is ∙ sym (steps_apply_one_by_one 1 steps k step (slice_get_read steps (length steps) k step refl less at)).0

-- ---- the board

pub plan_is : (plan : PlanState) (steps : List Step) → (let made : PlanState = record { nodes = 1; steps = steps } in plan ≡ made) → steps ≡ made_steps → plan ≡ made_plan
plan_is plan steps made are = made ∙ ap (λ ss. let whole : PlanState = record { nodes = 1; steps = ss } in whole) are

pub tables_are : (plan : PlanState) (steps : List Step) (network : List TableState) → plan ≡ made_plan → steps ≡ made_steps → network ≡ tables_after 1 steps (length steps) → network ≡ network_after plan 3
tables_are plan steps network is are after = after ∙ ap (λ ss. tables_after 1 ss (length ss)) are ∙ ap (λ p. network_after p 3) (sym is)

pub opened : (plan : PlanState) (publisher : PublisherState) (viewers : List ViewerState) → plan ≡ made_plan → (publisher.plan ≡ plan) × (publisher.version ≡ 3)
    → (length viewers ≡ 4) × All (λ (v : ViewerState). v ≡ record { board = publisher.board; plan = plan; seen = 3 }) viewers → IsOpen publisher viewers
opened plan publisher viewers is published seats = record {
  plan = published.0 ∙ is;
  version = published.1;
  count = seats.0;
  seats = subst (λ (p : PlanState). All (λ (v : ViewerState). v ≡ record { board = publisher.board; plan = p; seen = 3 }) viewers) is seats.1;
}
