-- The node of a making in a plan of its own, and the flow to it.
use Rattle.std.specs.Prelude.{◌≡◌, List, [], ◌∷◌, map, length, All, codes}
use Rattle.script_lines.specs.declared.command.Step.{Step}
use Rattle.label_commands.specs.declared.flow_lines.hop.Hop.{Hop}
use Rattle.label_commands.specs.declared.flow_lines.hop.Hop.TheVariants.{Receive}
use Rattle.shared_tables.specs.Plan.{PlanState}
use Rattle.shared_tables.specs.Board.{PublisherState, ViewerState}
use Rattle.made_run.specs.Network.{made_commands}

-- the commands, to the one node
abbrev pub made_steps : List Step
made_steps = map (λ command. record { node = 0; command = command }) made_commands

abbrev pub made_plan : PlanState
made_plan = record { nodes = 1; steps = made_steps }

-- the way of each packet
abbrev pub made_hops : List Hop
made_hops = Receive 0 (codes "eth0") ∷ []

-- four viewers of a board at the plan's last version
pub record IsOpen (publisher : PublisherState) (viewers : List ViewerState) : Type 0 where
  pub plan : publisher.plan ≡ made_plan
  pub version : publisher.version ≡ 3
  pub count : length viewers ≡ 4
  pub seats : All (λ viewer. viewer ≡ record { board = publisher.board; plan = made_plan; seen = 3 }) viewers
