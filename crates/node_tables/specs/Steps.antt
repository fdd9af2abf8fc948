-- Commands to the nodes of a network, one after another. A network is the list of its nodes' tables.
use Rattle.std.specs.Prelude.{ℕ, List, take, fold, replicate, slice_get, slice_set, Option, option_map, option_and_then}
use Rattle.std.specs.Option.{option_map_or}
use Rattle.script_lines.specs.declared.command.Step.{Step}
use Rattle.node_tables.specs.declared.reply.Reply.{Reply}
use Rattle.node_tables.specs.Tables.{TableState, fresh}
use Rattle.node_tables.specs.Effect.{applied, reply_of}

-- the network after a step, which changes its own node alone
abbrev pub step_applied : List TableState → Step → List TableState
step_applied nodes step = option_map_or (λ t. slice_set nodes step.node (applied t step.command)) (slice_get nodes step.node) nodes

-- the reply to a step, by its node
abbrev pub step_reply : List TableState → Step → Option Reply
step_reply nodes step = option_map (λ t. reply_of t step.command) (slice_get nodes step.node)

-- so many fresh nodes after the first k steps; a step that is refused counts
unfoldable pub tables_after : ℕ → List Step → ℕ → List TableState
tables_after nodes steps k = fold step_applied (replicate nodes fresh) (take k steps)

-- the reply to the step that comes behind the first k
abbrev pub reply_at : ℕ → List Step → ℕ → Option Reply
reply_at nodes steps k = option_and_then (step_reply (tables_after nodes steps k)) (slice_get steps k)
