use Rattle.std.proofs.Common.{◌≡◌, ◌++◌, length, Ok}
use Rattle.script_lines.specs.Stop.{and_next}
use Rattle.label_commands.specs.flow_lines.Flow.{read_hops}
use Rattle.label_commands.proofs.flow_lines.hop_text.read_hops.Given as goal

-- the hops so far and those of what is left are the hops of all words
abbrev pub invariant-loop-rest : goal.invariant-loop-rest
invariant-loop-rest l = and_next (read_hops l.nodes (length l.hops.items) l.rest) (λ more. Ok (l.hops.items ++ more)) ≡ read_hops l.nodes 0 l.words

abbrev pub decreases-loop-rest : goal.decreases-loop-rest
decreases-loop-rest l = length l.rest
