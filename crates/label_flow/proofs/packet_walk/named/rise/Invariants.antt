use Rattle.std.proofs.Common.{length}
use Rattle.label_flow.specs.packet_walk.Walk.{Rises}
use Rattle.label_flow.proofs.packet_walk.named.rise.Given as goal

abbrev pub decreases-loop-rest : goal.decreases-loop-rest
decreases-loop-rest l = length l.rest

-- all rise exactly where the rest does behind the last one
abbrev pub invariant-loop-rest : goal.invariant-loop-rest
invariant-loop-rest l = record {
  all : Rises l.last l.high l.rest → Rises l.low l.high l.versions;
  rest : Rises l.low l.high l.versions → Rises l.last l.high l.rest;
}
