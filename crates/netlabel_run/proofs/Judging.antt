-- The node of `judge`, and what it does with a packet.
use Rattle.std.proofs.Common.{◌≡◌, ℕ, List, [], ◌∷◌, length, map, Some, Result, refl, sym, ap, arith}
use Rattle.std.specs.Prelude.{codes, slice_get}
use Rattle.mls_label.specs.declared.label.Label.{Label}
use Rattle.ip_headers.specs.Packet.{ParsedPacket}
use Rattle.packet_label.specs.declared.denial.Denial.{Denial}
use Rattle.packet_label.specs.declared.packet.Wire.{Wire}
use Rattle.script_lines.specs.declared.command.Command.{Command}
use Rattle.node_tables.specs.Tables.{TableState}
use Rattle.node_tables.specs.Effect.{applied}
use Rattle.node_tables.specs.Steps.{step_applied}
use Rattle.label_receive.specs.declared.receiving.Delivered.{Delivered}
use Rattle.label_receive.specs.Receive.{receive_of}
use Rattle.netlabel_run.specs.Judge.{judge_node, judge_rule, label_alone}

-- a step at the one node of a network
pub obeyed : (nodes : List TableState) (command : Command) → length nodes ≡ 1 → step_applied nodes (record { node = 0; command = command }) ≡ map (λ t. applied t command) nodes
obeyed [] command one = absurd (omega (arith, one))
obeyed (t ∷ []) command one = refl
obeyed (t ∷ u ∷ nodes) command one = absurd (omega (arith, one))

-- what the node that was set up for a packet answers is the rule's
pub judged : (doi : ℕ) (level : Label) (p : ParsedPacket Wire) (nodes : List TableState) (t : TableState) (interface : List ℕ) (answer : Result Delivered Denial)
    → nodes ≡ judge_node doi level p.version p.destination ∷ [] → slice_get nodes 0 ≡ Some t → interface ≡ codes "interface" → receive_of t interface p ≡ answer
    → label_alone answer ≡ judge_rule doi level p
judged doi level p nodes t interface answer are first named gives =
    let is : t ≡ judge_node doi level p.version p.destination = let found = rw are at first in cc in
    ap label_alone (sym (rw (is, named) at gives))
