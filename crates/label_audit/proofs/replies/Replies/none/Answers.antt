use Rattle.std.proofs.Common.{length, refl, ap, sym, ◌∙◌}
use Rattle.std.specs.Prelude.{replicate}
use Rattle.node_tables.specs.Tables.{fresh}
use Rattle.node_tables.proofs.Law.{nodes_begin_fresh}
use Rattle.label_audit.proofs.replies.Replies.none.Goals as goal

pub returns : goal.returns
returns c = (refl, c.in_ok-network.ensures ∙ ap (λ n. replicate n fresh) c.len.ensures ∙ sym (nodes_begin_fresh (length c.args.script.now.nodes) c.args.script.now.steps))
