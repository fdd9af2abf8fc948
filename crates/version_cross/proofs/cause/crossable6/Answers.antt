use Rattle.std.proofs.Common.{sym, ◌∙◌}
use Rattle.version_cross.specs.Cause.{first_cause, is_fragment}
use Rattle.version_cross.proofs.cause.crossable6.Goals as goal

pub returns : goal.returns
returns c =
    c.first_cause.ensures ∙ (λ i. first_cause (c.protocol.ensures i) (is_fragment (sym c.payload.ensures.version i) c.args.view.now.flags_offset) (c.has_others.ensures.value i) (c.payload.ensures.value i))
