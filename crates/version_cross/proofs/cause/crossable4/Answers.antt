use Rattle.std.proofs.Common.{◌≡◌, ℕ, ◌%◌, not, eqb, bit_and, sym, ap, ◌∙◌}
use Rattle.std.proofs.lemmas.Nat.{and_mask}
use Rattle.version_cross.specs.Cause.{first_cause, is_fragment}
use Rattle.version_cross.proofs.Causes.{any_is}
use Rattle.version_cross.proofs.cause.crossable4.Goals as goal

pub returns : goal.returns
returns c =
    let others = any_is c.has_others.result c.args.view.now.others c.has_others.ensures in
    let masked : bit_and c.flags_offset.result 16383 ≡ c.flags_offset.result % 16384 = and_mask c.flags_offset.result 14 in
    c.first_cause.ensures ∙ ap (λ (n : ℕ). first_cause c.protocol.result (not (eqb n 0)) c.has_others.result c.payload.result.now) masked
    ∙ (λ i. first_cause (c.protocol.ensures i) (is_fragment (sym c.payload.ensures.version i) (c.flags_offset.ensures i)) (others i) (c.payload.ensures.value i))
