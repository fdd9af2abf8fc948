use Rattle.std.proofs.Common.{◌≡◌, ◌&&◌, ℕ, [], ◌∷◌, ◌++◌, ◌∙◌, sym, ap, subst, take, get_or, arith}
use Rattle.std.proofs.lemmas.List.{take_more}
use Rattle.label_commands.specs.node_readings.inside.Namings.{AreNamings}
use Rattle.label_commands.proofs.node_readings.Pairs.{next_naming}
use Rattle.label_commands.proofs.node_readings.namings.namings_of.Goals as goal
use Rattle.label_commands.proofs.node_readings.namings.namings_of.Goals.{then-once, else-once}

pub loop-number-preserved : goal.loop-number-preserved
loop-number-preserved c =
    let pairs = c.args.pairs.now in
    let i = c.loop-number.number-index in
    let new = c.in_ok-new.new in
    let first = c.name_first.new.first.entries in
    let p : ℕ × ℕ = get_or pairs i (0, 0) in
    let once : c.if-once.once ≡ (c.loop-number.once && new) = elim c.if-once.branch [
      | then-once w ↦ w.once-is ∙ ap (λ b. b && new) (sym w.if-once.true)
      | else-once w ↦ w.once-is ∙ w.if-once.false ∙ ap (λ b. b && new) (sym w.if-once.false)
    ] in
    subst (λ xs. AreNamings xs first c.if-once.once) (sym (take_more pairs i (0, 0) (omega arith)))
    (subst (λ b. AreNamings (take i pairs ++ p ∷ []) first b) (sym once) (next_naming (take i pairs) c.loop-number.first.entries first c.loop-number.once new p c.in_ok-new.ensures.new c.in_ok-new.ensures.entries c.loop-number.invariant))
