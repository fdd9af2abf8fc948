-- Rules for packets in steps, by the first case that holds.
use Rattle.std.specs.Prelude.{Result, Ok, Err}
use Rattle.packet_label.specs.declared.denial.Denial.{Denial}

-- `x ← step` in a `do`: what follows goes by the x that the step gives; a step that denies ends the rule
infixl 10 ◌>>=◌
abbrev pub ◌>>=◌ : {X Y : Type 0} → Result X Denial → (X → Result Y Denial) → Result Y Denial
Ok x >>= rest = rest x
Err why >>= rest = Err why
