use Rattle.std.proofs.Common.{◌≡◌, ℕ, Bool, true, false, List, [], ◌∷◌, length, drop, MatchBool, sym, ap, arith}
use Rattle.std.proofs.lemmas.Bool.{false≢true}
use Rattle.mls_range.specs.inside.Rest.{IsLabelEnd}
use Rattle.mls_range.proofs.Places.{drop_at}
use Rattle.mls_range.proofs.octet.is_label_end.Goals as goal

never : (l t : List ℕ) (x : ℕ) → l ≡ x ∷ t → IsLabelEnd false l → ⊥
never [] t x e ends = absurd (omega (arith, ap length e))
never (y ∷ l) t x e ends = false≢true ends.0

without : (dash : Bool) (l t : List ℕ) (x : ℕ) → dash ≡ false → l ≡ x ∷ t → MatchBool dash (IsLabelEnd dash l) (IsLabelEnd dash l → ⊥)
without true l t x off e = absurd (false≢true (sym off))
without false l t x off e = never l t x e

pub returns-else-dash : goal.returns-else-dash
returns-else-dash c =
    let text = c.args.text.now in
    without c.args.dash (drop c.args.at text) _ _ c.if-dash.false (drop_at text c.args.at (omega arith))
