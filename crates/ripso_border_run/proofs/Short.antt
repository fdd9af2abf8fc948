-- What a crossing leaves is short enough for a frame.
use Rattle.std.proofs.Common.{ℕ, ◌≤◌, List, length, ap, subst, arith}
use Rattle.std.specs.Prelude.{Option, Result, Ok, Err}
use Rattle.packet_label.specs.declared.denial.Stop.{Stop}
use Rattle.packet_label.specs.declared.denial.Stop.TheVariants.{Denied, OutOfMemory}
use Rattle.doi_table.specs.declared.plan.DoiPlan.{DoiPlan}
use Rattle.ripso_border.specs.declared.border.Way.{Way}
use Rattle.ripso_border.specs.Crossing.{Crosses, HasCrossed}
use Rattle.ripso_border.proofs.Law.{written_packets_are_short}

pub crossed_short : (way : Way) (plan : DoiPlan) (doi : ℕ) (part : Option (List ℕ)) (result : Result (Unit {0}) Stop) (out : List ℕ) → HasCrossed way plan doi part result out → length out ≤ 262144
crossed_short way plan doi part (Ok done) out has =
    let few = written_packets_are_short way plan doi part has.answers.0 (subst (Crosses way plan doi part) has.answers.1 has.crosses) in
    omega (arith, few, ap (λ (xs : List ℕ). length xs) has.answers.2)
crossed_short way plan doi part (Err (Denied why)) out has = omega (arith, ap (λ (xs : List ℕ). length xs) has.answers.1)
crossed_short way plan doi part (Err OutOfMemory) out has = omega (arith, ap (λ (xs : List ℕ). length xs) has.answers)
