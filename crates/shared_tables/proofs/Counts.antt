-- Each pending step is one version more.
use Rattle.std.proofs.Common.{◌≡◌, ℕ, ◌+◌, List, [], ◌∷◌, length, fold, add-zero, Result, Ok, Err, MatchResult, OnOk, sym, ◌∙◌, ap, arith}
use Rattle.std.specs.Arc.{arc_value}
use Rattle.shared_tables.specs.declared.state.State.{State}
use Rattle.shared_tables.specs.declared.state.Point.{Point}
use Rattle.shared_tables.specs.declared.state.Advance.{Advance}
use Rattle.shared_tables.specs.declared.rule.View.{View}
use Rattle.shared_tables.specs.Plan.{PlanState}
use Rattle.shared_tables.specs.inside.Rule.{Finds}
use Rattle.shared_tables.specs.inside.Ready.{HasPublished}

abbrev pub point : PlanState → ℕ → Point
point plan k = record { plan = plan; version = k }

abbrev pub one_more : Point → Advance → Point
one_more q _ = point q.plan (q.version + 1)

many_more : (plan : PlanState) (k : ℕ) (ops : List Advance) → fold one_more (point plan k) ops ≡ point plan (k + length ops)
many_more plan k [] = ap (point plan) (sym (add-zero k))
many_more plan k (o ∷ ops) = many_more plan (k + 1) ops ∙ ap (point plan) (omega arith)

pub advances : (x y : State) (ops : List Advance) → point (arc_value y.plan) y.version ≡ fold one_more (point (arc_value x.plan) x.version) ops
    → (arc_value y.plan ≡ arc_value x.plan) × (y.version ≡ x.version + length ops)
advances x y ops e =
    let f = e ∙ many_more (arc_value x.plan) x.version ops in
    (ap (λ (q : Point). q.plan) f, ap (λ (q : Point). q.version) f)

-- what the two clauses of a publishing say together
pub publishes : {U E : Type 0} (r : Result U E) (x y : State) (ops left : List Advance) (v w : View) (S T : E → Type 0)
    → MatchResult r (λ _. (point (arc_value y.plan) y.version ≡ fold one_more (point (arc_value x.plan) x.version) ops) × (left ≡ [])) S
    → MatchResult r (λ _. Finds v x y w) T
    → OnOk r (HasPublished x (length ops) y (length left) w)
publishes (Ok u) x y ops left v w S T values rule =
    let a = advances x y ops values.0 in
    record { plan = a.0; version = a.1; none = ap length values.1; knows = rule.0 }
publishes (Err e) x y ops left v w S T values rule = tt
