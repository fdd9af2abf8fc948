-- Each kind of step keeps the rule.
use Rattle.std.proofs.Common.{◌≡◌, ℕ, ◌≤◌, ◌≢◌, List, true, false, set, refl, ◌∙◌, subst, ⊎_elim, le_refl, le_trans}
use Rattle.std.specs.Arc.{arc_value}
use mathlib.Core.Option.{some}
use lib.ListN.{get_elem?}
use Rattle.left_right.specs.Register.{Admits, TurnsAt, Forks, Merges}
use Rattle.atomic_table.proofs.Lists.{at_set, at_snoc}
use Rattle.shared_tables.specs.declared.state.State.{State}
use Rattle.shared_tables.specs.declared.rule.View.{View}
use Rattle.shared_tables.specs.inside.Rule.{unknown, known, Fits, AllFit, Finds}

fits_unknown : (x : State) (v : View) → unknown ≡ v → Fits x v
fits_unknown x v e = subst (Fits x) e (λ (not_known : false ≡ true). absurd (cc))

fits_known : (x : State) (v : View) → known (arc_value x.plan) x.version ≡ v → Fits x v
fits_known x v e = subst (Fits x) e (λ is. (refl, le_refl x.version))

-- what was true of x is true of y, which has its plan and no smaller version
fits_later : (x y : State) (v : View) → arc_value y.plan ≡ arc_value x.plan → x.version ≤ y.version → Fits x v → Fits y v
fits_later x y v same up h is = (same ∙ (h is).0, le_trans (h is).1 up)

all_set : (x : State) (views : List View) (seat : ℕ) (w : View) → AllFit x views → Fits x w → AllFit x (set views seat w)
all_set x views seat w h fits j u e =
    ⊎_elim (λ (t : (j ≡ seat) × (w ≡ u)). subst (Fits x) t.1 fits) (λ (t : (j ≢ seat) × (get_elem? views j ≡ some u)). h j u t.1) (at_set views seat j w u e)

-- a place for a viewer is made
pub admits : Admits AllFit unknown
admits x views h seat v at = ⊎_elim (h seat v) (λ (e : unknown ≡ v). fits_unknown x v e) (at_snoc views unknown v seat at)

-- a step is published, or one looks
pub finds : (seat : ℕ) (v : View) (x y : State) → arc_value y.plan ≡ arc_value x.plan → x.version ≤ y.version → TurnsAt AllFit seat v x y Finds
finds seat v x y same up views h at =
    let w = known (arc_value y.plan) y.version in (
      w,
      all_set y views seat w (λ j u e. fits_later x y u same up (h j u e)) (fits_known y w refl),
      (refl, fits_later x y v same up (h seat v at)),
    )

-- the writer tells
pub forks : (seat : ℕ) (v : View) → Forks AllFit seat v v v
forks seat v x views h at j u e =
    ⊎_elim (all_set x views seat v h (h seat v at) j u) (λ (same : v ≡ u). subst (Fits x) same (h seat v at)) (at_snoc (set views seat v) v u j e)

-- a new reader learns
pub merges : (seat : ℕ) (v : View) (other : ℕ) (w : View) → Merges AllFit seat v other w w unknown
merges seat v other w x views h at apart there =
    let fits : Fits x w = ⊎_elim (λ (t : (other ≡ seat) × (w ≡ w)). absurd (apart t.0)) (λ (t : (other ≢ seat) × (get_elem? views other ≡ some w)). h other w t.1) (at_set views seat other w w there) in
    all_set x (set views seat w) other unknown (all_set x views seat w h fits) (fits_unknown x unknown refl)
