-- Results that a stop may end.
use Rattle.std.proofs.Common.{◌≡◌, ◌⊎◌, Option, Some, None, Result, Ok, Err, refl, ap, inl, inr, ok_or}
use Rattle.script_lines.specs.Stop.{and_next}
use Rattle.script_lines.specs.declared.stop.LineStop.{LineStop}

pub same_ok : {X E : Type 0} (x y : X) → ◌≡◌ {A = Result X E} (Ok x) (Ok y) → x ≡ y
same_ok x y e = cc

pub same_err : {X E : Type 0} (x y : E) → ◌≡◌ {A = Result X E} (Err x) (Err y) → x ≡ y
same_err x y e = cc

pub not_ok : {X E : Type 0} (x : X) (stop : E) → ◌≡◌ {A = Result X E} (Err stop) (Ok x) → ⊥
not_ok x stop e = cc

pub not_err : {X E : Type 0} (x : X) (stop : E) → ◌≡◌ {A = Result X E} (Ok x) (Err stop) → ⊥
not_err x stop e = cc

-- both steps went well
pub went : {X Y : Type 0} (r : Result X LineStop) (next : X → Result Y LineStop) (y : Y) → and_next r next ≡ Ok y → (x : X) × (r ≡ Ok x) × (next x ≡ Ok y)
went (Ok x) next y e = (x, refl, e)
went (Err stop) next y e = absurd (not_ok y stop e)

-- the first step stopped, or the second
pub fell : {X Y : Type 0} (r : Result X LineStop) (next : X → Result Y LineStop) (stop : LineStop) → and_next r next ≡ Err stop
    → (r ≡ Err stop) ⊎ ((x : X) × (r ≡ Ok x) × (next x ≡ Err stop))
fell (Ok x) next stop e = inr (x, refl, e)
fell {Y = Y} (Err found) next stop e = inl (ap Err (same_err {X = Y} found stop e))

pub ok_or_went : {X : Type 0} (o : Option X) (stop : LineStop) (x : X) → ok_or o stop ≡ Ok x → o ≡ Some x
ok_or_went None stop x e = absurd (not_ok x stop e)
ok_or_went (Some y) stop x e = ap Some (same_ok y x e)

pub ok_or_fell : {X : Type 0} (o : Option X) (stop found : LineStop) → ok_or o stop ≡ Err found → stop ≡ found
ok_or_fell {X} None stop found e = same_err {X = X} stop found e
ok_or_fell (Some y) stop found e = absurd (not_err y found e)
