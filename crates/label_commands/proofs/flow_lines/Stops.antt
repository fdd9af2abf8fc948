-- Results that a stop may end.
use Rattle.std.proofs.Common.{◌≡◌, Result, Ok, Err, refl, sym, ap, subst}
use Rattle.script_lines.specs.declared.stop.LineStop.{LineStop}
use Rattle.script_lines.specs.declared.stop.LineStop.TheVariants as Stop
use Rattle.script_lines.specs.Stop.{IsStopOf, and_next}

pub stops_next : {X Y : Type 0} (r : Result X LineStop) (next : X → Result Y LineStop) (stop : LineStop) → IsStopOf r stop → IsStopOf (and_next r next) stop
stops_next r next Stop.OutOfMemory h = tt
stops_next r next (Stop.Fault found) h = ap (λ q. and_next q next) h
stops_next r next (Stop.Limit name) h = ap (λ q. and_next q next) h

pub stops_as : {X : Type 0} (r q : Result X LineStop) (stop : LineStop) → r ≡ q → IsStopOf q stop → IsStopOf r stop
stops_as r q stop e h = subst (λ p. IsStopOf p stop) (sym e) h

pub goes_next : {X Y : Type 0} (r : Result X LineStop) (next : X → Result Y LineStop) (x : X) → r ≡ Ok x → and_next r next ≡ next x
goes_next r next x e = ap (λ q. and_next q next) e

pub not_ok : {Y : Type 0} (y : Y) (stop : LineStop) → ◌≡◌ {A = Result Y LineStop} (Err stop) (Ok y) → ⊥
not_ok y stop e = cc

pub went : {X Y : Type 0} (r : Result X LineStop) (next : X → Result Y LineStop) (y : Y) → and_next r next ≡ Ok y → (x : X) × (r ≡ Ok x) × (next x ≡ Ok y)
went (Ok x) next y e = (x, refl, e)
went (Err stop) next y e = absurd (not_ok y stop e)

pub same_ok : {X : Type 0} (x y : X) → ◌≡◌ {A = Result X LineStop} (Ok x) (Ok y) → x ≡ y
same_ok x y e = cc
