-- Faults that stand within a line.
use Rattle.std.proofs.Common.{◌≡◌, ℕ, ◌≤◌, Bool, true, false, cond, List, Option, Some, None, ok_or, Result, Ok, Err, ap, arith, All}
use Rattle.script_lines.specs.declared.stop.ScriptKind.{ScriptKind}
use Rattle.script_lines.specs.declared.stop.LimitName.{LimitName}
use Rattle.script_lines.specs.declared.stop.LineFault.{LineFault}
use Rattle.script_lines.specs.declared.stop.LineStop.{LineStop}
use Rattle.script_lines.specs.declared.stop.LineStop.TheVariants as Of
use Rattle.script_lines.specs.Word.{LineWord}
use Rattle.script_lines.specs.Stop.{fault, and_next}
use Rattle.label_commands.proofs.Results.{same_err, not_err}

-- a fault of the result stands no further on than this
abbrev pub Within : {X : Type 0} → ℕ → Result X LineStop → Type 0
Within end read = (found : LineFault) → read ≡ Err (Of.Fault found) → found.octet ≤ end

-- so do the words
abbrev pub StandWithin : ℕ → List LineWord → Type 0
StandWithin end words = All (λ word. word.at ≤ end) words

fault_at : (place : ℕ) (kind : ScriptKind) (found : LineFault) → fault place kind ≡ Of.Fault found → place ≡ found.octet
fault_at place kind found e = ap (λ (f : LineFault). f.octet) (by_stop e) where
  by_stop : {f g : LineFault} → Of.Fault f ≡ Of.Fault g → f ≡ g
  by_stop e = cc

module _ {X : Type 0} (end : ℕ) where
  pub within_ok : (x : X) → Within end (Ok x)
  within_ok x found e = absurd (not_err x (Of.Fault found) e)

  pub within_fault : (place : ℕ) (kind : ScriptKind) → place ≤ end → Within {X = X} end (Err (fault place kind))
  within_fault place kind le found e = omega (arith, le, fault_at place kind found (same_err {X = X} (fault place kind) (Of.Fault found) e))

  pub within_limit : (what : LimitName) → Within {X = X} end (Err (Of.Limit what))
  within_limit what found e = absurd (differ (same_err {X = X} (Of.Limit what) (Of.Fault found) e)) where
    differ : Of.Limit what ≡ Of.Fault found → ⊥
    differ e = cc

  pub within_memory : Within {X = X} end (Err Of.OutOfMemory)
  within_memory found e = absurd (differ (same_err {X = X} Of.OutOfMemory (Of.Fault found) e)) where
    differ : Of.OutOfMemory ≡ Of.Fault found → ⊥
    differ e = cc

  pub within_test : (test : Bool) (a b : Result X LineStop) → Within end a → Within end b → Within end (cond test a b)
  within_test true a b wa wb = wa
  within_test false a b wa wb = wb

  pub within_or : (o : Option X) (stop : LineStop) → Within {X = X} end (Err stop) → Within end (ok_or o stop)
  within_or None stop w = w
  within_or (Some x) stop w = within_ok x

  pub within_next : {Y : Type 0} (read : Result Y LineStop) (next : Y → Result X LineStop) → Within end read → ((y : Y) → Within end (next y)) → Within end (and_next read next)
  within_next (Ok y) next w more = more y
  within_next {Y} (Err stop) next w more = λ found e. w found (ap Err (same_err {X = X} stop (Of.Fault found) e))
