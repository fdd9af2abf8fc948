-- What a packet's writer answers, as it is passed on: whether it is too long.
use Rattle.std.proofs.Common.{◌≡◌, ℕ, ◌<◌, ◌≤◌, Result, Ok, Err, refl, ap, ◌∙◌, arith}
use Rattle.std.specs.Prelude.{◌↔◌}
use Rattle.ip_headers.specs.declared.rebuild.Rebuild.{Rebuild}
use Rattle.ip_headers.specs.declared.rebuild.Rebuild.TheVariants as write
use Rattle.version_cross.specs.declared.fault.CrossFault.{CrossFault}
use Rattle.version_cross.specs.declared.fault.CrossFault.TheVariants.{TooLong, OutOfMemory}

abbrev Written : Type 0
Written = Result (Unit {0}) Rebuild

abbrev Crossed : Type 0
Crossed = Result (Unit {0}) CrossFault

-- the packet is told to be too long exactly where it has too many octets
abbrev IsTold : Written → ℕ → Type 0
IsTold r size = (r ≡ Err write.TooLong) ↔ (65535 < size)

-- there is room, and the length is that of what is written in the end
pub told : (r : Written) (room limit size size' : ℕ) → (r ≡ Err write.TooLong) ↔ ((room ≤ limit) × (65535 < size)) → room ≤ limit → size' ≡ size → IsTold r size'
told r room limit size size' too_long fits same = (λ e. omega (arith, (too_long.0 e).1, same), λ h. too_long.1 (fits, omega (arith, h, same)))

pub told_at_ok : (r : Written) (x : Unit {0}) (size : ℕ) → r ≡ Ok x → IsTold r size → let answer : Crossed = Ok tt in (answer ≡ Err TooLong) ↔ (65535 < size)
told_at_ok r x size is told = (λ e. absurd cc, λ h. let e = told.1 h in absurd cc)

pub told_at_too_long : (r : Written) (fault : Rebuild) (size : ℕ) → r ≡ Err fault → fault ≡ write.TooLong → IsTold r size → let answer : Crossed = Err TooLong in (answer ≡ Err TooLong) ↔ (65535 < size)
told_at_too_long r fault size is fault_is told = (λ e. told.0 (is ∙ ap Err fault_is), λ h. refl)

pub told_at_memory : (r : Written) (fault : Rebuild) (size : ℕ) → r ≡ Err fault → fault ≡ write.OutOfMemory → IsTold r size → let answer : Crossed = Err OutOfMemory in (answer ≡ Err TooLong) ↔ (65535 < size)
told_at_memory r fault size is fault_is told = (λ e. absurd cc, λ h. let e = told.1 h in absurd cc)

-- a writer that finds no room has none
pub no_room : (r : Written) (fault : Rebuild) (room limit : ℕ) → (r ≡ Err write.NoRoom) ↔ (limit < room) → room ≤ limit → r ≡ Err fault → fault ≡ write.NoRoom → ⊥
no_room r fault room limit told fits is fault_is = omega (arith, told.0 (is ∙ ap Err fault_is), fits)
