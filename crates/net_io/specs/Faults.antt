-- Numbers of faults: when they move, and which answer needs that they did.
use Rattle.std.specs.Prelude.{◌≡◌, ◌⊎◌, ◌<◌, ◌≤◌, ◌-◌, ◌^◌, ℕ, List, Result, OnOk, IsErrOf}

-- A number rose over a call: it is more than at the call's start, or stands at the end of its type.
abbrev pub Rose : ℕ → ℕ → Type 0
Rose old new = (old < new) ⊎ (new ≡ 2 ^ 64 - 1)

-- The number of a stream's faults over one call: it never falls, stands after each answer but Failed, and the call has Failed only where it rose.
pub record Counts {T E : Type 0} (failed : E) (result : Result T E) (old new : ℕ) : Type 0 where
  pub no_less : old ≤ new
  pub ok : OnOk result (new ≡ old)
  pub still : (IsErrOf result failed → ⊥) → new ≡ old
  pub cause : IsErrOf result failed → Rose old new

-- the numbers of one kind of call, one for each name, stand where they stood
abbrev pub SameCounts : (List ℕ → ℕ) → (List ℕ → ℕ) → Type 0
SameCounts old new = (name : List ℕ) → new name ≡ old name

-- The numbers of one kind over one call on a name: none falls, all stand after each answer but Failed, and the call has Failed only where that of the name rose.
pub record CountsByName {T E : Type 0} (failed : E) (result : Result T E) (name : List ℕ) (old new : List ℕ → ℕ) : Type 0 where
  pub no_less : (other : List ℕ) → old other ≤ new other
  pub ok : OnOk result (SameCounts old new)
  pub still : (IsErrOf result failed → ⊥) → SameCounts old new
  pub cause : IsErrOf result failed → Rose (old name) (new name)
