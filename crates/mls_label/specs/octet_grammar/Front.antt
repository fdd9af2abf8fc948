-- A grammar G relates octet strings, its members, to their values.
use Rattle.std.specs.Prelude.{ℕ, ◌≡◌, ◌≤◌, List, ◌++◌, length, take}

-- s begins a member
pub record IsFront {V : Type 0} (G : List ℕ → V → Type 0) (s : List ℕ) : Type 0 where
  pub more : List ℕ
  pub value : V
  pub member : G (s ++ more) value

-- s is no member
abbrev pub IsNoMember : {V : Type 0} → (List ℕ → V → Type 0) → List ℕ → Type 0
IsNoMember {V} G s = (v : V) → G s v → ⊥

-- s begins with no member
abbrev pub HasNoMember : {V : Type 0} → (List ℕ → V → Type 0) → List ℕ → Type 0
HasNoMember {V} G s = (n : ℕ) → IsNoMember G (take n s)

-- the first n octets of s are a member with the value v
pub record ReadsFront {V : Type 0} (G : List ℕ → V → Type 0) (s : List ℕ) (v : V) (n : ℕ) : Type 0 where
  pub within : n ≤ length s
  pub member : G (take n s) v

-- no member begins another, and each member has one value
abbrev pub IsPrefixFree : {V : Type 0} → (List ℕ → V → Type 0) → Type 0
IsPrefixFree {V} G = (a b : List ℕ) (v w : V) → G a v → G (a ++ b) w → (a ++ b ≡ a) × (v ≡ w)
