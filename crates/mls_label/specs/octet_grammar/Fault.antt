-- The fault of a string under a grammar: the first octet that no member has there.
use Rattle.std.specs.Prelude.{ℕ, ◌≡◌, ◌<◌, ◌+◌, List, length, take, slice_index}
use Rattle.mls_label.specs.declared.octet_grammar.fault.WireKind.{WireKind}
use Rattle.mls_label.specs.declared.octet_grammar.fault.WireKind.TheVariants.{Octet, End}
use Rattle.mls_label.specs.declared.octet_grammar.fault.WireFault.{WireFault}
use Rattle.mls_label.specs.octet_grammar.Front.{IsFront, IsNoMember, HasNoMember}

-- with one octet more s begins no member; or all of s is there, and it is none
abbrev pub StopsAt : {V : Type 0} → (List ℕ → V → Type 0) → List ℕ → ℕ → WireKind → Type 0
StopsAt G s o Octet = (o < length s) × (IsFront G (take (o + 1) s) → ⊥)
StopsAt G s o End = (o ≡ length s) × IsNoMember G s

-- the octets before the fault begin a member, and there it stops
pub record IsFault {V : Type 0} (G : List ℕ → V → Type 0) (s : List ℕ) (f : WireFault) : Type 0 where
  pub front : IsFront G (take f.octet s)
  pub stops : StopsAt G s f.octet f.kind

-- for a call that reads a front: no member begins s, and this is the fault
pub record FailsFront {V : Type 0} (G : List ℕ → V → Type 0) (s : List ℕ) (f : WireFault) : Type 0 where
  pub none : HasNoMember G s
  pub fault : IsFault G s f

-- the octet at this place doesn't pass P, or the octets end there
abbrev pub IsUnfit : List ℕ → ℕ → (ℕ → Type 0) → WireKind → Type 0
IsUnfit s at P Octet = (at < length s) × (P (slice_index s at) → ⊥)
IsUnfit s at P End = at ≡ length s
