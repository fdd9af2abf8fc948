-- What readers of octets and of numbers promise of a fault, and the fault of a part counted from the whole's first octet.
use Rattle.std.specs.Prelude.{ℕ, ◌≡◌, ◌+◌, ◌*◌, ◌<◌, ◌≤◌, ◌⊎◌, List, length, slice_index}
use Rattle.mls_label.specs.declared.octet_grammar.fault.WireKind.TheVariants.{Octet, End}
use Rattle.mls_label.specs.declared.octet_grammar.fault.WireFault.{WireFault}
use Rattle.mls_label.specs.octet_grammar.Fault.{IsUnfit}
use Rattle.mls_label.specs.octet_grammar.Numbers.{u16_at, u32_at}

-- the octet at this place doesn't pass P, or the octets end there
abbrev pub FaultsAt : List ℕ → ℕ → (ℕ → Type 0) → WireFault → Type 0
FaultsAt s at P f = (f.octet ≡ at) × IsUnfit s at P f.kind

-- the octets end there
abbrev pub EndsAt : List ℕ → ℕ → WireFault → Type 0
EndsAt s at f = (f.octet ≡ at) × (f.kind ≡ End) × (at ≡ length s)

-- the fault of a part, counted from n octets before the part
abbrev pub moved_by : ℕ → WireFault → WireFault
moved_by n f = record { octet = n + f.octet; kind = f.kind }

abbrev pub IsBetween : ℕ → ℕ → ℕ → Type 0
IsBetween low high n = (low ≤ n) × (n ≤ high)

-- a number of two octets from low to high stands at this place
pub record IsNumberAt (s : List ℕ) (at low high n : ℕ) : Type 0 where
  pub within : at + 1 < length s
  pub is : n ≡ u16_at s at
  pub bounds : IsBetween low high n

-- some number whose first octet is h is from low to high
abbrev pub HasFirst : ℕ → ℕ → ℕ → Type 0
HasFirst low high h = (low ≤ 256 * h + 255) × (256 * h ≤ high)

-- at the first octet no number with it is in bounds, or at the second the number is out of bounds
abbrev pub FaultsInNumber : List ℕ → ℕ → ℕ → ℕ → WireFault → Type 0
FaultsInNumber s at low high f = FaultsAt s at (HasFirst low high) f
    ⊎ ((at < length s) × HasFirst low high (slice_index s at) × FaultsAt s (at + 1) (λ l. IsBetween low high (256 * slice_index s at + l)) f)

-- the octets end before all four are there
pub record EndsWithin (s : List ℕ) (at : ℕ) (f : WireFault) : Type 0 where
  pub octet : f.octet ≡ length s
  pub kind : f.kind ≡ End
  pub from : at ≤ length s
  pub short : length s < at + 4

-- four octets are there and all of them are 0; the last of them doesn't fit
pub record IsZeroAt (s : List ℕ) (at : ℕ) (f : WireFault) : Type 0 where
  pub octet : f.octet ≡ at + 3
  pub kind : f.kind ≡ Octet
  pub within : at + 3 < length s
  pub none : u32_at s at ≡ 0

abbrev pub FaultsInNonzero : List ℕ → ℕ → WireFault → Type 0
FaultsInNonzero s at f = EndsWithin s at f ⊎ IsZeroAt s at f
