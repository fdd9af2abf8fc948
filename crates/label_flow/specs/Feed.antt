-- What a feed gives and takes.
use Rattle.std.specs.Prelude.{◌≡◌, ℕ, ◌<◌, ◌≤◌, Bool, true, false, List, [], ◌++◌, length, Option, Some, None, All}
use Rattle.label_flow.specs.declared.packet_walk.walked.End.{End}
use Rattle.label_flow.specs.declared.packet_walk.walked.End.TheVariants as the_end
use Rattle.captures.specs.declared.packet_in.PacketIn.{PacketIn}

-- the batch is the front of what was left, where that is told
abbrev pub AreFetched : Option (List PacketIn) → List PacketIn → Option (List PacketIn) → Type 0
AreFetched None batch new = new ≡ None
AreFetched (Some ps) batch None = ⊥
AreFetched (Some ps) batch (Some qs) = ps ≡ batch ++ qs

-- nothing is left, as far as that is told
abbrev pub IsOver : Option (List PacketIn) → Type 0
IsOver None = Unit {0}
IsOver (Some ps) = ps ≡ []

-- an answer of `fetch`
pub record HasFetched (old : Option (List PacketIn)) (more : Bool) (batch : List PacketIn) (new : Option (List PacketIn)) (due : ℕ) : Type 0 where
  pub front : AreFetched old batch new
  pub some : more ≡ true → 0 < length batch
  pub none : more ≡ false → (batch ≡ []) × IsOver old
  pub few : length batch ≤ 1024
  pub octets : All (λ p. length p.bytes ≤ 262144) batch
  pub due_is : due ≡ length batch

-- where the packet is denied, it is by one of so many hops, or by hop 0
abbrev pub IsDeniedBy : ℕ → End → Type 0
IsDeniedBy hops (the_end.Delivered label receiver) = Unit {0}
IsDeniedBy hops (the_end.Sent carrier) = Unit {0}
IsDeniedBy hops (the_end.Denied hop why) = hop ≤ hops

-- such a pair may be accepted
pub record MayAccept (hops : ℕ) (end : End) (octets : List ℕ) : Type 0 where
  pub short : length octets ≤ 262144
  pub hop : IsDeniedBy hops end

-- these are the first of what was left, as far as that is told
abbrev pub AreBegun : Option (List PacketIn) → List PacketIn → Type 0
AreBegun None packets = Unit {0}
AreBegun (Some ps) packets = (rest : List PacketIn) × (ps ≡ packets ++ rest)

-- these are all that was left, as far as that is told
abbrev pub AreWhole : Option (List PacketIn) → List PacketIn → Type 0
AreWhole None packets = Unit {0}
AreWhole (Some ps) packets = ps ≡ packets
