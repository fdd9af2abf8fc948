-- What the code has of a walk that goes on.
use Rattle.std.specs.Prelude.{◌≡◌, ◌⊎◌, ℕ, zero, suc, ◌≤◌, List, ◌++◌, length, Result, All}
use Rattle.ip_headers.specs.Packet.{ParsedPacket}
use Rattle.packet_label.specs.declared.denial.Carrier.{Carrier}
use Rattle.packet_label.specs.declared.fault.CarryFault.{CarryFault}
use Rattle.packet_label.specs.declared.packet.Wire.{Wire}
use Rattle.packet_label.specs.Written.{IsReadAs}
use Rattle.label_commands.specs.declared.flow_lines.hop.Hop.{Hop}
use Rattle.shared_tables.specs.Plan.{PlanState}
use Rattle.label_flow.specs.declared.packet_walk.walked.End.{End}
use Rattle.label_flow.specs.packet_walk.Walk.{Coming, octets_in, carrier_in, IsReadFrom, IsWalk, Rises}

-- the octets of a packet behind so many hops, each of which wrote it
abbrev pub octets_behind : ℕ → List ℕ → List ℕ → List ℕ
octets_behind zero packet out = packet
octets_behind (suc hops) packet out = out

-- it comes so, with these octets, which are read as it is
pub record Comes (coming : Coming) (carrier : Carrier) (octets : List ℕ) : Type 0 where
  pub carrier_is : carrier ≡ carrier_in coming
  pub octets_are : octets ≡ octets_in coming
  pub reads : (read : Result (ParsedPacket Wire) CarryFault) → IsReadAs octets read → IsReadFrom coming read

-- these hops judged what comes, each under one of some further versions
pub record HasWalked (plan : PlanState) (k : ℕ) (hops : List Hop) (carrier : Carrier) (octets : List ℕ) (seen now : ℕ) (before after : List ℕ)
    (end : End) (out : List ℕ) : Type 0 where
  pub more : List ℕ
  pub versions : after ≡ before ++ more
  pub rises : Rises seen now more
  pub within : All (λ version. version ≤ length plan.steps) more
  pub short : (length out ≤ 65575) ⊎ (out ≡ octets)
  pub walk : (coming : Coming) → Comes coming carrier octets → IsWalk plan k hops coming more end out
