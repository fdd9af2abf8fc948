-- The laws of src/laws.rt under their names, for the crates above.
use Rattle.std.proofs.Common.{◌≡◌, ℕ, ◌≤◌, List, ◌++◌, [], take, All, Result}
use Rattle.ip_headers.specs.Packet.{ParsedPacket}
use Rattle.packet_label.specs.declared.denial.Denial.{Denial}
use Rattle.packet_label.specs.declared.denial.Denial.TheVariants.{Inexpressible}
use Rattle.packet_label.specs.declared.fault.CarryFault.{CarryFault}
use Rattle.packet_label.specs.declared.packet.Wire.{Wire}
use Rattle.label_commands.specs.declared.flow_lines.hop.Hop.{Hop}
use Rattle.node_tables.specs.Tables.{TableState}
use Rattle.shared_tables.specs.Plan.{PlanState, network_after}
use Rattle.captures.specs.declared.packet_in.PacketIn.{PacketIn}
use Rattle.label_flow.specs.declared.packet_walk.walked.End.{End}
use Rattle.label_flow.specs.declared.packet_walk.walked.End.TheVariants as the_end
use Rattle.label_flow.specs.packet_walk.Walk.{Coming, IsReadFrom, IsWalkOf, Rises, denied, hop_verdict}
use Rattle.label_flow.specs.packet_walk.NoOption.{HopHasNoOption, MeetsNoOption}
use Rattle.label_flow.proofs.packet_walk.NoOption.{denies, ends_denied}
use Rattle.label_flow.proofs.packet_walk.Told.{hop_told, walk_told}
use Rattle.label_flow.proofs.packet_walk.OneWay.{read_once, one_way, over_beginning, one_cut}
use Rattle.label_flow.proofs.packet_walk.ByVersions.{rises_wider}

pub walks_end_in_one_way : (plan : PlanState) (hops : List Hop) (packet : PacketIn) (versions : List ℕ) (end end' : End) (out out' : List ℕ) → IsWalkOf plan hops packet versions end out
    → IsWalkOf plan hops packet versions end' out' → (end ≡ end') × (out ≡ out')
walks_end_in_one_way = one_way

pub walks_agree_on_a_beginning : (plan : PlanState) (hops : List Hop) (packet : PacketIn) (versions : List ℕ) (end : End) (out : List ℕ) (m : ℕ) → All (λ v. v ≤ m) versions
    → IsWalkOf (record plan { steps = take m plan.steps }) hops packet versions end out → IsWalkOf plan hops packet versions end out
walks_agree_on_a_beginning = over_beginning

pub walks_are_cut_in_one_way : (plan : PlanState) (hops : List Hop) (packet : PacketIn) (a b r s : List ℕ) (end end' : End) (out out' : List ℕ) → a ++ r ≡ b ++ s
    → IsWalkOf plan hops packet a end out → IsWalkOf plan hops packet b end' out' → a ≡ b
walks_are_cut_in_one_way = one_cut

pub hops_read_in_one_way : (coming : Coming) (a b : Result (ParsedPacket Wire) CarryFault) → IsReadFrom coming a → IsReadFrom coming b → a ≡ b
hops_read_in_one_way = read_once

pub hops_without_an_option_deny : (network : List TableState) (hop : Hop) (octets : List ℕ) (read : Result (ParsedPacket Wire) CarryFault) (why : Denial) → HopHasNoOption network hop octets read why
    → hop_verdict network hop octets read ≡ denied why
hops_without_an_option_deny = denies

pub walks_without_an_option_end_denied : (plan : PlanState) (hops : List Hop) (packet : PacketIn) (versions : List ℕ) (end : End) (out : List ℕ) (at : ℕ) (why : Denial) → IsWalkOf plan hops packet versions end out
    → MeetsNoOption plan hops packet versions at why → (end ≡ the_end.Denied at why) × (out ≡ [])
walks_without_an_option_end_denied = ends_denied

pub hops_that_tell_inexpressible_have_no_option : (plan : PlanState) (version : ℕ) (hop : Hop) (octets : List ℕ) (read : Result (ParsedPacket Wire) CarryFault)
    → hop_verdict (network_after plan version) hop octets read ≡ denied Inexpressible → HopHasNoOption (network_after plan version) hop octets read Inexpressible
hops_that_tell_inexpressible_have_no_option = hop_told

pub walks_that_tell_inexpressible_meet_no_option : (plan : PlanState) (hops : List Hop) (packet : PacketIn) (versions : List ℕ) (out : List ℕ) (at : ℕ)
    → IsWalkOf plan hops packet versions (the_end.Denied at Inexpressible) out → MeetsNoOption plan hops packet versions at Inexpressible
walks_that_tell_inexpressible_meet_no_option = walk_told

pub versions_rise_between_wider_bounds : (low high lower higher : ℕ) (versions : List ℕ) → lower ≤ low → high ≤ higher → Rises low high versions → Rises lower higher versions
versions_rise_between_wider_bounds = rises_wider
