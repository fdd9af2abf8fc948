-- A hop that denies a packet as Inexpressible has no option for its label, and a walk that ends so comes to such a hop.
use Rattle.std.proofs.Common.{◌≡◌, ◌⊎◌, ℕ, ◌+◌, IsTrue, Bool, true, false, List, [], ◌∷◌, unwrap_or, All, MatchBool, Option, None, Result, Ok, Err, inl, inr, refl, sym, ap, subst, ◌∙◌}
use Rattle.std.proofs.lemmas.List.Elements.{All-head}
use Rattle.mls_label.proofs.octet_grammar.Elements.{All-place_or}
use Rattle.ip_headers.specs.Packet.{ParsedPacket}
use Rattle.packet_label.specs.declared.denial.Carrier.{Carrier}
use Rattle.packet_label.specs.declared.denial.Denial.{Denial}
use Rattle.packet_label.specs.declared.denial.Denial.TheVariants.{Inexpressible, NotIp}
use Rattle.packet_label.specs.declared.fault.CarryFault.{CarryFault}
use Rattle.packet_label.specs.declared.fault.CarryFault.TheVariants as fault
use Rattle.packet_label.specs.declared.packet.Wire.{Wire}
use Rattle.label_commands.specs.declared.flow_lines.hop.Hop.{Hop}
use Rattle.label_commands.specs.declared.flow_lines.hop.Hop.TheVariants.{Send, Forward, Receive}
use Rattle.node_tables.specs.Coherence.{NamesDefined}
use Rattle.node_tables.specs.Tables.{TableState, fresh}
use Rattle.node_tables.proofs.Law.{nodes_begin_fresh, maps_name_defined_dois}
use Rattle.label_receive.specs.declared.receiving.Delivered.{Delivered}
use Rattle.label_receive.specs.Judged.{fault_denial, judged_by}
use Rattle.label_receive.specs.Receive.{receive_of}
use Rattle.label_receive.proofs.Law.{receiving_never_tells_inexpressible}
use Rattle.label_send.specs.Send.{Sent, send_octets}
use Rattle.label_send.proofs.Law.{inexpressible_packets_have_no_option}
use Rattle.label_gateway.specs.Forward.{Forwarded, forward_of}
use Rattle.label_gateway.proofs.Law.{inexpressible_packets_have_no_way_on}
use Rattle.shared_tables.specs.Plan.{PlanState, network_after}
use Rattle.captures.specs.declared.packet_in.PacketIn.{PacketIn}
use Rattle.label_flow.specs.declared.packet_walk.walked.End.{End}
use Rattle.label_flow.specs.declared.packet_walk.walked.End.TheVariants as the_end
use Rattle.label_flow.specs.packet_walk.Walk.{Coming, from_outside, from_hop, octets_in, HopVerdict, denied, goes_on, arrives, verdict_of, tables_of, hop_verdict, Follows, IsWalk, IsWalkOf, Ends}
use Rattle.label_flow.specs.packet_walk.NoOption.{HopHasNoOption, ComesToNoOption, MeetsNoOption}

-- ---- a hop

abbrev Named : TableState → Type 0
Named t = NamesDefined t.definitions t.domains

-- those of one node, before the first step
fresh_named : Named fresh
fresh_named = All-head Named fresh [] (subst (All Named) (nodes_begin_fresh 1 []) (maps_name_defined_dois 1 [] 0))

-- the map of each node names defined DOIs, also that which stands for a node that isn't there
named : (plan : PlanState) (version node : ℕ) → Named (tables_of (network_after plan version) node)
named plan version node = All-place_or Named (network_after plan version) node fresh (maps_name_defined_dois plan.nodes plan.steps version) fresh_named

verdict_told : {X : Type 0} (made : X → HopVerdict) (r : Result X Denial) → ((x : X) → made x ≡ denied Inexpressible → ⊥) → verdict_of made r ≡ denied Inexpressible → r ≡ Err Inexpressible
verdict_told made (Ok x) other e = absurd (other x e)
verdict_told made (Err why) other e = let same : why ≡ Inexpressible = cc in ap Err same

fault_other : (fault : CarryFault) → fault_denial fault ≡ Inexpressible → ⊥
fault_other (fault.Header octet) e = absurd (cc)
fault_other (fault.Option octet) e = absurd (cc)

goes_other : (carrier : Carrier) (packet : ParsedPacket Wire) → goes_on carrier packet ≡ denied Inexpressible → ⊥
goes_other carrier packet e = absurd (cc)

arrives_other : (delivered : Delivered) → arrives delivered ≡ denied Inexpressible → ⊥
arrives_other delivered e = absurd (cc)

-- no case before it
first_told : (before : Option Denial) → before ≡ None → Inexpressible ≡ unwrap_or before Inexpressible
first_told before none = sym (ap (λ (o : Option Denial). unwrap_or o Inexpressible) none)

module _ (plan : PlanState) (version : ℕ) (octets : List ℕ) where
  abbrev network : List TableState
  network = network_after plan version

  forward_told : (node : ℕ) (from to domain : List ℕ) (read : Result (ParsedPacket Wire) CarryFault) → judged_by (forward_of (tables_of network node) from to domain) read ≡ Err Inexpressible
      → HopHasNoOption network (Forward node from to domain) octets read Inexpressible
  forward_told node from to domain (Err fault) e = let same : fault_denial fault ≡ Inexpressible = cc in absurd (fault_other fault same)
  forward_told node from to domain (Ok p) e =
      let told = inexpressible_packets_have_no_way_on (tables_of network node) from to domain p (named plan version node) e in
      (p, refl, (told.0, first_told _ told.1))

  receive_told : (node : ℕ) (interface : List ℕ) (read : Result (ParsedPacket Wire) CarryFault) → judged_by (receive_of (tables_of network node) interface) read ≡ Err Inexpressible → ⊥
  receive_told node interface (Err fault) e = let same : fault_denial fault ≡ Inexpressible = cc in fault_other fault same
  receive_told node interface (Ok p) e = receiving_never_tells_inexpressible.received (tables_of network node) interface p e

pub hop_told : (plan : PlanState) (version : ℕ) (hop : Hop) (octets : List ℕ) (read : Result (ParsedPacket Wire) CarryFault) → hop_verdict (network_after plan version) hop octets read ≡ denied Inexpressible
    → HopHasNoOption (network_after plan version) hop octets read Inexpressible
hop_told plan version (Send node domain interface label) octets read e =
    let t = tables_of (network_after plan version) node in
    let sent = verdict_told (λ (sent : Sent). goes_on sent.carrier sent.packet) (send_octets t domain interface label octets) (λ sent. goes_other sent.carrier sent.packet) e in
    let told = inexpressible_packets_have_no_option t domain interface label octets (named plan version node) sent in
    (told.0, told.1, (told.2.0, first_told _ told.2.1))
hop_told plan version (Forward node from to domain) octets read e =
    let rule = judged_by (forward_of (tables_of (network_after plan version) node) from to domain) read in
    forward_told plan version octets node from to domain read (verdict_told (λ (f : Forwarded). goes_on f.carrier f.packet) rule (λ f. goes_other f.carrier f.packet) e)
hop_told plan version (Receive node interface) octets read e =
    let rule = judged_by (receive_of (tables_of (network_after plan version) node) interface) read in
    receive_told plan version octets node interface read (verdict_told arrives rule arrives_other e)

-- ---- a walk

module _ (plan : PlanState) (at : ℕ) (out : List ℕ) where
  abbrev end : End
  end = the_end.Denied at Inexpressible

  by_verdict : (k : ℕ) (hop : Hop) (hops : List Hop) (coming : Coming) (version : ℕ) (versions : List ℕ) (read : Result (ParsedPacket Wire) CarryFault)
      → ((carrier : Carrier) (packet : ParsedPacket Wire) → IsWalk plan (k + 1) hops (from_hop carrier packet) versions end out
      → ComesToNoOption plan (k + 1) hops (from_hop carrier packet) versions at Inexpressible)
      → (verdict : HopVerdict) → hop_verdict (network_after plan version) hop (octets_in coming) read ≡ verdict
      → Follows k (octets_in coming) (λ next. IsWalk plan (k + 1) hops next versions end out) versions end out verdict
      → ((at ≡ k) × HopHasNoOption (network_after plan version) hop (octets_in coming) read Inexpressible)
      ⊎ ((carrier : Carrier) × (packet : ParsedPacket Wire) × (hop_verdict (network_after plan version) hop (octets_in coming) read ≡ goes_on carrier packet)
      × ComesToNoOption plan (k + 1) hops (from_hop carrier packet) versions at Inexpressible)
  by_verdict k hop hops coming version versions read more (denied why) judged follows =
      let ends : the_end.Denied at Inexpressible ≡ the_end.Denied k why = follows.1 in
      let here : at ≡ k = cc in
      let same : why ≡ Inexpressible = cc in
      inl (here, hop_told plan version hop (octets_in coming) read (judged ∙ ap denied same))
  by_verdict k hop hops coming version versions read more (goes_on carrier packet) judged follows = inr (carrier, packet, judged, more carrier packet follows)
  by_verdict k hop hops coming version versions read more (arrives delivered) judged follows =
      let ends : the_end.Denied at Inexpressible ≡ the_end.Delivered delivered.label delivered.receiver = follows.1 in
      absurd (cc)

  comes_told : (k : ℕ) (hops : List Hop) (coming : Coming) (versions : List ℕ) → IsWalk plan k hops coming versions end out → ComesToNoOption plan k hops coming versions at Inexpressible
  comes_told k [] coming versions walk = let ends = walk.1 in absurd (cc)
  comes_told k (hop ∷ hops) coming [] walk = absurd walk
  comes_told k (hop ∷ hops) coming (version ∷ versions) walk = (
    walk.0,
    walk.1,
    by_verdict k hop hops coming version versions walk.0 (λ carrier packet later. comes_told (k + 1) hops (from_hop carrier packet) versions later)
        (hop_verdict (network_after plan version) hop (octets_in coming) walk.0) refl walk.2,
  )

  of_told : (ip : Bool) (hops : List Hop) (octets versions : List ℕ) → MatchBool ip (IsWalk plan 1 hops (from_outside octets) versions end out) (Ends versions end out (the_end.Denied 0 NotIp) [])
      → IsTrue ip × ComesToNoOption plan 1 hops (from_outside octets) versions at Inexpressible
  of_told true hops octets versions walk = (refl, comes_told 1 hops (from_outside octets) versions walk)
  of_told false hops octets versions walk =
      let ends : the_end.Denied at Inexpressible ≡ the_end.Denied 0 NotIp = walk.1 in
      absurd (cc)

pub walk_told : (plan : PlanState) (hops : List Hop) (packet : PacketIn) (versions : List ℕ) (out : List ℕ) (at : ℕ) → IsWalkOf plan hops packet versions (the_end.Denied at Inexpressible) out
    → MeetsNoOption plan hops packet versions at Inexpressible
walk_told plan hops packet versions out at walk = of_told plan at out packet.is_ip hops packet.bytes versions walk
