-- A packet that isn't excepted shows its payload at every hop: none of what goes on is of version 6 with protocol 0.
use Rattle.std.proofs.Common.{◌≡◌, ◌⊎◌, inl, inr, ℕ, Bool, true, false, List, [], ◌∷◌, MatchBool, Option, Some, None, Result, Ok, Err, refl, sym, ap, subst, ◌∙◌}
use Rattle.std.specs.Prelude.{◌==◌, ◌&&◌, not}
use Rattle.std.proofs.lemmas.Bool.{true≢false, eqb-true}
use Rattle.mls_label.specs.declared.label.Label.{Label}
use Rattle.domain_map.specs.declared.protocol.Protocol.{Protocol}
use Rattle.ip_headers.specs.declared.cause.Cause.{Cause}
use Rattle.ip_headers.specs.declared.cause.Cause.TheVariants as cause
use Rattle.ip_headers.specs.declared.version.Version.{Version}
use Rattle.ip_headers.specs.declared.version.Version.TheVariants.{V4, V6}
use Rattle.ip_headers.specs.Options.{has_any}
use Rattle.ip_headers.specs.Packet.{ParsedPacket, Headers}
use Rattle.ip_headers.specs.Reading.{packet_of, front_of}
use Rattle.ip_headers.specs.Written.{hides_payload, has_options, packet_octets}
use Rattle.ip_headers.proofs.Law.{packets_are_fronts}
use Rattle.packet_label.specs.declared.denial.Carrier.{Carrier}
use Rattle.packet_label.specs.declared.denial.Denial.{Denial}
use Rattle.packet_label.specs.declared.fault.CarryFault.{CarryFault}
use Rattle.packet_label.specs.declared.packet.Wire.{Wire}
use Rattle.packet_label.specs.Choice.{chosen, read_in}
use Rattle.packet_label.specs.Packet.{IsPacket}
use Rattle.packet_label.specs.Written.{written, settled_packet, IsReadAs, IsNext}
use Rattle.label_commands.specs.declared.flow_lines.hop.Hop.{Hop}
use Rattle.label_commands.specs.declared.flow_lines.hop.Hop.TheVariants.{Send, Forward, Receive}
use Rattle.label_commands.specs.flow_lines.Hop.{is_send}
use Rattle.node_tables.specs.Tables.{TableState}
use Rattle.version_cross.specs.Cause.{is_fragment, first_cause, cross_cause}
use Rattle.label_receive.specs.Judged.{judged_by}
use Rattle.label_receive.specs.Receive.{receive_of}
use Rattle.label_send.specs.Send.{Sent, send_octets}
use Rattle.label_send.proofs.Law.{sent_packets_may_go_out}
use Rattle.label_gateway.specs.Forward.{Forwarded, forward_of, onward}
use Rattle.label_gateway.proofs.Law.{forwarded_packets_may_go_on, packets_that_go_on_keep_their_protocol}
use Rattle.label_flow.specs.packet_walk.Walk.{Coming, from_outside, from_hop, octets_in, IsReadFrom, goes_on, verdict_of, tables_of, hop_verdict}
use Rattle.static_law.specs.Climbs.{IsExcepted}
use Rattle.static_law.proofs.Released.{never_on}

-- of this version with this protocol a payload may be hidden
pub record MayHide (version : Version) (protocol : ℕ) : Type 0 where
  pub six : version ≡ V6
  pub none : protocol ≡ 0

-- a packet for which this isn't so shows its payload
pub shows : (p : ParsedPacket Wire) → (MayHide p.version p.protocol → ⊥) → hides_payload p.version (written p) ≡ false
shows p never = by_version p.version refl
  where
    by_protocol : (rest b : Bool) → p.version ≡ V6 → (p.protocol == 0) ≡ b → (b && rest) ≡ false
    by_protocol rest true six is = absurd (never (record { six = six; none = eqb-true p.protocol 0 is }))
    by_protocol rest false six is = refl

    by_version : (v : Version) → p.version ≡ v → hides_payload v (written p) ≡ false
    by_version V4 is = refl
    by_version V6 is = by_protocol (not (has_options (written p))) (p.protocol == 0) is refl

-- then it is read as it was written
pub read_as_settled : (p : ParsedPacket Wire) (read : Result (ParsedPacket Wire) CarryFault) → (MayHide p.version p.protocol → ⊥) → IsNext p read → read ≡ Ok (settled_packet p)
read_as_settled p read never next = subst (λ b. MatchBool b (IsReadAs (packet_octets (written p)) read) (read ≡ Ok (settled_packet p))) (shows p never) next

-- ---- what is sent

sent_hides : (t : TableState) (domain interface : List ℕ) (x : Label) (sent : Sent) (octets : List ℕ) → send_octets t domain interface x octets ≡ Ok sent → MayHide sent.packet.version sent.packet.protocol → IsExcepted octets
sent_hides t domain interface x sent octets e hides =
    let g = sent_packets_may_go_out t domain interface x octets sent e in record {
      headers = g.headers;
      reads = g.reads;
      version = sym (ap (λ (s : Sent). s.packet.version) g.is) ∙ hides.six;
      protocol = sym (ap (λ (s : Sent). s.packet.protocol) g.is) ∙ hides.none;
    }

-- ---- what is forwarded

-- protocol 0 doesn't cross
never_crosses : (protocol : ℕ) (fragment others : Bool) (payload : List ℕ) → protocol ≡ 0 → first_cause protocol fragment others payload ≡ None → ⊥
unfolding first_cause
never_crosses protocol fragment others payload zero e =
    let at_zero = subst (λ n. first_cause n fragment others payload ≡ None) zero e in
    let none : ◌≡◌ {A = Option Cause} (Some cause.Protocol) None = at_zero in
    absurd (cc)

onward_hides : (t : TableState) (protocol : Protocol) (x : Label) (p new : ParsedPacket Wire) → onward t protocol x p ≡ Ok new → MayHide new.version new.protocol → MayHide p.version p.protocol
onward_hides t protocol x p new e hides =
    let keeps = packets_that_go_on_keep_their_protocol t protocol x p new e in
    by_version (sym keeps.0 ∙ hides.none) keeps.1
  where
    by_version : p.protocol ≡ 0 → (new.version ≡ p.version) ⊎ (cross_cause p ≡ None) → MayHide p.version p.protocol
    by_version none (inl same) = record { six = sym same ∙ hides.six; none = none }
    by_version none (inr can) = absurd (never_crosses p.protocol (is_fragment p.version p.flags_offset) (has_any p.others) p.payload none can)

-- a packet that is read has the head of its octets
fronts : (o : Option Version) (octets : List ℕ) (h : Headers) → read_in packet_of o octets ≡ Ok h → read_in front_of o octets ≡ Ok h
fronts None octets h e = absurd (cc)
fronts (Some version) octets h e = packets_are_fronts version octets h e

read_hides : (octets : List ℕ) (p : ParsedPacket Wire) → IsPacket octets p → MayHide p.version p.protocol → IsExcepted octets
read_hides octets p is hides = record {
  headers = is.headers;
  reads = fronts (chosen octets) octets is.headers is.reads;
  version = sym (ap (λ (q : ParsedPacket Wire). q.version) is.is) ∙ hides.six;
  protocol = sym (ap (λ (q : ParsedPacket Wire). q.protocol) is.is) ∙ hides.none;
}

-- ---- a hop

-- Octets from outside aren't excepted, and behind a hop there is no hop that sends, and what was written isn't so.
abbrev pub Shown : List Hop → Coming → Type 0
Shown hops (from_outside octets) = IsExcepted octets → ⊥
Shown [] (from_hop carrier p) = Unit {0}
Shown (hop ∷ hops) (from_hop carrier p) = (is_send hop ≡ false) × (MayHide p.version p.protocol → ⊥)

read_shown : (hop : Hop) (hops : List Hop) (coming : Coming) (p : ParsedPacket Wire) → Shown (hop ∷ hops) coming → IsReadFrom coming (Ok p) → MayHide p.version p.protocol → ⊥
read_shown hop hops (from_outside octets) p shown is hides = shown (read_hides octets p is hides)
read_shown hop hops (from_hop carrier q) p shown is hides =
    let both : Ok p ≡ Ok (settled_packet q) = read_as_settled q (Ok p) shown.1 is in
    let same : p ≡ settled_packet q = cc in
    shown.1 (subst (λ (r : ParsedPacket Wire). MayHide r.version r.protocol) same hides)

module _ (hops : List Hop) (carrier : Carrier) (packet : ParsedPacket Wire) (hides : MayHide packet.version packet.protocol) where
  send_shown : (t : TableState) (node : ℕ) (domain interface : List ℕ) (x : Label) (coming : Coming) → Shown (Send node domain interface x ∷ hops) coming
      → verdict_of (λ (sent : Sent). goes_on sent.carrier sent.packet) (send_octets t domain interface x (octets_in coming)) ≡ goes_on carrier packet → ⊥
  send_shown t node domain interface x (from_hop with_carrier q) shown e = absurd (true≢false shown.0)
  send_shown t node domain interface x (from_outside octets) shown e = by_result (send_octets t domain interface x octets) refl e
    where
      by_result : (r : Result Sent Denial) → send_octets t domain interface x octets ≡ r → verdict_of (λ (sent : Sent). goes_on sent.carrier sent.packet) r ≡ goes_on carrier packet → ⊥
      by_result (Err why) s h = absurd (cc)
      by_result (Ok sent) s h =
          let is : goes_on sent.carrier sent.packet ≡ goes_on carrier packet = h in
          let same : sent.packet ≡ packet = cc in
          shown (sent_hides t domain interface x sent octets s (subst (λ (q : ParsedPacket Wire). MayHide q.version q.protocol) (sym same) hides))

  forward_shown : (t : TableState) (hop : Hop) (from to domain : List ℕ) (coming : Coming) (read : Result (ParsedPacket Wire) CarryFault) → Shown (hop ∷ hops) coming → IsReadFrom coming read
      → verdict_of (λ (forwarded : Forwarded). goes_on forwarded.carrier forwarded.packet) (judged_by (forward_of t from to domain) read) ≡ goes_on carrier packet → ⊥
  forward_shown t hop from to domain coming (Err fault) shown reads e = absurd (cc)
  forward_shown t hop from to domain coming (Ok p) shown reads e = by_result (forward_of t from to domain p) refl e
    where
      by_result : (r : Result Forwarded Denial) → forward_of t from to domain p ≡ r → verdict_of (λ (forwarded : Forwarded). goes_on forwarded.carrier forwarded.packet) r ≡ goes_on carrier packet → ⊥
      by_result (Err why) s h = absurd (cc)
      by_result (Ok f) s h =
          let g = forwarded_packets_may_go_on t from to domain p f s in
          let is : goes_on f.carrier f.packet ≡ goes_on carrier packet = h in
          let same : f.packet ≡ packet = cc in
          read_shown hop hops coming p shown reads (onward_hides t g.protocol g.incoming.high p f.packet g.goes (subst (λ (q : ParsedPacket Wire). MayHide q.version q.protocol) (sym same) hides))

  pub goes_on_shown : (network : List TableState) (hop : Hop) (coming : Coming) (read : Result (ParsedPacket Wire) CarryFault) → Shown (hop ∷ hops) coming → IsReadFrom coming read
      → hop_verdict network hop (octets_in coming) read ≡ goes_on carrier packet → ⊥
  goes_on_shown network (Send node domain interface x) coming read shown reads e = send_shown (tables_of network node) node domain interface x coming shown e
  goes_on_shown network (Forward node from to domain) coming read shown reads e = forward_shown (tables_of network node) (Forward node from to domain) from to domain coming read shown reads e
  goes_on_shown network (Receive node interface) coming read shown reads e = never_on carrier packet (judged_by (receive_of (tables_of network node) interface) read) e
