-- What a hop makes of a packet, by the label under which it judges it.
use Rattle.std.proofs.Common.{◌≡◌, ℕ, List, Option, Some, Result, Ok, Err, refl, sym, ap, subst, ◌∙◌}
use Rattle.mls_label.specs.declared.label.Label.{Label}
use Rattle.mls_label.specs.Label.{Dominates}
use Rattle.domain_map.specs.declared.protocol.Protocol.{Protocol}
use Rattle.ip_headers.specs.Packet.{ParsedPacket}
use Rattle.packet_label.specs.declared.denial.Carrier.{Carrier}
use Rattle.packet_label.specs.declared.denial.Denial.{Denial}
use Rattle.packet_label.specs.declared.fault.CarryFault.{CarryFault}
use Rattle.packet_label.specs.declared.packet.Wire.{Wire}
use Rattle.label_commands.specs.declared.flow_lines.hop.Hop.{Hop}
use Rattle.label_commands.specs.declared.flow_lines.hop.Hop.TheVariants.{Send, Forward, Receive}
use Rattle.label_commands.specs.flow_lines.Hop.{node_of}
use Rattle.node_tables.specs.declared.receiver.Receiver.{Receiver}
use Rattle.node_tables.specs.Tables.{TableState, find_receiver_of}
use Rattle.label_receive.specs.declared.receiving.Delivered.{Delivered}
use Rattle.label_receive.specs.Receive.{receive_of}
use Rattle.label_receive.proofs.Law.{delivered_packets_are_due}
use Rattle.label_send.specs.Outgoing.{outgoing}
use Rattle.label_send.specs.Send.{Sent, send_octets}
use Rattle.label_send.proofs.Law.{sent_packets_may_go_out}
use Rattle.label_gateway.specs.Forward.{Forwarded, forward_of}
use Rattle.label_gateway.proofs.Law.{forwarded_packets_may_go_on, packets_that_go_on_say_the_label}
use Rattle.label_flow.specs.packet_walk.Walk.{HopVerdict, denied, goes_on, arrives, verdict_of, tables_of, hop_verdict}
use Rattle.label_flow.specs.flow_access.Labels.{high_of, hop_label}

-- ---- what a hop makes of a packet with this label

-- what goes on says it under some protocol, and what arrives has it, and its receiver's level dominates it
abbrev pub ByLabel : TableState → Label → HopVerdict → Type 0
ByLabel t x (denied why) = Unit {0}
ByLabel t x (goes_on carrier packet) = (protocol : Protocol) × (outgoing t.definitions protocol x ≡ Ok packet.label)
ByLabel t x (arrives delivered) = (delivered.label ≡ x) × ((receiver : Receiver) × (find_receiver_of t.receivers delivered.receiver ≡ Some receiver) × Dominates receiver.level x)

pub record HasLabel (t : TableState) (hop : Hop) (read : Result (ParsedPacket Wire) CarryFault) (verdict : HopVerdict) : Type 0 where
  pub label : Label
  pub is : hop_label t hop read ≡ Ok label
  pub made : ByLabel t label verdict

-- a packet that isn't denied has one
abbrev pub Judges : TableState → Hop → Result (ParsedPacket Wire) CarryFault → HopVerdict → Type 0
Judges t hop read (denied why) = Unit {0}
Judges t hop read (goes_on carrier packet) = HasLabel t hop read (goes_on carrier packet)
Judges t hop read (arrives delivered) = HasLabel t hop read (arrives delivered)

module _ (t : TableState) where
  send_judges : (node : ℕ) (domain interface : List ℕ) (x : Label) (octets : List ℕ) (read : Result (ParsedPacket Wire) CarryFault) (r : Result Sent Denial) → send_octets t domain interface x octets ≡ r
      → Judges t (Send node domain interface x) read (verdict_of (λ (sent : Sent). goes_on sent.carrier sent.packet) r)
  send_judges node domain interface x octets read (Err why) s = tt
  send_judges node domain interface x octets read (Ok sent) s =
      let g = sent_packets_may_go_out t domain interface x octets sent s in
      record { label = x; is = refl; made = (g.protocol, g.goes ∙ ap (λ (y : Sent). let r : Result (Option Wire) Denial = Ok y.packet.label in r) (sym g.is)) }

  forward_judges : (node : ℕ) (from to domain : List ℕ) (p : ParsedPacket Wire) (r : Result Forwarded Denial) → forward_of t from to domain p ≡ r
      → Judges t (Forward node from to domain) (Ok p) (verdict_of (λ (forwarded : Forwarded). goes_on forwarded.carrier forwarded.packet) r)
  forward_judges node from to domain p (Err why) s = tt
  forward_judges node from to domain p (Ok f) s =
      let g = forwarded_packets_may_go_on t from to domain p f s in
      record { label = g.incoming.high; is = ap high_of g.labels; made = (g.protocol, packets_that_go_on_say_the_label t g.protocol g.incoming.high p f.packet g.goes) }

  receive_judges : (node : ℕ) (interface : List ℕ) (p : ParsedPacket Wire) (r : Result Delivered Denial) → receive_of t interface p ≡ r → Judges t (Receive node interface) (Ok p) (verdict_of arrives r)
  receive_judges node interface p (Err why) s = tt
  receive_judges node interface p (Ok d) s =
      let g = delivered_packets_are_due t interface p d s in record {
        label = g.incoming.high;
        is = ap high_of g.labels;
        made = (
          ap (λ (x : Delivered). x.label) g.is,
          (g.receiver, ap (λ (x : Delivered). find_receiver_of t.receivers x.receiver) g.is ∙ g.receives, g.dominated),
        );
      }

pub judges : (network : List TableState) (hop : Hop) (octets : List ℕ) (read : Result (ParsedPacket Wire) CarryFault) → Judges (tables_of network (node_of hop)) hop read (hop_verdict network hop octets read)
judges network (Send node domain interface x) octets read =
    let t = tables_of network node in
    send_judges t node domain interface x octets read (send_octets t domain interface x octets) refl
judges network (Forward node from to domain) octets (Err fault) = tt
judges network (Forward node from to domain) octets (Ok p) =
    let t = tables_of network node in
    forward_judges t node from to domain p (forward_of t from to domain p) refl
judges network (Receive node interface) octets (Err fault) = tt
judges network (Receive node interface) octets (Ok p) =
    let t = tables_of network node in
    receive_judges t node interface p (receive_of t interface p) refl

-- so where this is the verdict
pub judges_so : (network : List TableState) (hop : Hop) (octets : List ℕ) (read : Result (ParsedPacket Wire) CarryFault) (verdict : HopVerdict) → hop_verdict network hop octets read ≡ verdict
    → Judges (tables_of network (node_of hop)) hop read verdict
judges_so network hop octets read verdict is = subst (Judges (tables_of network (node_of hop)) hop read) is (judges network hop octets read)

-- what goes on says the label under some protocol
pub says_label : (network : List TableState) (hop : Hop) (octets : List ℕ) (read : Result (ParsedPacket Wire) CarryFault) (carrier : Carrier) (packet : ParsedPacket Wire) (x : Label)
    → hop_verdict network hop octets read ≡ goes_on carrier packet → hop_label (tables_of network (node_of hop)) hop read ≡ Ok x
    → (protocol : Protocol) × (outgoing (tables_of network (node_of hop)).definitions protocol x ≡ Ok packet.label)
says_label network hop octets read carrier packet x verdict is =
    let t = tables_of network (node_of hop) in
    let j : HasLabel t hop read (goes_on carrier packet) = judges_so network hop octets read (goes_on carrier packet) verdict in
    let both : Ok j.label ≡ Ok x = sym j.is ∙ is in
    let one : j.label ≡ x = cc in
    (j.made.0, subst (λ l. outgoing t.definitions j.made.0 l ≡ Ok packet.label) one j.made.1)
