-- The label of a packet that goes on is within the range of the interface at which it goes out.
use Rattle.std.proofs.Common.{◌≡◌, ℕ, false, List, Result, Ok, Err, refl, sym, ap, subst, ◌∙◌}
use Rattle.mls_label.specs.declared.label.Label.{Label}
use Rattle.ip_headers.specs.Packet.{ParsedPacket}
use Rattle.packet_label.specs.declared.denial.Carrier.{Carrier}
use Rattle.packet_label.specs.declared.denial.Denial.{Denial}
use Rattle.packet_label.specs.declared.fault.CarryFault.{CarryFault}
use Rattle.packet_label.specs.declared.packet.Wire.{Wire}
use Rattle.label_commands.specs.declared.flow_lines.hop.Hop.{Hop}
use Rattle.label_commands.specs.declared.flow_lines.hop.Hop.TheVariants.{Send, Forward, Receive}
use Rattle.label_commands.specs.flow_lines.Hop.{node_of}
use Rattle.node_tables.specs.Tables.{TableState}
use Rattle.label_receive.specs.declared.receiving.Delivered.{Delivered}
use Rattle.label_receive.specs.Incoming.{label_of}
use Rattle.label_receive.specs.Judged.{judged_by}
use Rattle.label_receive.specs.Range.{is_outside}
use Rattle.label_receive.specs.Receive.{receive_of}
use Rattle.label_send.specs.Send.{Sent, send_octets}
use Rattle.label_send.proofs.Law.{sent_packets_may_go_out}
use Rattle.label_gateway.specs.Forward.{Forwarded, forward_of}
use Rattle.label_gateway.proofs.Law.{forwarded_packets_may_go_on}
use Rattle.label_flow.specs.packet_walk.Walk.{goes_on, arrives, verdict_of, tables_of, hop_verdict}
use Rattle.label_flow.specs.flow_access.Labels.{high_of, hop_label}
use Rattle.static_law.specs.Covered.{interface_out}

-- the range of the interface, if there is one, holds it together with some low label
pub record IsReleased (t : TableState) (out : List ℕ) (x : Label) : Type 0 where
  pub low : Label
  pub inside : is_outside t.ranges out low x ≡ false

-- ---- where a hop sends

by_sent : (t : TableState) (domain interface octets : List ℕ) (x : Label) (carrier : Carrier) (packet : ParsedPacket Wire) (r : Result Sent Denial) → send_octets t domain interface x octets ≡ r
    → verdict_of (λ (sent : Sent). goes_on sent.carrier sent.packet) r ≡ goes_on carrier packet → IsReleased t interface x
by_sent t domain interface octets x carrier packet (Err why) s e = absurd (cc)
by_sent t domain interface octets x carrier packet (Ok sent) s e = record { low = x; inside = (sent_packets_may_go_out t domain interface x octets sent s).released }

-- ---- where it forwards

module _ (t : TableState) (from to domain : List ℕ) (p : ParsedPacket Wire) (x : Label) (takes : high_of (label_of t from p) ≡ Ok x) where
  by_forwarded : (f : Forwarded) → forward_of t from to domain p ≡ Ok f → IsReleased t to x
  by_forwarded f s =
      let g = forwarded_packets_may_go_on t from to domain p f s in
      let both : Ok g.incoming.high ≡ Ok x = sym (ap high_of g.labels) ∙ takes in
      let same : g.incoming.high ≡ x = cc in
      record { low = g.incoming.low; inside = subst (λ l. is_outside t.ranges to g.incoming.low l ≡ false) same g.released }

  by_result : (carrier : Carrier) (packet : ParsedPacket Wire) (r : Result Forwarded Denial) → forward_of t from to domain p ≡ r
      → verdict_of (λ (forwarded : Forwarded). goes_on forwarded.carrier forwarded.packet) r ≡ goes_on carrier packet → IsReleased t to x
  by_result carrier packet (Err why) s e = absurd (cc)
  by_result carrier packet (Ok f) s e = by_forwarded f s

-- ---- where it receives

-- nothing goes on
module _ {P : Type 0} (carrier : Carrier) (packet : ParsedPacket Wire) where
  pub never_on : (r : Result Delivered Denial) → verdict_of arrives r ≡ goes_on carrier packet → P
  never_on (Err why) e = absurd (cc)
  never_on (Ok delivered) e = absurd (cc)

pub released : (network : List TableState) (hop : Hop) (octets : List ℕ) (read : Result (ParsedPacket Wire) CarryFault) (carrier : Carrier) (packet : ParsedPacket Wire) (x : Label)
    → hop_verdict network hop octets read ≡ goes_on carrier packet → hop_label (tables_of network (node_of hop)) hop read ≡ Ok x → IsReleased (tables_of network (node_of hop)) (interface_out hop) x
released network (Send node domain interface label) octets read carrier packet x e takes =
    let same : label ≡ x = cc in
    subst (IsReleased (tables_of network node) interface) same
    (by_sent (tables_of network node) domain interface octets label carrier packet (send_octets (tables_of network node) domain interface label octets) refl e)
released network (Forward node from to domain) octets (Err fault) carrier packet x e takes = absurd (cc)
released network (Forward node from to domain) octets (Ok p) carrier packet x e takes =
    by_result (tables_of network node) from to domain p x takes carrier packet (forward_of (tables_of network node) from to domain p) refl e
released network (Receive node interface) octets read carrier packet x e takes = never_on carrier packet (judged_by (receive_of (tables_of network node) interface) read) e
