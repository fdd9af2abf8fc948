-- Who receives a packet, by the first case that holds.
use Rattle.std.specs.Prelude.{ℕ, Bool, true, false, not, nat_eq, List, Option, Some, None, ok_or, Result, Ok, Err, if◌then◌else◌}
use Rattle.mls_label.specs.declared.label.Label.{Label}
use Rattle.mls_range.specs.Computed.{dominates}
use Rattle.ip_headers.specs.Packet.{ParsedPacket}
use Rattle.packet_label.specs.declared.denial.Carrier.{Carrier}
use Rattle.packet_label.specs.declared.denial.Carrier.TheVariants as carried
use Rattle.packet_label.specs.declared.denial.Denial.{Denial}
use Rattle.packet_label.specs.declared.denial.Denial.TheVariants.{OutsideRange, NoReceiver, MapRefuses, NotDominated, BelowRange}
use Rattle.packet_label.specs.declared.packet.Wire.{Wire}
use Rattle.domain_map.specs.declared.address_text.address.Address.{Address}
use Rattle.domain_map.specs.declared.protocol.Protocol.{Protocol}
use Rattle.domain_map.specs.declared.protocol.Protocol.TheVariants.{Unlbl, Cipso, Calipso}
use Rattle.domain_map.specs.Domains.{Domains, find_of}
use Rattle.node_tables.specs.declared.receiver.Receiver.{Receiver}
use Rattle.node_tables.specs.Tables.{TableState, find_receiver_of}
use Rattle.label_receive.specs.declared.receiving.Delivered.{Delivered}
use Rattle.label_receive.specs.Steps.{◌>>=◌}
use Rattle.label_receive.specs.Incoming.{Incoming, address_in, label_of}
use Rattle.label_receive.specs.Range.{is_outside}

-- what carried the labels is what the protocol of a map says: no option, or one of this DOI
abbrev pub is_carried : Protocol → Carrier → Bool
is_carried Unlbl carried.Unlabelled = true
is_carried (Cipso doi) (carried.Cipso found) = nat_eq doi found
is_carried (Calipso doi) (carried.Calipso found) = nat_eq doi found
is_carried protocol carrier = false

-- the map gives the domain another protocol or DOI towards the source than what carried the labels, or none
abbrev pub map_refuses : Domains → List ℕ → Address → Carrier → Bool
map_refuses domains domain source carrier = elim (find_of domains domain source) [
  | None ↦ true
  | Some protocol ↦ not (is_carried protocol carrier)
]

-- why a receiver doesn't get what has these labels
abbrev pub refusal_of : Domains → Receiver → Address → Incoming → Option Denial
refusal_of domains receiver source incoming =
    if map_refuses domains receiver.domain source incoming.carrier then Some MapRefuses
    else if not (dominates receiver.level incoming.high) then Some NotDominated
    else if not (dominates incoming.low receiver.low) then Some BelowRange
    else None

-- the high label goes to the address, if nothing refuses that
abbrev pub delivered_unless : Option Denial → Address → Label → Result Delivered Denial
delivered_unless None address label = Ok (record { label = label; receiver = address })
delivered_unless (Some why) address label = Err why

-- what comes from a source is delivered to a destination, if somebody receives there
abbrev pub delivered_to : TableState → Address → Address → Incoming → Result Delivered Denial
delivered_to t source destination incoming = do
  receiver ← ok_or (find_receiver_of t.receivers destination) NoReceiver
  delivered_unless (refusal_of t.domains receiver source incoming) destination incoming.high

-- what a node does with a packet that comes in at an interface for somebody there: its labels go through the interface's range first
unfoldable pub receive_of : TableState → List ℕ → ParsedPacket Wire → Result Delivered Denial
receive_of t interface p = do
  incoming ← label_of t interface p
  if is_outside t.ranges interface incoming.low incoming.high then Err OutsideRange
      else delivered_to t (address_in p.version p.source) (address_in p.version p.destination) incoming

-- the verdict of a call that leaves the label in a room
abbrev pub left_in : Label → Result Address Denial → Result Delivered Denial
left_in label answer = do
  address ← answer
  Ok (record { label = label; receiver = address })
