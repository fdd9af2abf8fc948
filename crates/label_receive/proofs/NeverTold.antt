-- Nothing is denied as Inexpressible where it comes in.
use Rattle.std.proofs.Common.{◌≡◌, ℕ, Bool, true, false, List, Option, Some, None, Result, Ok, Err, ap}
use Rattle.std.specs.Prelude.{if◌then◌else◌}
use Rattle.std.proofs.lemmas.Bool.{false≢true}
use Rattle.mls_range.specs.Computed.{dominates}
use Rattle.ip_headers.specs.Packet.{ParsedPacket}
use Rattle.packet_label.specs.declared.denial.Denial.{Denial}
use Rattle.packet_label.specs.declared.denial.Denial.TheVariants.{Inexpressible, OutsideRange}
use Rattle.packet_label.specs.declared.packet.Wire.{Wire}
use Rattle.domain_map.specs.declared.address_text.address.Address.{Address}
use Rattle.domain_map.specs.Domains.{Domains}
use Rattle.node_tables.specs.declared.receiver.Receiver.{Receiver}
use Rattle.node_tables.specs.Tables.{TableState, find_receiver_of}
use Rattle.label_receive.specs.Steps.{◌>>=◌}
use Rattle.label_receive.specs.Incoming.{Incoming, address_in, label_of}
use Rattle.label_receive.specs.Range.{is_outside}
use Rattle.label_receive.specs.Receive.{map_refuses, refusal_of, delivered_to, receive_of}
use Rattle.label_receive.proofs.Due.{chain, by_receiver, by_labels}
use Rattle.label_receive.proofs.Lowest.{label_so, unless_so}

pub labels_never : (t : TableState) (interface : List ℕ) (p : ParsedPacket Wire) → label_of t interface p ≡ Err Inexpressible → ⊥
labels_never t interface p h = false≢true (label_so t interface p Inexpressible h)

tests_never : (a b c : Bool) → chain a b c ≡ Some Inexpressible → ⊥
tests_never true b c h = absurd (cc)
tests_never false false c h = absurd (cc)
tests_never false true false h = absurd (cc)
tests_never false true true h = absurd (cc)

by_receiver_never : (domains : Domains) (source destination : Address) (incoming : Incoming) (o : Option Receiver) → by_receiver domains source destination incoming o ≡ Err Inexpressible → ⊥
by_receiver_never domains source destination incoming None h = absurd (cc)
by_receiver_never domains source destination incoming (Some receiver) h =
    tests_never (map_refuses domains receiver.domain source incoming.carrier) (dominates receiver.level incoming.high) (dominates incoming.low receiver.low)
    (unless_so (refusal_of domains receiver source incoming) destination incoming.high Inexpressible h)

inside_never : (t : TableState) (b : Bool) (source destination : Address) (incoming : Incoming) → (if b then Err OutsideRange else delivered_to t source destination incoming) ≡ Err Inexpressible → ⊥
inside_never t true source destination incoming h = absurd (cc)
inside_never t false source destination incoming h = by_receiver_never t.domains source destination incoming (find_receiver_of t.receivers destination) h

by_labels_never : (t : TableState) (interface : List ℕ) (p : ParsedPacket Wire) (r : Result Incoming Denial) → (r ≡ Err Inexpressible → ⊥) → (r >>= by_labels t interface p) ≡ Err Inexpressible → ⊥
by_labels_never t interface p (Err why) never h = let same : why ≡ Inexpressible = cc in never (ap Err same)
by_labels_never t interface p (Ok incoming) never h =
    inside_never t (is_outside t.ranges interface incoming.low incoming.high) (address_in p.version p.source) (address_in p.version p.destination) incoming h

pub receiving_never : (t : TableState) (interface : List ℕ) (p : ParsedPacket Wire) → receive_of t interface p ≡ Err Inexpressible → ⊥
unfolding receive_of
receiving_never t interface p h = by_labels_never t interface p (label_of t interface p) (labels_never t interface p) h
