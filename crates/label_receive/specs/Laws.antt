-- What the laws on receivers say.
use Rattle.std.specs.Prelude.{◌≡◌, ℕ, true, false, Bool, List, [], Some, Ok}
use Rattle.std.specs.List.{All}
use Rattle.mls_label.specs.Label.{Dominates}
use Rattle.ip_headers.specs.Packet.{ParsedPacket}
use Rattle.packet_label.specs.declared.denial.Denial.{Denial}
use Rattle.packet_label.specs.declared.denial.Denial.TheVariants.{Unlabelled, NoStatic, UnknownDoi, TagNotAllowed, LevelUnmapped, CategoryUnmapped}
use Rattle.packet_label.specs.declared.packet.Wire.{Wire}
use Rattle.domain_map.specs.declared.address_text.address.Address.{Address}
use Rattle.node_tables.specs.declared.receiver.Receiver.{Receiver}
use Rattle.node_tables.specs.Tables.{TableState, Receivers, find_receiver_of}
use Rattle.label_receive.specs.declared.receiving.Delivered.{Delivered}
use Rattle.label_receive.specs.Incoming.{Incoming, address_in, label_of}
use Rattle.label_receive.specs.Range.{is_outside}
use Rattle.label_receive.specs.Receive.{map_refuses}

-- level 0 without a category is each receiver's low end
abbrev pub HaveLowestEnds : Receivers → Type 0
HaveLowestEnds receivers = All (λ (entry : Address × Receiver). entry.1.low ≡ record { level = 0; cats = [] }) receivers

-- Why a packet is delivered: it has labels that the interface takes, its receiver's map agrees with what carried them, and they
-- are within the labels that the receiver may have.
pub record IsDelivered (t : TableState) (interface : List ℕ) (p : ParsedPacket Wire) (delivered : Delivered) : Type 0 where
  pub incoming : Incoming
  pub receiver : Receiver
  pub labels : label_of t interface p ≡ Ok incoming
  pub inside : is_outside t.ranges interface incoming.low incoming.high ≡ false
  pub receives : find_receiver_of t.receivers (address_in p.version p.destination) ≡ Some receiver
  pub agrees : map_refuses t.domains receiver.domain (address_in p.version p.source) incoming.carrier ≡ false
  pub dominated : Dominates receiver.level incoming.high
  pub above : Dominates incoming.low receiver.low
  pub is : delivered ≡ record { label = incoming.high; receiver = address_in p.version p.destination }

-- the denials of packets that have no label at a node
abbrev pub is_of_labels : Denial → Bool
is_of_labels Unlabelled = true
is_of_labels NoStatic = true
is_of_labels (UnknownDoi octet) = true
is_of_labels (TagNotAllowed octet) = true
is_of_labels LevelUnmapped = true
is_of_labels (CategoryUnmapped category) = true
is_of_labels why = false
