-- The tables of one node, each in order of insertion (netlabelctl(8)).
use Rattle.std.specs.Prelude.{ℕ, Bool, false, List, [], Option, Some, None, map}
use Rattle.std.specs.Map.{lookup}
use Rattle.std.specs.Str.{bytes_eq}
use Rattle.mls_range.specs.Range.{LabelRange}
use Rattle.doi_table.specs.Table.{Entries}
use Rattle.domain_map.specs.declared.address_text.address.Address.{Address}
use Rattle.domain_map.specs.address_text.Address.{same_address}
use Rattle.domain_map.specs.Domains.{Domain, Domains, same_domain}
use Rattle.domain_map.specs.Statics.{Statics}
use Rattle.node_tables.specs.declared.receiver.Receiver.{Receiver}

-- receivers by address, in order of insertion
abbrev pub Receivers : Type 0
Receivers = List (Address × Receiver)

-- ranges by interface, of which none is the default one
abbrev pub Ranges : Type 0
Ranges = List (Domain × LabelRange)

-- the octets of an IPv4 and of an IPv6 address that stand for each other
abbrev pub AddressPairs : Type 0
AddressPairs = List (List ℕ × List ℕ)

-- what a node's commands have set: the definitions of DOIs, the map of domains, the labels of unlabelled packets and whether these
-- are accepted, the receivers, the ranges of interfaces, and the pairs of addresses
pub record TableState : Type 0 where
  pub definitions : Entries
  pub domains : Domains
  pub statics : Statics
  pub accepts : Bool
  pub receivers : Receivers
  pub ranges : Ranges
  pub pairs : AddressPairs

-- a node to which no command was given
abbrev pub fresh : TableState
fresh = record {
  definitions = [];
  domains = [];
  statics = [];
  accepts = false;
  receivers = [];
  ranges = [];
  pairs = [];
}

-- the receiver at an address
abbrev pub find_receiver_of : Receivers → Address → Option Receiver
find_receiver_of receivers address = lookup (same_address address) receivers

-- the range of an interface alone
abbrev pub range_at : Ranges → Domain → Option LabelRange
range_at ranges interface = lookup (same_domain interface) ranges

-- the range of an interface, or else the default one
abbrev pub find_range_of : Ranges → List ℕ → Option LabelRange
find_range_of ranges interface = elim (range_at ranges (Some interface)) [ Some range ↦ Some range | None ↦ range_at ranges None ]

-- the IPv6 address that stands for an IPv4 one
abbrev pub six_of : AddressPairs → List ℕ → Option (List ℕ)
six_of pairs four = lookup (bytes_eq four) pairs

-- each pair the other way round
abbrev pub swapped : AddressPairs → AddressPairs
swapped pairs = map (λ pair. (pair.1, pair.0)) pairs

-- the IPv4 address that stands for an IPv6 one
abbrev pub four_of : AddressPairs → List ℕ → Option (List ℕ)
four_of pairs six = lookup (bytes_eq six) (swapped pairs)
