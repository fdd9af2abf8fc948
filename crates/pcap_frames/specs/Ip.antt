-- The IP packet of a frame, by the capture's link type (Ethernet with at most one tag of IEEE 802.1Q, or a packet alone).
use Rattle.std.specs.Prelude.{ℕ, Bool, ◌&&◌, ◌||◌, ◌==◌, nat_lt, nat_le, if◌then◌else◌, List, length, drop, Option, Some, None}
use Rattle.net_io.specs.declared.file_window.order.OctetOrder.TheVariants.{Big}
use Rattle.net_io.specs.file_window.Numbers.{ordered_number}

-- what follows an EtherType of IPv4 or IPv6
abbrev pub typed_part : List ℕ → Option (List ℕ)
typed_part octets = let type = ordered_number Big 2 octets in if type == 0x0800 || type == 0x86DD then Some (drop 2 octets) else None

-- a VLAN tag behind two addresses, with an EtherType behind it
abbrev pub has_vlan_tag : List ℕ → Bool
has_vlan_tag octets = ordered_number Big 2 (drop 12 octets) == 0x8100 && nat_le 18 (length octets)

-- behind two addresses, and behind one VLAN tag where there is one
abbrev pub ethernet_part : List ℕ → Option (List ℕ)
ethernet_part octets =
    if nat_lt (length octets) 14 then None
    else (if has_vlan_tag octets then typed_part (drop 16 octets)
    else typed_part (drop 12 octets))

-- the packet of IP in a frame of this link type: behind the Ethernet header, or all of it (raw IP, IPv4, IPv6)
unfoldable pub ip_part_of : ℕ → List ℕ → Option (List ℕ)
ip_part_of link octets =
    if link == 1 then ethernet_part octets
    else (if link == 101 || link == 228 || link == 229 then Some octets else None)
