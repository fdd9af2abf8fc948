-- The laws.
use Rattle.std.proofs.Common.{◌≡◌, ℕ, ◌<◌, ◌≤◌, List, length, Option, Ok}
use Rattle.std.specs.Prelude.{IfSome}
use Rattle.mls_label.specs.octet_grammar.Octets.{IsOctets}
use Rattle.ip_headers.specs.Packet.{Headers}
use Rattle.ip_headers.specs.Reading.{packet_of}
use Rattle.ip_headers.specs.Written.{IsLabelOption, packet_octets, rebuilt_length, rebuilt_room, room_limit}
use Rattle.version_cross.specs.Checksum.{checksum_sum}
use Rattle.version_cross.specs.Cross.{crossed_with, other_version}
use Rattle.version_cross.specs.Laws.{CanCross}
use Rattle.version_cross.proofs.Crossing.{room_from, keeps_sum, keeps_length, back, reads_back}

pub crossing_keeps_the_sum : (p : Headers) (source destination : List ℕ) (option : Option (List ℕ)) (hops : ℕ) → CanCross p source destination → checksum_sum (crossed_with p source destination option hops) ≡ checksum_sum p
crossing_keeps_the_sum = keeps_sum

pub crossing_keeps_the_length : (p : Headers) (source destination : List ℕ) (option : Option (List ℕ)) (hops : ℕ) → CanCross p source destination → length (crossed_with p source destination option hops).payload ≡ length p.payload
crossing_keeps_the_length = keeps_length

pub crossed_packets_can_cross_back : (p : Headers) (source destination : List ℕ) (option : Option (List ℕ)) (hops : ℕ) → CanCross p source destination → hops < 256
    → IfSome option (λ o. IsLabelOption (other_version p.version) o × IsOctets o) → CanCross (crossed_with p source destination option hops) p.source p.destination
crossed_packets_can_cross_back = back

pub crossed_packets_have_room : (p : Headers) (source destination : List ℕ) (option : Option (List ℕ)) (hops : ℕ) → IfSome option (IsLabelOption (other_version p.version))
    → rebuilt_room (crossed_with p source destination option hops) ≤ room_limit (other_version p.version)
crossed_packets_have_room p = room_from p.version p

pub crossed_packets_read_back : (p : Headers) (source destination : List ℕ) (option : Option (List ℕ)) (hops : ℕ) → CanCross p source destination → hops < 256
    → IfSome option (λ o. IsLabelOption (other_version p.version) o × IsOctets o) → rebuilt_length (crossed_with p source destination option hops) ≤ 65535
    → packet_of (other_version p.version) (packet_octets (crossed_with p source destination option hops)) ≡ Ok (crossed_with p source destination option hops)
crossed_packets_read_back = reads_back
