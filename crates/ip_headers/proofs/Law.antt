-- The laws.
use Rattle.std.proofs.Common.{◌≡◌, ℕ, ◌-◌, ◌+◌, ◌%◌, ◌<◌, ◌≤◌, Bool, true, false, cond, eqb, List, ◌++◌, length, All, sum, fold, Option, None, Ok, refl}
use Rattle.std.specs.Prelude.{IfErr, IfSome}
use Rattle.mls_label.specs.octet_grammar.Octets.{IsOctets}
use Rattle.ip_headers.specs.declared.version.Version.{Version}
use Rattle.ip_headers.specs.declared.version.Version.TheVariants.{V4, V6}
use Rattle.ip_headers.specs.Sum.{ones_add}
use Rattle.ip_headers.specs.Packet.{Headers}
use Rattle.ip_headers.specs.Reading.{packet_of, front_of}
use Rattle.ip_headers.specs.Written.{head_octets, IsLabelOption, IsParsed, rewritten, rebuilt_room, room_limit, rebuilt_length, hides_payload, packet_octets, settled, next_packet}
use Rattle.ip_headers.specs.Laws.{ReadsBack, StandsIn}
use Rattle.ip_headers.proofs.Sums.{is_modulo}
use Rattle.ip_headers.proofs.Packets.{packets_within, fronts_within, is_front, is_packet, stands_in, payload_fits, may_be_written}
use Rattle.ip_headers.proofs.Back4.{reads_back4}
use Rattle.ip_headers.proofs.Back6.{reads_back6}

pub record FaultsStandWithin : Type 0 where
  pub packets : (version : Version) (octets : List ℕ) → IfErr (packet_of version octets) (λ f. f.octet ≤ length octets)
  pub fronts : (version : Version) (octets : List ℕ) → IfErr (front_of version octets) (λ f. f.octet ≤ length octets)

pub faults_stand_within : FaultsStandWithin
faults_stand_within = record { packets = packets_within; fronts = fronts_within }

pub packets_are_fronts : (version : Version) (octets : List ℕ) (p : Headers) → packet_of version octets ≡ Ok p → front_of version octets ≡ Ok p
packets_are_fronts = is_front

pub fronts_without_a_label_are_packets : (version : Version) (octets : List ℕ) (p : Headers) → front_of version octets ≡ Ok p → p.label ≡ None → packet_of version octets ≡ Ok p
fronts_without_a_label_are_packets = is_packet

pub packets_stand_in_their_octets : (version : Version) (octets : List ℕ) (p : Headers) → front_of version octets ≡ Ok p → StandsIn version octets p
packets_stand_in_their_octets = stands_in

pub payloads_fit_their_length : (version : Version) (octets : List ℕ) (p : Headers) → IsOctets octets → front_of version octets ≡ Ok p → IsOctets p.payload × (length p.payload ≤ 65535)
payloads_fit_their_length version octets p are e = payload_fits octets are version p e

pub read_packets_may_be_written : (version : Version) (octets : List ℕ) (p : Headers) (option : Option (List ℕ)) (hops : ℕ) → IsOctets octets → front_of version octets ≡ Ok p → hops < 256
    → IfSome option (λ o. IsLabelOption version o × IsOctets o) → IsParsed (rewritten p option hops)
read_packets_may_be_written version octets p option hops are e low h = may_be_written octets are version p option hops e low h

by_version : (p : Headers) (v : Version) → p.version ≡ v → IsParsed p → rebuilt_room p ≤ room_limit v → rebuilt_length p ≤ 65535 → hides_payload v p ≡ false → packet_of v (head_octets v p ++ p.payload) ≡ Ok (settled p)
by_version p V4 v h room long hides = reads_back4 p v h room long
by_version p V6 v h room long hides = reads_back6 p v h long hides

pub written_packet_reads_back : (p : Headers) → ReadsBack p
unfolding packet_octets next_packet
written_packet_reads_back p h room long = by_hidden (hides_payload p.version p) refl where
  by_hidden : (b : Bool) → hides_payload p.version p ≡ b → packet_of p.version (packet_octets p) ≡ next_packet p
  by_hidden true hides = rw hides refl
  by_hidden false hides = rw hides (by_version p p.version refl h room long hides)

pub sum_is_modulo_65535 : (words : List ℕ) → All (λ w. w < 65536) words → fold ones_add 0 words ≡ cond (eqb (sum words) 0) 0 (1 + (sum words - 1) % 65535)
sum_is_modulo_65535 = is_modulo
