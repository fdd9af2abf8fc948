-- Worked values: a datagram of UDP with its checksum in both versions, and the same damaged in its last octet.
use Rattle.std.proofs.Common.{◌≡◌, ℕ, List, [], ◌∷◌, None, Some, refl}
use Rattle.ip_headers.specs.declared.version.Version.{Version}
use Rattle.ip_headers.specs.declared.version.Version.TheVariants.{V4, V6}
use Rattle.ip_headers.specs.declared.cause.Cause.TheVariants.{Fragment, NoChecksum}
use Rattle.ip_headers.specs.Packet.{Headers}
use Rattle.version_cross.specs.Cause.{first_cause, cross_cause}
use Rattle.version_cross.specs.Checksum.{checksum_sum, updated_checksum, crossed_segment}
use Rattle.version_cross.specs.Cross.{crossed_with}

abbrev source4 : List ℕ
source4 = 10 ∷ 0 ∷ 0 ∷ 1 ∷ []

abbrev destination4 : List ℕ
destination4 = 10 ∷ 0 ∷ 0 ∷ 2 ∷ []

-- fd00:: and this last octet
abbrev address6 : ℕ → List ℕ
address6 last = 253 ∷ 0 ∷ 0 ∷ 0 ∷ 0 ∷ 0 ∷ 0 ∷ 0 ∷ 0 ∷ 0 ∷ 0 ∷ 0 ∷ 0 ∷ 0 ∷ 0 ∷ last ∷ []

-- from port 1000 to port 53, with no data and this checksum
abbrev datagram : Version → ℕ → ℕ → List ℕ → List ℕ → ℕ → ℕ → Headers
datagram version flags_offset hops source destination high low = record {
  version = version;
  class = 0;
  identification = 0;
  flags_offset = flags_offset;
  flow_label = 0;
  hops = hops;
  protocol = 17;
  source = source;
  destination = destination;
  label = None;
  others = [];
  payload = 3 ∷ 232 ∷ 0 ∷ 53 ∷ 0 ∷ 8 ∷ high ∷ low ∷ [];
}

verifies_in_4 : checksum_sum (datagram V4 16384 64 source4 destination4 231 190) ≡ 0
verifies_in_4 = refl

verifies_in_6 : checksum_sum (datagram V6 0 63 (address6 1) (address6 2) 1 189) ≡ 0
verifies_in_6 = refl

damaged_in_4 : checksum_sum (datagram V4 16384 62 source4 destination4 231 191) ≡ 1
damaged_in_4 = refl

crosses_to_6 : crossed_with (datagram V4 16384 64 source4 destination4 231 190) (address6 1) (address6 2) None 63 ≡ datagram V6 0 63 (address6 1) (address6 2) 1 189
unfolding crossed_segment
crosses_to_6 = refl

crosses_to_4 : crossed_with (datagram V6 0 63 (address6 1) (address6 2) 1 190) source4 destination4 None 62 ≡ datagram V4 16384 62 source4 destination4 231 191
unfolding crossed_segment
crosses_to_4 = refl

-- RFC 1624, section 4
example_of_rfc_1624 : updated_checksum 0xdd2f 0x5555 0x3285 ≡ 0
example_of_rfc_1624 = refl

-- all ones never come out, neither word by word
all_ones_gone : updated_checksum 0xffff 0xffff 0 ≡ 0
all_ones_gone = refl

all_ones_stay_out : updated_checksum 0xffff 0 0 ≡ 0
all_ones_stay_out = refl

zero_stays : updated_checksum 0 0 0 ≡ 0
zero_stays = refl

no_cause_of_it : cross_cause (datagram V4 16384 64 source4 destination4 231 190) ≡ None
unfolding first_cause
no_cause_of_it = refl

no_checksum : cross_cause (datagram V4 16384 64 source4 destination4 0 0) ≡ Some NoChecksum
unfolding first_cause
no_checksum = refl

a_fragment : cross_cause (datagram V4 8192 64 source4 destination4 0 0) ≡ Some Fragment
unfolding first_cause
a_fragment = refl
