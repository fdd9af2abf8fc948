-- How the parts of a packet that was read give the parsed packet that contracts see.
use Rattle.std.specs.Prelude.{◌≡◌, ℕ, ◌+◌, ◌≤◌, List, Option, None, Ok, Err, length, slice_get, if◌then◌else◌}
use Rattle.std.specs.Option.{option_map}
use Rattle.ip_headers.specs.declared.version.Version.{Version}
use Rattle.ip_headers.specs.declared.version.Version.TheVariants.{V4, V6}
use Rattle.ip_headers.specs.declared.fault.HeadFault.{HeadFault}
use Rattle.ip_headers.specs.declared.fault.HeadKind.TheVariants.{SecondLabel}
use Rattle.ip_headers.specs.declared.parts.Parts.{Parts}
use Rattle.ip_headers.specs.Options.{labels_of, others_of, has_any}
use Rattle.ip_headers.specs.Header6.{has_hop_by_hop}
use Rattle.ip_headers.specs.Reading.{fixed_fault, head_of, payload_of, options_of, parsed, unless, packet_of, front_of}
use Rattle.ip_headers.specs.Packet.{Headers}

-- the packet with these parts
abbrev pub view_of : Version → Parts → Headers
view_of version parts = parsed version parts.head.now (options_of version parts.head.now).options parts.payload.now

-- how long a head is at least: in version 6 with the first eight octets of a Hop-by-Hop header, where one
-- follows
abbrev pub least_head : Version → List ℕ → ℕ
least_head V4 head = 20
least_head V6 head = if has_hop_by_hop head then 48 else 40

-- how long a packet is at most, by its length field
abbrev pub most_octets : Version → ℕ
most_octets V4 = 65535
most_octets V6 = 65575

-- what holds of the parts
pub record Holds (version : Version) (parts : Parts) : Type 0 where
  pub long : least_head version parts.head.now ≤ length parts.head.now
  pub small : length parts.head.now + length parts.payload.now ≤ most_octets version
  pub whole : (options_of version parts.head.now).broken ≡ None
  pub first : option_map (λ x. record { place = x.0; octets = x.1.now }) parts.label ≡ slice_get (labels_of version (options_of version parts.head.now).options) 0
  pub others : parts.has_others ≡ has_any (others_of version (options_of version parts.head.now).options)

-- the head and the payload of octets whose fixed fields are right
pub record IsSplit (version : Version) (octets head payload : List ℕ) : Type 0 where
  pub fixed : fixed_fault version octets ≡ None
  pub head_is : head ≡ head_of version octets
  pub payload_is : payload ≡ payload_of version octets
  pub long : least_head version head ≤ length head
  pub small : length head + length payload ≤ most_octets version

-- both readings have this first fault
pub record FailsBoth (version : Version) (octets : List ℕ) (f : HeadFault) : Type 0 where
  pub front : front_of version octets ≡ Err f
  pub packet : packet_of version octets ≡ Err f

-- these are the parts, and this is the place of a second label option
pub record IsScanned (version : Version) (octets : List ℕ) (parts : Parts) (second : Option ℕ) : Type 0 where
  pub holds : Holds version parts
  pub front : front_of version octets ≡ Ok (view_of version parts)
  pub packet : packet_of version octets ≡ unless (option_map (λ octet. record { octet = octet; kind = SecondLabel }) second) (view_of version parts)
