-- The options of one type in a packet of version 4, and the packet with another option in their place.
use Rattle.std.specs.Prelude.{◌≡◌, ℕ, ◌≤◌, ◌==◌, not, List, ◌∷◌, Option, None, filter, length, slice_get, slice_index}
use Rattle.std.specs.Option.{option_map}
use Rattle.ip_headers.specs.declared.version.Version.TheVariants.{V4}
use Rattle.ip_headers.specs.Options.{Placed, type_octet}
use Rattle.ip_headers.specs.Packet.{ParsedPacket, Headers, relabelled}
use Rattle.ip_headers.specs.Reading.{first_place}

-- the options of this type, in order
abbrev pub of_kind : ℕ → List Placed → List Placed
of_kind kind options = filter (λ o. type_octet o.octets == kind) options

-- the others
abbrev pub without_kind : ℕ → List Placed → List Placed
without_kind kind options = filter (λ o. not (type_octet o.octets == kind)) options

-- the first option of this type in a packet
abbrev pub first_of_kind : ℕ → Headers → Option Placed
first_of_kind kind p = slice_get (of_kind kind p.others) 0

-- the place of the second
abbrev pub second_of_kind : ℕ → Headers → Option ℕ
second_of_kind kind p = option_map (λ (o : Placed). o.place) (slice_get (of_kind kind p.others) 1)

-- an option as a header may have it: of 2 to 40 octets, which its second octet counts
pub record IsWholeOption (option : List ℕ) : Type 0 where
  pub long : 2 ≤ length option
  pub short : length option ≤ 40
  pub exact : slice_index option 1 ≡ length option

-- the packet without its label option, with this option in front of its others
abbrev pub led_by : {L M : Type 0} → List ℕ → ParsedPacket L → ParsedPacket M
led_by option p = record (relabelled p None p.hops) { others = record { place = first_place V4; octets = option } ∷ p.others }

-- the packet with this option in place of its label option and of its options of this type
abbrev pub swapped_kind : ℕ → List ℕ → Headers → Headers
swapped_kind kind option p = led_by option (record p { others = without_kind kind p.others })
