-- A packet written again (RFC 791, section 3.1; RFC 8200, sections 3, 4.2, 4.3 and appendix A).
use Rattle.std.specs.Prelude.{◌≡◌, ℕ, zero, suc, ◌+◌, ◌-◌, ◌*◌, ◌/◌, ◌%◌, ◌^◌, ◌<◌, ◌≤◌, Bool, true, false, not, ◌&&◌, ◌||◌, List, [], ◌∷◌, ◌++◌, length, All, Option, Some, None, IfSome, Result, Ok, replicate, slice_index, is_some, ◌==◌, if◌then◌else◌}
use Rattle.std.specs.Int.{w16, to_be_bytes}
use Rattle.std.specs.Option.{option_map}
use Rattle.mls_label.specs.octet_grammar.Octets.{IsOctets}
use Rattle.ip_headers.specs.declared.version.Version.{Version}
use Rattle.ip_headers.specs.declared.version.Version.TheVariants.{V4, V6}
use Rattle.ip_headers.specs.declared.fault.HeadFault.{HeadFault}
use Rattle.ip_headers.specs.Sum.{ones_sum}
use Rattle.ip_headers.specs.Options.{Placed, IsOption, type_octet, label_type, uncounted, aligned, is_other, is_jumbo, has_any}
use Rattle.ip_headers.specs.Packet.{ParsedPacket, Headers, relabelled}
use Rattle.ip_headers.specs.Reading.{first_place, packet_of}

-- what the place of an option is kept modulo: in version 4 each place serves
abbrev pub alignment : Version → ℕ
alignment V4 = 1
alignment V6 = 8

-- how many octets to the next place that is this one modulo the unit
abbrev pub gap_to : ℕ → ℕ → ℕ → ℕ
gap_to unit place free = (place + (unit - free % unit)) % unit

-- A gap: zero octets in version 4, where the first of them ends the list. In version 6 Pad1 for one octet,
-- and for more PadN, whose length octet leaves out two.
abbrev pub padding : Version → ℕ → List ℕ
padding V4 n = replicate n 0
padding V6 zero = []
padding V6 (suc zero) = 0 ∷ []
padding V6 (suc (suc n)) = 1 ∷ n ∷ replicate n 0

-- options one after another from the first free octet on, each at the next place that is its own modulo the
-- alignment
unfoldable pub packed : Version → ℕ → List Placed → List ℕ
packed version free [] = []
packed version free (option ∷ options) =
    let gap = gap_to (alignment version) option.place free in
    padding version gap ++ option.octets ++ packed version (free + gap + length option.octets) options

-- a header is a whole number of these units
abbrev pub unit_of : Version → ℕ
unit_of V4 = 4
unit_of V6 = 8

-- filled up with padding to a multiple of the unit
abbrev pub filled : Version → ℕ → List ℕ → List ℕ
filled version first octets = octets ++ padding version (gap_to (unit_of version) 0 (first + length octets))

-- the label option, if there is one
abbrev pub label_octets : Option Placed → List ℕ
label_octets None = []
label_octets (Some option) = option.octets

-- the label option first, then the others, with no padding after them
unfoldable pub kept_options : Headers → List ℕ
kept_options p = label_octets p.label ++ packed p.version (first_place p.version + length (label_octets p.label)) p.others

-- the list of options with the padding after it
abbrev pub option_area : Headers → List ℕ
option_area p = filled p.version (first_place p.version) (kept_options p)

-- the fixed fields of version 4, with so many octets of options and this checksum
abbrev pub fixed4 : Headers → ℕ → ℕ → List ℕ
fixed4 p size checksum =
    (64 + (20 + size) / 4) ∷ p.class ∷ to_be_bytes w16 (20 + size + length p.payload)
    ++ to_be_bytes w16 p.identification ++ to_be_bytes w16 p.flags_offset
    ++ (p.hops ∷ p.protocol ∷ to_be_bytes w16 checksum)
    ++ p.source ++ p.destination

-- the header of version 4, with this checksum
abbrev pub header4 : Headers → ℕ → List ℕ
header4 p checksum = fixed4 p (length (option_area p)) checksum ++ option_area p

-- the one's complement of the one's complement sum of the header with a checksum of 0
abbrev pub checksum4 : Headers → ℕ
checksum4 p = 65535 - ones_sum (header4 p 0)

-- whether a packet of version 6 has an option that is kept
abbrev pub has_options : Headers → Bool
has_options p = is_some p.label || has_any p.others

-- a Hop-by-Hop header with this next header and these options, none without an option
abbrev pub hop_by_hop_with : Bool → ℕ → List ℕ → List ℕ
hop_by_hop_with any protocol area = if any then protocol ∷ ((2 + length area) / 8 - 1) ∷ area else []

-- the Hop-by-Hop header of a packet
unfoldable pub hop_by_hop : Headers → List ℕ
hop_by_hop p = hop_by_hop_with (has_options p) p.protocol (option_area p)

-- the header of version 6, with so many octets of a Hop-by-Hop header and this next header
abbrev pub fixed6 : Headers → ℕ → ℕ → List ℕ
fixed6 p size next =
    (96 + p.class / 16) ∷ (16 * (p.class % 16) + p.flow_label / 65536) ∷ to_be_bytes w16 (p.flow_label % 65536)
    ++ to_be_bytes w16 (size + length p.payload)
    ++ (next ∷ p.hops ∷ [])
    ++ p.source ++ p.destination

-- next header 0 says that a Hop-by-Hop header follows
abbrev pub next_header : Headers → ℕ
next_header p = if has_options p then 0 else p.protocol

-- what stands before the payload
abbrev pub head_octets : Version → Headers → List ℕ
head_octets V4 p = header4 p (checksum4 p)
head_octets V6 p = fixed6 p (length (hop_by_hop p)) (next_header p) ++ hop_by_hop p

-- the octets of a packet
unfoldable pub packet_octets : Headers → List ℕ
packet_octets p = head_octets p.version p ++ p.payload

-- how much room the options need, and how much there is: 40 octets in a header of version 4, 2048 in a
-- Hop-by-Hop header with its first two octets
abbrev pub room_of : Version → Headers → ℕ
room_of V4 p = length (kept_options p)
room_of V6 p = length (hop_by_hop p)

-- how much room the options of a packet need
unfoldable pub rebuilt_room : Headers → ℕ
rebuilt_room p = room_of p.version p

-- how much there is
abbrev pub room_limit : Version → ℕ
room_limit V4 = 40
room_limit V6 = 2048

-- the number in the field of 16 bits that says how long the packet is: with its header in version 4, without
-- it in version 6
abbrev pub length_of : Version → Headers → ℕ
length_of V4 p = 20 + length (option_area p) + length p.payload
length_of V6 p = length (hop_by_hop p) + length p.payload

-- the length field of a packet
unfoldable pub rebuilt_length : Headers → ℕ
rebuilt_length p = length_of p.version p

-- a label option in its first place
abbrev pub first_option : Version → Option (List ℕ) → Option Placed
first_option version option = option_map (λ o. record { place = first_place version; octets = o }) option

-- the packet with another label option, or none, and other hops
abbrev pub rewritten : {L : Type 0} → ParsedPacket L → Option (List ℕ) → ℕ → Headers
rewritten p option hops = relabelled p (first_option p.version option) hops

-- the longest label option: 40 octets of CIPSO (FIPS 188), 254 of CALIPSO (RFC 5570)
abbrev pub label_limit : Version → ℕ
label_limit V4 = 40
label_limit V6 = 254

-- a label option as it may be written: its type and its length octet are right
pub record IsLabelOption (version : Version) (option : List ℕ) : Type 0 where
  pub long : 2 ≤ length option
  pub short : length option ≤ label_limit version
  pub type : type_octet option ≡ label_type version
  pub exact : slice_index option 1 + uncounted version ≡ length option

-- the fields of one version fit, and those of the other are 0
abbrev pub FitsFields : Version → Headers → Type 0
FitsFields V4 p = (p.identification < 65536) × (p.flags_offset < 65536) × (p.flow_label ≡ 0) × (length p.source ≡ 4) × (length p.destination ≡ 4)
FitsFields V6 p = (p.identification ≡ 0) × (p.flags_offset ≡ 0) × (p.flow_label < 2 ^ 20) × (length p.source ≡ 16) × (length p.destination ≡ 16)

-- an option that a header keeps, with as much of its place as is kept
pub record IsKept (version : Version) (option : Placed) : Type 0 where
  pub is : IsOption version option.octets
  pub octets : IsOctets option.octets
  pub other : is_other version option ≡ true
  pub no_jumbo : is_jumbo version option ≡ false
  pub place : aligned version option ≡ option

-- a packet whose values fit their fields, and whose options can stand in a header of its version
pub record IsParsed (p : Headers) : Type 0 where
  pub class : p.class < 256
  pub hops : p.hops < 256
  pub protocol : p.protocol < 256
  pub fields : FitsFields p.version p
  pub source : IsOctets p.source
  pub destination : IsOctets p.destination
  pub label : IfSome p.label (λ o. IsLabelOption p.version o.octets × IsOctets o.octets)
  pub others : All (IsKept p.version) p.others

-- The one case in which a packet isn't read as it was written: version 6 with protocol 0 and no option, where the
-- payload stands in the place of a Hop-by-Hop header.
abbrev pub hides_payload : Version → Headers → Bool
hides_payload V4 p = false
hides_payload V6 p = p.protocol == 0 && not (has_options p)

-- the options one after another, from this place on
abbrev pub in_turn : ℕ → List Placed → List Placed
in_turn free [] = []
in_turn free (option ∷ options) = record { place = free; octets = option.octets } ∷ in_turn (free + length option.octets) options

-- where a header that was written has its other options, the first free octet being this one: in version 6 still at
-- their places modulo 8
abbrev pub others_at : Version → ℕ → List Placed → List Placed
others_at V4 free others = in_turn free others
others_at V6 free others = others

-- the packet with its options where they are written, the label option first
abbrev pub settled : Headers → Headers
settled p = record p {
  label = option_map (λ o. record { place = first_place p.version; octets = o.octets }) p.label;
  others = others_at p.version (first_place p.version + length (label_octets p.label)) p.others;
}

-- What a packet is when it was written: a packet still, or what is read where it hides its payload.
unfoldable pub next_packet : Headers → Result Headers HeadFault
next_packet p = if hides_payload p.version p then packet_of p.version (packet_octets p) else Ok (settled p)
