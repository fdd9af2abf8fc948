-- What the functions that write a packet say of their parts.
use Rattle.std.specs.Prelude.{◌≡◌, ℕ, ◌+◌, ◌-◌, ◌||◌, Bool, List, [], ◌++◌, Option, Some, None, length, is_some, slice_index, slice_set, if◌then◌else◌}
use Rattle.std.specs.Int.{w16, to_be_bytes}
use Rattle.ip_headers.specs.declared.version.Version.{Version}
use Rattle.ip_headers.specs.declared.version.Version.TheVariants.{V6}
use Rattle.ip_headers.specs.declared.fields.Fields4.{Fields4}
use Rattle.ip_headers.specs.declared.fields.Fields6.{Fields6}
use Rattle.ip_headers.specs.Sum.{ones_sum}
use Rattle.ip_headers.specs.Options.{Placed, options_from, others_of, has_any}
use Rattle.ip_headers.specs.Packet.{Headers}
use Rattle.ip_headers.specs.Reading.{first_place}
use Rattle.ip_headers.specs.Written.{packed, filled, hop_by_hop_with}

-- the octets of a label option that may be left out
abbrev pub octets_or_none : Option (List ℕ) → List ℕ
octets_or_none None = []
octets_or_none (Some octets) = octets

-- an old list of options is whole
abbrev pub IsWholeList : Version → List ℕ → Type 0
IsWholeList version area = (options_from version (first_place version) area).broken ≡ None

-- its options that are kept
abbrev pub others_in : Version → List ℕ → List Placed
others_in version area = others_of version (options_from version (first_place version) area).options

-- the options with a label option or none, with the padding after them
abbrev pub area_with : Version → Option (List ℕ) → List Placed → List ℕ
area_with version option others =
    filled version (first_place version) (octets_or_none option ++ packed version (first_place version + length (octets_or_none option)) others)

-- whether an option is written
abbrev pub writes_any : Option (List ℕ) → List Placed → Bool
writes_any option others = is_some option || has_any others

abbrev pub hop_size : Option (List ℕ) → List Placed → ℕ
hop_size option others = if writes_any option others then 2 + length (area_with V6 option others) else 0

abbrev pub hop_of : ℕ → Option (List ℕ) → List Placed → List ℕ
hop_of protocol option others = hop_by_hop_with (writes_any option others) protocol (area_with V6 option others)

-- a header of version 4 with the checksum where it had 0
abbrev pub put_checksum4 : List ℕ → List ℕ
put_checksum4 header =
    let checksum = to_be_bytes w16 (65535 - ones_sum header) in
    slice_set (slice_set header 10 (slice_index checksum 0)) 11 (slice_index checksum 1)

-- the fields of a packet that are written as they are, with these hops
abbrev pub fields4 : Headers → ℕ → Fields4
fields4 p hops = record { tos = p.class; id = p.identification; flags_offset = p.flags_offset; hops = hops; protocol = p.protocol; source = p.source; destination = p.destination }

abbrev pub fields6 : Headers → ℕ → Fields6
fields6 p hops = record { class = p.class; flow_label = p.flow_label; hops = hops; protocol = p.protocol; source = p.source; destination = p.destination }
