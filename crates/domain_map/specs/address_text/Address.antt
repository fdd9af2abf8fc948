-- Addresses and their texts: RFC 791 for IPv4; RFC 4291 section 2.2 and RFC 5952 section 4 for IPv6.
use Rattle.std.specs.Prelude.{◌≡◌, ℕ, ◌<◌, ◌==◌, Bool, false, List, length, slice_index, Option, Some, None, option_map, if◌then◌else◌}
use Rattle.std.specs.List.{list_any}
use Rattle.std.specs.Str.{bytes_eq}
use Rattle.std.specs.Net.Addr.{segments_of, octets_of}
use Rattle.std.specs.Net.Grammar.{IsDotted, IsColonHex}
use Rattle.std.specs.Net.Reader.{read_ipv4, read_ipv6, whole_value}
use Rattle.std.specs.Net.Text.{ipv4_text, hex_groups_text}
use Rattle.domain_map.specs.declared.address_text.address.Address.{Address}
use Rattle.domain_map.specs.declared.address_text.address.Address.TheVariants.{V4, V6}

-- some octet is a dot
abbrev pub has_dot : List ℕ → Bool
has_dot text = list_any (λ c. c == 46) text

-- An IPv6 address by its groups, each of two octets: all eight, or some on each side of one `::`, which stands for one
-- zero group or more. std's grammar of RFC 4291 also has the third form, whose end is a dotted IPv4 address; it is none here.
pub record IsGroupsText (text octets : List ℕ) : Type 0 where
  pub groups : List ℕ
  pub are : IsColonHex text groups
  pub undotted : has_dot text ≡ false
  pub value : octets ≡ octets_of groups

-- four decimal numbers with dots between, or groups with colons between
abbrev pub IsAddressText : List ℕ → Address → Type 0
IsAddressText text (V4 octets) = IsDotted text octets
IsAddressText text (V6 octets) = IsGroupsText text octets

-- The one written form. In that of IPv6 the groups are in lower case without leading zeros, and `::` stands for the
-- longest run of two zero groups or more, the first of equals (RFC 5952, 4.2 and 4.3).
abbrev pub address_text : Address → List ℕ
address_text (V4 octets) = ipv4_text octets
address_text (V6 octets) = hex_groups_text (segments_of octets)

-- the same address
abbrev pub same_address : Address → Address → Bool
same_address (V4 a) (V4 b) = bytes_eq a b
same_address (V6 a) (V6 b) = bytes_eq a b
same_address a b = false

-- how many bits an address of this family has
abbrev pub width_of : Address → ℕ
width_of (V4 octets) = 32
width_of (V6 octets) = 128

-- as many octets as the family has
pub record IsOctetsOf (size : ℕ) (octets : List ℕ) : Type 0 where
  pub count : length octets ≡ size
  pub fit : (k : ℕ) → slice_index octets k < 256

abbrev pub IsAddress : Address → Type 0
IsAddress (V4 octets) = IsOctetsOf 4 octets
IsAddress (V6 octets) = IsOctetsOf 16 octets

-- an address of version 6, written without a dot
abbrev pub six_of_text : List ℕ → Option Address
six_of_text text = if has_dot text then None else option_map (λ groups. V6 (octets_of groups)) (whole_value (read_ipv6 text))

-- the same as `IsAddressText`, as a function that computes
unfoldable pub address_of_text : List ℕ → Option Address
address_of_text text = elim (whole_value (read_ipv4 text)) [ Some octets ↦ Some (V4 octets) | None ↦ six_of_text text ]
