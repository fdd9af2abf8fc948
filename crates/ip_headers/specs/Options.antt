-- Lists of options: of an IPv4 header (RFC 791, section 3.1) and of an IPv6 Hop-by-Hop header (RFC 8200,
-- sections 4.2 and 4.3). The two versions differ in which types are one octet long, in what the length
-- octet counts, and in whether type 0 ends the list.
use Rattle.std.specs.Prelude.{◌≡◌, ℕ, zero, suc, ◌+◌, ◌%◌, Bool, true, false, not, ◌&&◌, ◌||◌, List, [], ◌∷◌, Option, Some, None, length, take, drop, map, filter, slice_index, nat_le, ◌==◌, if◌then◌else◌}
use Rattle.ip_headers.specs.declared.version.Version.{Version}
use Rattle.ip_headers.specs.declared.version.Version.TheVariants.{V4, V6}
use Rattle.ip_headers.specs.declared.fault.HeadFault.{HeadFault}
use Rattle.ip_headers.specs.declared.fault.HeadKind.TheVariants.{OptionList}

-- the first octet of an option
abbrev pub type_octet : List ℕ → ℕ
type_octet option = slice_index option 0

-- whether an option of this type is its type octet alone: No Operation in version 4, Pad1 in version 6
abbrev pub is_single : Version → ℕ → Bool
is_single V4 type = type == 1
is_single V6 type = type == 0

-- whether this type ends the list: End of Option List in version 4
abbrev pub is_end : Version → ℕ → Bool
is_end V4 type = type == 0
is_end V6 type = false

-- how many octets of an option its length octet leaves out: none in version 4, type and length in version 6
abbrev pub uncounted : Version → ℕ
uncounted V4 = 0
uncounted V6 = 2

-- how long the option is that stands here, as its type and its length octet say
abbrev pub announced : Version → List ℕ → ℕ
announced version octets = if is_single version (type_octet octets) then 1 else slice_index octets 1 + uncounted version

-- whether a list ends here: at the header's end, or at the type that ends a list
abbrev pub ends_list : Version → List ℕ → Bool
ends_list version [] = true
ends_list version (type ∷ octets) = is_end version type

-- Whether the option that stands here is whole: it announces no less than its type and its length octet, and no
-- more than there is. (A length octet past the header's end counts as 0, which fails in both versions.)
abbrev pub is_whole : Version → List ℕ → Bool
is_whole version octets = is_single version (type_octet octets) || nat_le 2 (announced version octets) && nat_le (announced version octets) (length octets)

-- an option, all of it, with nothing behind it
pub record IsOption (version : Version) (option : List ℕ) : Type 0 where
  pub goes_on : ends_list version option ≡ false
  pub whole : is_whole version option ≡ true
  pub exact : announced version option ≡ length option

-- an option and its place: that of its type octet
pub record Placed : Type 0 where
  pub place : ℕ
  pub octets : List ℕ

-- The options of a list in order, up to its end or to the first that isn't whole, and the fault of that one. It
-- stands at the octet after its type: the length octet, or the header's end where that is past it.
pub record Listed : Type 0 where
  pub options : List Placed
  pub broken : Option HeadFault

-- an option in front of those behind it
abbrev pub with_first : Placed → Listed → Listed
with_first option others = record { options = option ∷ others.options; broken = others.broken }

-- at most so many options, the first of them at this place
unfoldable pub options_within : ℕ → Version → ℕ → List ℕ → Listed
options_within zero version place octets = record { options = []; broken = None }
options_within (suc n) version place octets =
    if ends_list version octets then record { options = []; broken = None } else
    (if not (is_whole version octets) then record { options = []; broken = Some (record { octet = place + 1; kind = OptionList }) } else
    with_first (record { place = place; octets = take (announced version octets) octets }) (options_within n version (place + announced version octets) (drop (announced version octets) octets)))

-- all of them: there are no more options than octets
abbrev pub options_from : Version → ℕ → List ℕ → Listed
options_from version place octets = options_within (length octets) version place octets

-- CIPSO in version 4 (FIPS 188), CALIPSO in version 6 (RFC 5570)
abbrev pub label_type : Version → ℕ
label_type V4 = 134
label_type V6 = 7

-- the type octet of a label option
abbrev pub is_label_type : Version → ℕ → Bool
is_label_type version type = type == label_type version

-- the Jumbo Payload option of version 6 (RFC 2675)
abbrev pub is_jumbo_type : Version → ℕ → Bool
is_jumbo_type V4 type = false
is_jumbo_type V6 type = type == 194

-- all but padding, which has the types 0 and 1 in both versions, and label options
abbrev pub is_other_type : Version → ℕ → Bool
is_other_type version type = not (type == 0 || type == 1 || is_label_type version type)

-- a label option
abbrev pub is_label : Version → Placed → Bool
is_label version option = is_label_type version (type_octet option.octets)

-- a Jumbo Payload option
abbrev pub is_jumbo : Version → Placed → Bool
is_jumbo version option = is_jumbo_type version (type_octet option.octets)

-- an option that is neither padding nor a label
abbrev pub is_other : Version → Placed → Bool
is_other version option = is_other_type version (type_octet option.octets)

-- What is kept of the place of an option that is neither padding nor a label: in version 6 its place modulo 8, which
-- it may ask for (RFC 8200, section 4.2).
abbrev pub aligned : Version → Placed → Placed
aligned V4 option = option
aligned V6 option = record { place = option.place % 8; octets = option.octets }

-- the label options
abbrev pub labels_of : Version → List Placed → List Placed
labels_of version options = filter (is_label version) options

-- the options that are neither padding nor labels, in order
abbrev pub others_of : Version → List Placed → List Placed
others_of version options = map (aligned version) (filter (is_other version) options)

-- whether a list has an element
abbrev pub has_any : List Placed → Bool
has_any [] = false
has_any (option ∷ options) = true
