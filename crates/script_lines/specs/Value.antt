-- The values of a command's parameters: what they keep, and how they are written.
use Rattle.std.specs.Prelude.{ℕ, Bool, true, false, List, [], ◌++◌, codes, Option, Some, None, IsTrue, IfSome, if◌then◌else◌}
use Rattle.std.specs.Fmt.{decimal}
use Rattle.std.specs.Option.{option_map_or}
use Rattle.mls_range.specs.RangeText.{range_text}
use Rattle.domain_map.specs.declared.address_text.address.Address.TheVariants.{V4, V6}
use Rattle.domain_map.specs.address_text.Address.{address_text, IsAddress, IsOctetsOf}
use Rattle.domain_map.specs.address_text.Name.{IsNameText}
use Rattle.domain_map.specs.address_text.Prefix.{prefix_text, IsBlock}
use Rattle.script_lines.specs.command_values.Doi.{is_doi}
use Rattle.script_lines.specs.command_values.List.{list_text, AreEntries}
use Rattle.script_lines.specs.command_values.Pairs.{pair_text, IsPairWithin}
use Rattle.script_lines.specs.command_values.Tags.{tag_number_text, AreTags}
use Rattle.script_lines.specs.command_values.MapProtocol.{is_map_protocol, map_protocol_text}
use Rattle.script_lines.specs.command_values.Ranges.{receiver_range_text, IsMlsRange}
use Rattle.script_lines.specs.declared.parameter.Parameter.{Parameter}
use Rattle.script_lines.specs.declared.parameter.Parameter.TheVariants.{Doi, Tags, Levels, Categories, Domain, Interface, Prefix, Protocol, Label, Address, Home, Level, Range, Four, Six, ReadingLevels, ReadingCategories}
use Rattle.script_lines.specs.declared.fields.Fields.{Fields}
use Rattle.script_lines.specs.Form.{key_text}
use Rattle.script_lines.specs.Fields.{is_given}

-- the text of a value, or nothing where there is none
abbrev pub text_or_none : {X : Type 0} → (X → List ℕ) → Option X → List ℕ
text_or_none text_of value = option_map_or text_of value []

-- the written form of a parameter's value
abbrev pub value_text : Parameter → Fields → List ℕ
value_text Doi fields = text_or_none decimal fields.doi
value_text Tags fields = text_or_none (list_text tag_number_text) fields.tags
value_text Levels fields = text_or_none (list_text pair_text) fields.levels
value_text Categories fields = text_or_none (list_text pair_text) fields.categories
value_text Domain fields = text_or_none (text_or_none (λ name. name)) fields.domain
value_text Interface fields = text_or_none (text_or_none (λ name. name)) fields.interface
value_text Prefix fields = text_or_none prefix_text fields.prefix
value_text Protocol fields = text_or_none map_protocol_text fields.protocol
value_text Label fields = text_or_none range_text fields.label
value_text Address fields = text_or_none address_text fields.address
value_text Home fields = text_or_none (λ name. name) fields.home
value_text Level fields = text_or_none receiver_range_text fields.level
value_text Range fields = text_or_none range_text fields.range
value_text Four fields = text_or_none (λ octets. address_text (V4 octets)) fields.four
value_text Six fields = text_or_none (λ octets. address_text (V6 octets)) fields.six
value_text ReadingLevels fields = text_or_none (list_text pair_text) fields.reading_levels
value_text ReadingCategories fields = text_or_none (list_text pair_text) fields.reading_categories

-- given, and without a name
abbrev pub is_default : {X : Type 0} → Option (Option X) → Bool
is_default (Some None) = true
is_default value = false

-- how the parameter's word begins: the default domain and the default interface are the word `default`
abbrev pub key_by : Parameter → Fields → List ℕ
key_by Domain fields = if is_default fields.domain then codes "default" else key_text Domain
key_by Interface fields = if is_default fields.interface then codes "default" else key_text Interface
key_by parameter fields = key_text parameter

-- the written form of a parameter's word, where it is given
abbrev pub word_of : Parameter → Fields → Option (List ℕ)
word_of parameter fields = if is_given parameter fields then Some (key_by parameter fields ++ value_text parameter fields) else None

-- a parameter's value, where it is given, is one of its form
abbrev pub IsValue : Parameter → Fields → Type 0
IsValue Doi f = IfSome f.doi (λ doi. IsTrue (is_doi doi))
IsValue Tags f = IfSome f.tags AreTags
IsValue Levels f = IfSome f.levels (AreEntries (IsPairWithin 255 255))
IsValue Categories f = IfSome f.categories (AreEntries (IsPairWithin 65534 65534))
IsValue Domain f = IfSome f.domain (λ domain. IfSome domain IsNameText)
IsValue Interface f = IfSome f.interface (λ interface. IfSome interface IsNameText)
IsValue Prefix f = IfSome f.prefix IsBlock
IsValue Protocol f = IfSome f.protocol (λ protocol. IsTrue (is_map_protocol protocol))
IsValue Label f = IfSome f.label IsMlsRange
IsValue Address f = IfSome f.address IsAddress
IsValue Home f = IfSome f.home IsNameText
IsValue Level f = IfSome f.level IsMlsRange
IsValue Range f = IfSome f.range IsMlsRange
IsValue Four f = IfSome f.four (IsOctetsOf 4)
IsValue Six f = IfSome f.six (IsOctetsOf 16)
IsValue ReadingLevels f = IfSome f.reading_levels (AreEntries (IsPairWithin 255 4294967295))
IsValue ReadingCategories f = IfSome f.reading_categories (AreEntries (IsPairWithin 65534 4294967295))
