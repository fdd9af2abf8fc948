-- The values of a line's parameters: how they are read.
use Rattle.std.specs.Prelude.{ℕ, Bool, List, codes, Option, Some, None, option_map, is_some, if◌then◌else◌}
use Rattle.std.specs.Str.{bytes_eq}
use Rattle.mls_range.specs.Range.{LabelRange}
use Rattle.mls_range.specs.Computed.{label_of_text, lone_range, range_of_text}
use Rattle.domain_map.specs.address_text.Address.{address_of_text}
use Rattle.domain_map.specs.address_text.Name.{name_of_text}
use Rattle.domain_map.specs.address_text.Prefix.{block_of_text}
use Rattle.script_lines.specs.command_values.Doi.{doi_of_text}
use Rattle.script_lines.specs.command_values.List.{list_of_text}
use Rattle.script_lines.specs.command_values.Pairs.{pair_of_text}
use Rattle.script_lines.specs.command_values.Tags.{tags_of_text}
use Rattle.script_lines.specs.command_values.MapProtocol.{map_protocol_of_text}
use Rattle.script_lines.specs.command_values.Ranges.{in_context, static_range_of_text, range_below, receiver_range_of_text}
use Rattle.script_lines.specs.command_values.Addresses.{four_of_text, sixteen_of_text}
use Rattle.script_lines.specs.declared.parameter.Parameter.{Parameter}
use Rattle.script_lines.specs.declared.parameter.Parameter.TheVariants.{Doi, Tags, Levels, Categories, Domain, Interface, Prefix, Protocol, Label, Address, Home, Level, Range, Four, Six, ReadingLevels, ReadingCategories}
use Rattle.script_lines.specs.declared.fields.Fields.{Fields}
use Rattle.script_lines.specs.Form.{Edition, with_labels}

-- no parameter is given
abbrev pub no_fields : Fields
no_fields = record {
  doi = None;
  tags = None;
  levels = None;
  categories = None;
  domain = None;
  interface = None;
  prefix = None;
  protocol = None;
  label = None;
  address = None;
  home = None;
  level = None;
  range = None;
  four = None;
  six = None;
  reading_levels = None;
  reading_categories = None;
}

-- the parameter came
abbrev pub is_given : Parameter → Fields → Bool
is_given Doi fields = is_some fields.doi
is_given Tags fields = is_some fields.tags
is_given Levels fields = is_some fields.levels
is_given Categories fields = is_some fields.categories
is_given Domain fields = is_some fields.domain
is_given Interface fields = is_some fields.interface
is_given Prefix fields = is_some fields.prefix
is_given Protocol fields = is_some fields.protocol
is_given Label fields = is_some fields.label
is_given Address fields = is_some fields.address
is_given Home fields = is_some fields.home
is_given Level fields = is_some fields.level
is_given Range fields = is_some fields.range
is_given Four fields = is_some fields.four
is_given Six fields = is_some fields.six
is_given ReadingLevels fields = is_some fields.reading_levels
is_given ReadingCategories fields = is_some fields.reading_categories

-- none for the word `default`, else a name
abbrev pub named_or_default : List ℕ → List ℕ → Option (Option (List ℕ))
named_or_default key text = if bytes_eq key (codes "default") then Some None else option_map (λ name. Some name) (name_of_text text)

-- the value of `label:` and of `level:`, which the first edition reads as one label
abbrev pub static_by : Edition → List ℕ → Option LabelRange
static_by with_labels text = in_context (λ t. option_map lone_range (label_of_text t)) text
static_by edition text = static_range_of_text text

-- a receiver's range in an edition: in the first one a label alone
abbrev pub receiver_by : Edition → List ℕ → Option LabelRange
receiver_by with_labels text = option_map range_below (label_of_text text)
receiver_by edition text = receiver_range_of_text text

-- the fields with what a parameter's word says behind its key, or with none where that isn't in the parameter's form
abbrev pub fields_with : Edition → Parameter → List ℕ → List ℕ → Fields → Fields
fields_with edition Doi key text fields = record fields { doi = doi_of_text text }
fields_with edition Tags key text fields = record fields { tags = tags_of_text text }
fields_with edition Levels key text fields = record fields { levels = list_of_text (pair_of_text 255 255) text }
fields_with edition Categories key text fields = record fields { categories = list_of_text (pair_of_text 65534 65534) text }
fields_with edition Domain key text fields = record fields { domain = named_or_default key text }
fields_with edition Interface key text fields = record fields { interface = named_or_default key text }
fields_with edition Prefix key text fields = record fields { prefix = block_of_text text }
fields_with edition Protocol key text fields = record fields { protocol = map_protocol_of_text text }
fields_with edition Label key text fields = record fields { label = static_by edition text }
fields_with edition Address key text fields = record fields { address = address_of_text text }
fields_with edition Home key text fields = record fields { home = name_of_text text }
fields_with edition Level key text fields = record fields { level = receiver_by edition text }
fields_with edition Range key text fields = record fields { range = range_of_text text }
fields_with edition Four key text fields = record fields { four = four_of_text text }
fields_with edition Six key text fields = record fields { six = sixteen_of_text text }
fields_with edition ReadingLevels key text fields = record fields { reading_levels = list_of_text (pair_of_text 255 4294967295) text }
fields_with edition ReadingCategories key text fields = record fields { reading_categories = list_of_text (pair_of_text 65534 4294967295) text }

-- those fields, if the parameter came so
abbrev pub with_value : Edition → Parameter → List ℕ → List ℕ → Fields → Option Fields
with_value edition parameter key text fields = let read = fields_with edition parameter key text fields in if is_given parameter read then Some read else None
