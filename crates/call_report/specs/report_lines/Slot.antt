-- What stands at a place of a line.
use Rattle.std.specs.Prelude.{ℕ, Bool, false, ◌&&◌, ◌||◌, ◌==◌, List, [], ◌∷◌, codes, Option, Some, None, is_some}
use Rattle.std.specs.Str.{bytes_eq}
use Rattle.std.specs.List.{list_all, list_any, slice_split, before_first, after_first}
use Rattle.domain_map.specs.address_text.Address.{address_of_text}
use Rattle.domain_map.specs.address_text.Name.{is_name}
use Rattle.domain_map.specs.address_text.Number.{number_of_text}
use Rattle.label_commands.specs.flow_lines.FileName.{is_file_name}
use Rattle.mls_label.specs.declared.label.Label.{Label}
use Rattle.mls_range.specs.LabelText.{comma, dot, label_text}
use Rattle.mls_range.specs.Computed.{label_of_text}
use Rattle.script_lines.specs.command_values.Doi.{doi_of_text}
use Rattle.call_report.specs.declared.report_lines.slot.Field.{Field}
use Rattle.call_report.specs.declared.report_lines.slot.Field.TheVariants as name
use Rattle.call_report.specs.declared.report_lines.slot.Fixed.{Fixed}
use Rattle.call_report.specs.declared.report_lines.slot.Fixed.TheVariants as word
use Rattle.call_report.specs.declared.report_lines.slot.Kind.{Kind}
use Rattle.call_report.specs.declared.report_lines.slot.Kind.TheVariants as of
use Rattle.call_report.specs.declared.report_lines.slot.Slot.{Slot}
use Rattle.call_report.specs.declared.report_lines.slot.Slot.TheVariants as slot

-- the names of the fields
abbrev pub field_name : Field → List ℕ
field_name name.Step = codes "step"
field_name name.Node = codes "node"
field_name name.Answer = codes "answer"
field_name name.Lines = codes "lines"
field_name name.Flow = codes "flow"
field_name name.Input = codes "input"
field_name name.Number = codes "number"
field_name name.Became = codes "became"
field_name name.Label = codes "label"
field_name name.Receiver = codes "receiver"
field_name name.Carrier = codes "carrier"
field_name name.Denial = codes "denial"
field_name name.Name = codes "name"
field_name name.Octet = codes "octet"
field_name name.Category = codes "category"
field_name name.Cause = codes "cause"
field_name name.Hop = codes "hop"
field_name name.Versions = codes "versions"
field_name name.Packets = codes "packets"
field_name name.Passed = codes "passed"
field_name name.Denied = codes "denied"
field_name name.Capture = codes "capture"
field_name name.Kind = codes "kind"
field_name name.Line = codes "at"
field_name name.Limit = codes "limit"
field_name name.Most = codes "most"
field_name name.Nodes = codes "nodes"
field_name name.Commands = codes "commands"
field_name name.Flows = codes "flows"

-- fields are told apart by numbers
abbrev pub field_number : Field → ℕ
field_number name.Step = 0
field_number name.Node = 1
field_number name.Answer = 2
field_number name.Lines = 3
field_number name.Flow = 4
field_number name.Input = 5
field_number name.Number = 6
field_number name.Became = 7
field_number name.Label = 8
field_number name.Receiver = 9
field_number name.Carrier = 10
field_number name.Denial = 11
field_number name.Name = 12
field_number name.Octet = 13
field_number name.Category = 14
field_number name.Cause = 15
field_number name.Hop = 16
field_number name.Versions = 17
field_number name.Packets = 18
field_number name.Passed = 19
field_number name.Denied = 20
field_number name.Capture = 21
field_number name.Kind = 22
field_number name.Line = 23
field_number name.Limit = 24
field_number name.Most = 25
field_number name.Nodes = 26
field_number name.Commands = 27
field_number name.Flows = 28

-- the words that stand as they are
abbrev pub fixed_text : Fixed → List ℕ
fixed_text word.Command = codes "command"
fixed_text word.Done = codes "done"
fixed_text word.Listed = codes "listed"
fixed_text word.Flow = codes "flow"
fixed_text word.Packet = codes "packet"
fixed_text word.Delivered = codes "delivered"
fixed_text word.To = codes "to"
fixed_text word.Sent = codes "sent"
fixed_text word.Denied = codes "denied"
fixed_text word.Octet = codes "octet"
fixed_text word.Category = codes "category"
fixed_text word.Hop = codes "hop"
fixed_text word.Node = codes "node"
fixed_text word.Versions = codes "versions"
fixed_text word.End = codes "end"
fixed_text word.Packets = codes "packets"
fixed_text word.Passed = codes "passed"
fixed_text word.Capture = codes "capture"
fixed_text word.Script = codes "script"
fixed_text word.Line = codes "line"
fixed_text word.Limit = codes "limit"
fixed_text word.Nobody = codes "-"
fixed_text word.Ok = codes "ok"
fixed_text word.Nodes = codes "nodes"
fixed_text word.Commands = codes "commands"
fixed_text word.Flows = codes "flows"

-- the number below 2^64 of a decimal text, without a leading zero
unfoldable pub whole_number : List ℕ → Option ℕ
whole_number text = number_of_text 18446744073709551615 text

abbrev pub is_number : List ℕ → Bool
is_number text = is_some (whole_number text)

-- two numbers with a dot between
abbrev pub is_place : List ℕ → Bool
is_place text = is_number (before_first (λ c. c == dot) text) && is_number (after_first (λ c. c == dot) text)

-- numbers with commas between
abbrev pub is_versions : List ℕ → Bool
is_versions text = list_all is_number (slice_split (λ c. c == comma) text)

-- the one written form of this label, where there is one
abbrev pub is_written_as : List ℕ → Option Label → Bool
is_written_as text None = false
is_written_as text (Some label) = bytes_eq text (label_text label)

-- a label in its one written form
abbrev pub is_written_label : List ℕ → Bool
is_written_label text = is_written_as text (label_of_text text)

-- nothing, or a protocol with its DOI
abbrev pub is_carrier : List ℕ → Bool
is_carrier text = bytes_eq text (codes "unlbl")
    || ((bytes_eq (before_first (λ c. c == comma) text) (codes "cipsov4") || bytes_eq (before_first (λ c. c == comma) text) (codes "calipso"))
    && is_some (doi_of_text (after_first (λ c. c == comma) text)))

-- one of these
abbrev pub is_one_of : List (List ℕ) → List ℕ → Bool
is_one_of names text = list_any (λ name. bytes_eq text name) names

-- a name behind its number, as the two parts of a text
abbrev pub is_pair : List ℕ → List ℕ → List ℕ → Bool
is_pair before text pair = bytes_eq before (before_first (λ c. c == 32) pair) && bytes_eq text (after_first (λ c. c == 32) pair)

-- one of the names behind its number
abbrev pub is_pair_of : List (List ℕ) → List ℕ → List ℕ → Bool
is_pair_of pairs before text = list_any (λ pair. is_pair before text pair) pairs

-- why a command is refused
unfoldable pub refusals : List (List ℕ)
refusals = codes "DoiExists" ∷ codes "DoiUnknown" ∷ codes "DoiInUse" ∷ codes "NotOneToOne" ∷ codes "TooManyPairs" ∷ codes "MapExists" ∷ codes "MapUnknown" ∷ codes "MapPlain"
    ∷ codes "MapHasAddresses" ∷ codes "StaticExists" ∷ codes "StaticUnknown" ∷ codes "ReceiverExists" ∷ codes "ReceiverUnknown" ∷ codes "RangeExists" ∷ codes "RangeUnknown"
    ∷ codes "PairExists" ∷ codes "PairUnknown" ∷ codes "TableFull" ∷ []

-- why a packet is denied, by number and name: where no more is told, an octet, a category, a cause; and why a frame is
unfoldable pub plain_denials : List (List ℕ)
plain_denials = codes "3 Unlabelled" ∷ codes "4 NoStatic" ∷ codes "7 LevelUnmapped" ∷ codes "9 OutsideRange" ∷ codes "10 NoReceiver" ∷ codes "11 MapRefuses" ∷ codes "12 NotDominated" ∷ codes "13 NoMap" ∷ codes "15 Inexpressible" ∷ codes "16 NoRoom" ∷ codes "17 TooLong" ∷ codes "18 Expired" ∷ codes "19 WrongVersion" ∷ codes "20 NoPair" ∷ codes "23 BelowRange" ∷ []

unfoldable pub octet_denials : List (List ℕ)
octet_denials = codes "1 BadHeader" ∷ codes "2 BadOption" ∷ codes "5 UnknownDoi" ∷ codes "6 TagNotAllowed" ∷ codes "14 AlreadyLabelled" ∷ []

unfoldable pub category_denials : List (List ℕ)
category_denials = codes "8 CategoryUnmapped" ∷ []

unfoldable pub cause_denials : List (List ℕ)
cause_denials = codes "21 NotCrossable" ∷ []

unfoldable pub frame_denials : List (List ℕ)
frame_denials = codes "22 NotIp" ∷ []

-- why a packet can't cross to the other version
unfoldable pub causes : List (List ℕ)
causes = codes "Protocol" ∷ codes "Fragment" ∷ codes "Options" ∷ codes "Segment" ∷ codes "NoChecksum" ∷ []

-- what may be wrong with a capture of either format
unfoldable pub capture_faults : List (List ℕ)
capture_faults = codes "Short" ∷ codes "Magic" ∷ codes "Version" ∷ codes "LinkType" ∷ codes "Captured" ∷ codes "SnapCut" ∷ codes "Long" ∷ codes "BlockLength" ∷ codes "Trailer"
    ∷ codes "Block" ∷ codes "Options" ∷ codes "Interface" ∷ codes "Resolution" ∷ codes "Time" ∷ []

-- and with a script
unfoldable pub script_faults : List (List ℕ)
script_faults = codes "Octet" ∷ codes "Word" ∷ codes "NoNode" ∷ codes "Value" ∷ codes "UnknownNode" ∷ codes "HopOrder" ∷ codes "NameTwice" ∷ codes "Extra" ∷ codes "Missing"
    ∷ codes "ReadingTwice" ∷ codes "NotIncreasing" ∷ codes "NotDistinct" ∷ []

-- what there may be too much of
unfoldable pub limits : List (List ℕ)
limits = codes "octets" ∷ codes "lines" ∷ codes "nodes" ∷ codes "flows" ∷ codes "hops" ∷ codes "packets" ∷ []

-- a word of a kind, behind another one
abbrev pub is_of : Kind → List ℕ → List ℕ → Bool
is_of of.Node before text = is_name text
is_of of.Input before text = is_file_name text
is_of of.Label before text = is_written_label text
is_of of.Address before text = is_some (address_of_text text)
is_of of.Carrier before text = is_carrier text
is_of of.Refusal before text = is_one_of refusals text
is_of of.PlainDenial before text = is_pair_of plain_denials before text
is_of of.OctetDenial before text = is_pair_of octet_denials before text
is_of of.CategoryDenial before text = is_pair_of category_denials before text
is_of of.CauseDenial before text = is_pair_of cause_denials before text
is_of of.FrameDenial before text = is_pair_of frame_denials before text
is_of of.Cause before text = is_one_of causes text
is_of of.CaptureFault before text = is_one_of capture_faults text
is_of of.ScriptFault before text = is_one_of script_faults text
is_of of.Limit before text = is_one_of limits text

-- a word may stand in a slot behind another one
unfoldable pub may_stand : Slot → List ℕ → List ℕ → Bool
may_stand (slot.Fixed text) before found = bytes_eq found (fixed_text text)
may_stand (slot.Tag field text) before found = bytes_eq found (fixed_text text)
may_stand (slot.Number field) before found = is_number found
may_stand (slot.Zero field) before found = bytes_eq found (codes "0")
may_stand (slot.Text field kind) before found = is_of kind before found
may_stand slot.Place before found = is_place found
may_stand slot.Versions before found = is_versions found
may_stand slot.NoVersions before found = bytes_eq found (codes "-")
