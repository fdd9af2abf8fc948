-- Lines of scripts: how much a script has, its first fault, or a limit that it passes.
use Rattle.std.specs.Prelude.{ℕ, List, [], ◌++◌, codes}
use Rattle.std.specs.Fmt.{decimal}
use Rattle.script_lines.specs.declared.stop.ScriptKind.{ScriptKind}
use Rattle.script_lines.specs.declared.stop.ScriptKind.TheVariants.{Octet, Word, NoNode, Value, UnknownNode, HopOrder, NameTwice, Extra, Missing, ReadingTwice, NotIncreasing, NotDistinct}
use Rattle.script_lines.specs.declared.stop.LimitName.{LimitName}
use Rattle.script_lines.specs.declared.stop.LimitName.TheVariants as most
use Rattle.label_commands.specs.declared.stop.ScriptFault.{ScriptFault}
use Rattle.label_commands.specs.declared.stop.ScriptStop.{ScriptStop}
use Rattle.label_commands.specs.declared.stop.ScriptStop.TheVariants as stop
use Rattle.call_report.specs.Lines.Parts.{line_of, octet_detail}

abbrev pub script_kind_name : ScriptKind → List ℕ
script_kind_name Octet = codes "Octet"
script_kind_name Word = codes "Word"
script_kind_name NoNode = codes "NoNode"
script_kind_name Value = codes "Value"
script_kind_name UnknownNode = codes "UnknownNode"
script_kind_name HopOrder = codes "HopOrder"
script_kind_name NameTwice = codes "NameTwice"
script_kind_name Extra = codes "Extra"
script_kind_name Missing = codes "Missing"
script_kind_name ReadingTwice = codes "ReadingTwice"
script_kind_name NotIncreasing = codes "NotIncreasing"
script_kind_name NotDistinct = codes "NotDistinct"

-- the first fault of a script
unfoldable pub script_line : ScriptFault → List ℕ
script_line fault = line_of (codes "script line " ++ decimal fault.line ++ octet_detail fault.octet ++ codes " " ++ script_kind_name fault.kind)

abbrev pub limit_name : LimitName → List ℕ
limit_name most.Octets = codes "octets"
limit_name most.Lines = codes "lines"
limit_name most.Nodes = codes "nodes"
limit_name most.Flows = codes "flows"
limit_name most.Hops = codes "hops"

-- a limit of scripts that is passed, and its number
unfoldable pub limit_line : LimitName → ℕ → List ℕ
limit_line what number = line_of (codes "limit " ++ limit_name what ++ codes " " ++ decimal number)

-- the line that tells why a text is no script; reading a text has no want of memory
abbrev pub script_stop_line : ScriptStop → List ℕ
script_stop_line (stop.Fault fault) = script_line fault
script_stop_line (stop.Limit what number) = limit_line what number
script_stop_line stop.OutOfMemory = []

-- how many nodes, commands and flows a script has
unfoldable pub ok_line : ℕ → ℕ → ℕ → List ℕ
ok_line nodes commands flows = line_of (codes "ok " ++ decimal nodes ++ codes " nodes " ++ decimal commands ++ codes " commands " ++ decimal flows ++ codes " flows")
