-- Why a text is refused: the first fault of its grammar, or the term that is too much, whichever stands first.
use Rattle.std.specs.Prelude.{ℕ, List, false}
use Rattle.mls_label.specs.octet_grammar.Fault.{IsFault}
use Rattle.mls_range.specs.declared.fault.TextKind.{TextKind}
use Rattle.mls_range.specs.declared.fault.TextKind.TheVariants.{Grammar, End, TooManyRuns, NotOrdered}
use Rattle.mls_range.specs.declared.fault.TextFault.{TextFault}
use Rattle.mls_range.specs.LabelText.{IsLabelText}
use Rattle.mls_range.specs.Crowd.{CrowdsLabel, IsRoomy}
use Rattle.mls_range.specs.Place.{octet_fault, end_fault}

-- nowhere in a text that is read as a label are too many runs
abbrev pub IsRoomyLabel : List ℕ → Type 0
IsRoomyLabel text = IsRoomy false text

-- the fault of a text that is read as a label
abbrev pub FailsLabel : List ℕ → ℕ → TextKind → Type 0
FailsLabel text octet Grammar = IsFault IsLabelText text (octet_fault octet) × IsRoomyLabel text
FailsLabel text octet End = IsFault IsLabelText text (end_fault octet) × IsRoomyLabel text
FailsLabel text octet TooManyRuns = CrowdsLabel false text octet
FailsLabel text octet NotOrdered = ⊥

-- the same, of a fault as a whole
abbrev pub StopsLabel : List ℕ → TextFault → Type 0
StopsLabel text fault = FailsLabel text fault.octet fault.kind
