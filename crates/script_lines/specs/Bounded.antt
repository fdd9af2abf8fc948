-- What the numbers and labels of a command keep that it brings into tables. It follows from `IsCommand`, and says nothing of names, tags and addresses.
use Rattle.std.specs.Prelude.{ℕ, List, All, Option, IsTrue, IfSome}
use Rattle.script_lines.specs.command_values.Doi.{is_doi}
use Rattle.script_lines.specs.command_values.Pairs.{IsPairWithin}
use Rattle.script_lines.specs.command_values.Ranges.{IsMlsRange}
use Rattle.script_lines.specs.declared.command.Command.{Command}
use Rattle.script_lines.specs.declared.command.Command.TheVariants.{CipsoAddPass, CipsoAddTrans, CalipsoAddPass, CalipsoAddTrans, UnlblAdd, ReceiverAdd, RangeAdd}

-- a definition's pairs are within their bounds
abbrev pub ArePairsBounded : List (ℕ × ℕ) → Option (List (ℕ × ℕ)) → Type 0
ArePairsBounded levels categories = All (IsPairWithin 255 255) levels × IfSome categories (All (IsPairWithin 65534 65534))

-- DOIs and pairs are within their bounds; both ends of a range are labels, of which the high one dominates the low one
abbrev pub IsBounded : Command → Type 0
IsBounded (CipsoAddPass doi tags) = IsTrue (is_doi doi)
IsBounded (CipsoAddTrans doi tags levels categories) = IsTrue (is_doi doi) × ArePairsBounded levels categories
IsBounded (CalipsoAddPass doi) = IsTrue (is_doi doi)
IsBounded (CalipsoAddTrans doi levels categories) = IsTrue (is_doi doi) × ArePairsBounded levels categories
IsBounded (UnlblAdd interface prefix range) = IsMlsRange range
IsBounded (ReceiverAdd address domain range) = IsMlsRange range
IsBounded (RangeAdd interface range) = IsMlsRange range
IsBounded command = Unit {0}
