-- A command's numbers and labels are within their bounds where each of its parameters has a value of its form.
use Rattle.std.proofs.Common.{ℕ, List, Option, Some, None, arith, All}
use Rattle.std.specs.Prelude.{IfSome}
use Rattle.script_lines.specs.command_values.List.{AreEntries}
use Rattle.script_lines.specs.command_values.Pairs.{IsPairWithin}
use Rattle.script_lines.specs.declared.parameter.Parameter.TheVariants.{Doi}
use Rattle.script_lines.specs.declared.form.Slot.{Slot}
use Rattle.script_lines.specs.Form.{must}
use Rattle.script_lines.specs.declared.command.Command.{Command}
use Rattle.script_lines.specs.declared.command.Command.TheVariants.{CipsoAddPass, CipsoAddTrans, CalipsoAddPass, CalipsoAddTrans, CipsoDel, CalipsoDel, CipsoList, CalipsoList, MapAdd, MapDel, MapList, AcceptOn, AcceptOff, UnlblAdd, UnlblDel, UnlblList, ReceiverAdd, ReceiverDel, RangeAdd, RangeDel, PairAdd, PairDel, MgmtVersion, MgmtProtocols}
use Rattle.script_lines.specs.Command.{IsCommand}
use Rattle.script_lines.specs.Bounded.{IsBounded}

each_pair : (categories : Option (List (ℕ × ℕ))) → IfSome categories (AreEntries (IsPairWithin 65534 65534)) → IfSome categories (All (IsPairWithin 65534 65534))
each_pair None is = tt
each_pair (Some pairs) is = is.each

-- any slot stands for one that isn't there
spare : Slot
spare = must Doi

pub command_bounded : (command : Command) → IsCommand command → IsBounded command
command_bounded (CipsoAddPass doi tags) is = is 0 spare (omega arith)
command_bounded (CipsoAddTrans doi tags levels categories) is = (is 0 spare (omega arith), ((is 2 spare (omega arith)).each, each_pair categories (is 3 spare (omega arith))))
command_bounded (CalipsoAddPass doi) is = is 0 spare (omega arith)
command_bounded (CalipsoAddTrans doi levels categories) is = (is 0 spare (omega arith), ((is 1 spare (omega arith)).each, each_pair categories (is 2 spare (omega arith))))
command_bounded (CipsoDel doi) is = tt
command_bounded (CalipsoDel doi) is = tt
command_bounded (CipsoList doi) is = tt
command_bounded (CalipsoList doi) is = tt
command_bounded (MapAdd domain prefix protocol) is = tt
command_bounded (MapDel domain prefix) is = tt
command_bounded MapList is = tt
command_bounded AcceptOn is = tt
command_bounded AcceptOff is = tt
command_bounded (UnlblAdd interface prefix range) is = is 2 spare (omega arith)
command_bounded (UnlblDel interface prefix) is = tt
command_bounded UnlblList is = tt
command_bounded (ReceiverAdd address home range) is = is 2 spare (omega arith)
command_bounded (ReceiverDel address) is = tt
command_bounded (RangeAdd interface range) is = is 1 spare (omega arith)
command_bounded (RangeDel interface) is = tt
command_bounded (PairAdd four six) is = tt
command_bounded (PairDel four) is = tt
command_bounded MgmtVersion is = tt
command_bounded MgmtProtocols is = tt
