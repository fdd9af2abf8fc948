-- Commands, one by one.
use Rattle.std.proofs.Common.{◌≡◌, Option, Some, None, refl, ◌∙◌}
use Rattle.script_lines.specs.declared.row.Row.{Row}
use Rattle.script_lines.specs.declared.fields.Fields.{Fields}
use Rattle.script_lines.specs.declared.command.Command.{Command}
use Rattle.script_lines.specs.declared.command.Command.TheVariants.{CipsoAddPass, CipsoAddTrans, CalipsoAddPass, CalipsoAddTrans, CipsoDel, CalipsoDel, CipsoList, CalipsoList, MapAdd, MapDel, MapList, AcceptOn, AcceptOff, UnlblAdd, UnlblDel, UnlblList, ReceiverAdd, ReceiverDel, RangeAdd, RangeDel, PairAdd, PairDel, MgmtVersion, MgmtProtocols}
use Rattle.script_lines.specs.Command.{command_of, said_of}

pub command_of-said_of : (command : Command) → command_of (said_of command).row (said_of command).fields ≡ Some command
command_of-said_of (CipsoAddPass doi tags) = refl
command_of-said_of (CipsoAddTrans doi tags levels categories) = refl
command_of-said_of (CalipsoAddPass doi) = refl
command_of-said_of (CalipsoAddTrans doi levels categories) = refl
command_of-said_of (CipsoDel doi) = refl
command_of-said_of (CalipsoDel doi) = refl
command_of-said_of (CipsoList doi) = refl
command_of-said_of (CalipsoList doi) = refl
command_of-said_of (MapAdd domain prefix protocol) = refl
command_of-said_of (MapDel domain prefix) = refl
command_of-said_of MapList = refl
command_of-said_of AcceptOn = refl
command_of-said_of AcceptOff = refl
command_of-said_of (UnlblAdd interface prefix range) = refl
command_of-said_of (UnlblDel interface prefix) = refl
command_of-said_of UnlblList = refl
command_of-said_of (ReceiverAdd address home range) = refl
command_of-said_of (ReceiverDel address) = refl
command_of-said_of (RangeAdd interface range) = refl
command_of-said_of (RangeDel interface) = refl
command_of-said_of (PairAdd four six) = refl
command_of-said_of (PairDel four) = refl
command_of-said_of MgmtVersion = refl
command_of-said_of MgmtProtocols = refl

-- what is made of a command's row and copied parameters
pub made_again : (command : Command) (row : Row) (fields shown : Fields) (made : Option Command) → row ≡ (said_of command).row → fields ≡ shown → shown ≡ (said_of command).fields → made ≡ command_of row fields → made ≡ Some command
made_again command row fields shown made row_is fields_is shown_is made_is =
    let all = fields_is ∙ shown_is in
    made_is ∙ (λ i. command_of (row_is i) (all i)) ∙ command_of-said_of command

-- a command has no parameter of readings
pub no_readings : (command : Command) → record (said_of command).fields { reading_levels = None; reading_categories = None } ≡ (said_of command).fields
no_readings (CipsoAddPass doi tags) = refl
no_readings (CipsoAddTrans doi tags levels categories) = refl
no_readings (CalipsoAddPass doi) = refl
no_readings (CalipsoAddTrans doi levels categories) = refl
no_readings (CipsoDel doi) = refl
no_readings (CalipsoDel doi) = refl
no_readings (CipsoList doi) = refl
no_readings (CalipsoList doi) = refl
no_readings (MapAdd domain prefix protocol) = refl
no_readings (MapDel domain prefix) = refl
no_readings MapList = refl
no_readings AcceptOn = refl
no_readings AcceptOff = refl
no_readings (UnlblAdd interface prefix range) = refl
no_readings (UnlblDel interface prefix) = refl
no_readings UnlblList = refl
no_readings (ReceiverAdd address home range) = refl
no_readings (ReceiverDel address) = refl
no_readings (RangeAdd interface range) = refl
no_readings (RangeDel interface) = refl
no_readings (PairAdd four six) = refl
no_readings (PairDel four) = refl
no_readings MgmtVersion = refl
no_readings MgmtProtocols = refl
