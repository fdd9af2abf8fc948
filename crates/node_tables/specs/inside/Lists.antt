-- Which commands list lines.
use Rattle.std.specs.Prelude.{Bool, true, false}
use Rattle.script_lines.specs.declared.command.Command.{Command}
use Rattle.script_lines.specs.declared.command.Command.TheVariants.{CipsoList, CalipsoList, MapList, UnlblList, MgmtVersion, MgmtProtocols}

-- the command is one of these, and so changes no table
abbrev pub is_listing : Command → Bool
is_listing (CipsoList doi) = true
is_listing (CalipsoList doi) = true
is_listing MapList = true
is_listing UnlblList = true
is_listing MgmtVersion = true
is_listing MgmtProtocols = true
is_listing command = false
