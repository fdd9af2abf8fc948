-- The commands that an edition of the grammar has.
use Rattle.std.specs.Prelude.{Bool, true, false, Some}
use Rattle.script_lines.specs.Form.{Edition, with_translations}
use Rattle.script_lines.specs.declared.command.Command.{Command}
use Rattle.script_lines.specs.declared.command.Command.TheVariants.{CalipsoAddTrans, MapDel}

-- the editions before the last have no translated CALIPSO definition, and take a domain away with all its addresses
abbrev pub is_early : Command → Bool
is_early (CalipsoAddTrans doi levels categories) = false
is_early (MapDel domain (Some prefix)) = false
is_early command = true

abbrev pub has_command : Edition → Command → Bool
has_command with_translations command = true
has_command edition command = is_early command
