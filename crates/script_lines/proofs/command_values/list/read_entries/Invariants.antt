use Rattle.std.proofs.Common.{◌≡◌, All, length}
use Rattle.script_lines.specs.command_values.List.{list_of_text}
use Rattle.script_lines.proofs.command_values.Lists.{in_front}
use Rattle.script_lines.proofs.command_values.list.read_entries.Given as goal

-- what was read, in front of what the rest gives
abbrev pub invariant-loop-part : goal.invariant-loop-part
invariant-loop-part g l = record {
  walk : list_of_text g.E.ListEntry.of_text l.text ≡ in_front l.entries.items (list_of_text g.E.ListEntry.of_text l.rest);
  each : All g.E.ListEntry.is_entry l.entries.items;
}

abbrev pub decreases-loop-part : goal.decreases-loop-part
decreases-loop-part g l = length l.rest
