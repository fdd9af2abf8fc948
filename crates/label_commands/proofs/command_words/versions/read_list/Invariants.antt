use denote.Shadow.{shadow}
use denote.Text.{Utf8}
use Rattle.std.proofs.Common.{◌≡◌, length}
use Rattle.label_commands.specs.command_words.Numbers.{versions_named}
use Rattle.label_commands.proofs.command_words.Splits.{in_front}
use Rattle.label_commands.proofs.command_words.versions.read_list.Given as goal

abbrev pub decreases-loop-part : goal.decreases-loop-part
decreases-loop-part l = length l.rest

-- what was read, in front of what the rest gives
abbrev pub invariant-loop-part : goal.invariant-loop-part
invariant-loop-part l = record {
  text : shadow (Utf8 l.rest);
  walk : versions_named l.word ≡ in_front l.numbers.items (versions_named l.rest);
}
