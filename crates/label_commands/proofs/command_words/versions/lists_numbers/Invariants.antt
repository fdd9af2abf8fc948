use denote.Shadow.{shadow}
use denote.Text.{Utf8}
use Rattle.std.proofs.Common.{◌≡◌, length}
use Rattle.std.specs.Prelude.{is_some}
use Rattle.label_commands.specs.command_words.Numbers.{versions_named}
use Rattle.label_commands.proofs.command_words.versions.lists_numbers.Given as goal

abbrev pub decreases-loop-number : goal.decreases-loop-number
decreases-loop-number l = length l.rest

-- all of the word is a list where the rest is one
abbrev pub invariant-loop-number : goal.invariant-loop-number
invariant-loop-number l = record {
  text : shadow (Utf8 l.rest);
  walk : is_some (versions_named l.word) ≡ is_some (versions_named l.rest);
}
