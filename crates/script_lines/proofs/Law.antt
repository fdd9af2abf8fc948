-- The laws of src/laws.rt under their names, for the crates above.
use Rattle.std.proofs.Common.{◌≡◌, ◌≢◌, ℕ, Bool, false, List, ◌∷◌, ◌++◌, length, All, Ok, Some, IsTrue}
use Rattle.std.specs.Prelude.{◌==◌, IsSome}
use Rattle.std.specs.List.{join_with_byte, list_any}
use Rattle.std.specs.Str.Lines.{lines}
use Rattle.script_lines.specs.Octet.{is_blank, is_plain}
use Rattle.script_lines.specs.Word.{is_word_text, placed, words_of_line, IsWordOf, LineWord}
use Rattle.script_lines.specs.declared.row.Row.{Row}
use Rattle.script_lines.specs.declared.row.Row.TheVariants.{Reading}
use Rattle.script_lines.specs.declared.fields.Fields.{Fields}
use Rattle.script_lines.specs.declared.said.Said.{Said}
use Rattle.script_lines.specs.declared.command.Command.{Command}
use Rattle.script_lines.specs.Form.{Edition, with_labels, with_ranges, with_translations, form_of, line_rows, is_key}
use Rattle.script_lines.specs.Said.{are_apart, slot_of, read_said, is_complete}
use Rattle.script_lines.specs.Command.{command_of, said_of, texts_of_said, command_text, IsCommand}
use Rattle.script_lines.specs.Bounded.{IsBounded}
use Rattle.script_lines.proofs.TextLines.{lines_lack, plain_line}
use Rattle.script_lines.proofs.LineWords.{words_stand, words_joined}
use Rattle.script_lines.proofs.Apart.{apart, keys_found}
use Rattle.script_lines.proofs.Kept.{ranges_kept, translations_kept}
use Rattle.script_lines.proofs.Complete.{complete_makes}
use Rattle.script_lines.proofs.Commands.{command_of-said_of}
use Rattle.script_lines.proofs.Dark.{written_plain, written_words}
use Rattle.script_lines.proofs.Returned.{written_back}
use Rattle.script_lines.proofs.Bounded.{command_bounded}

pub lines_have_no_line_feed : (text : List ℕ) → All (λ line. list_any (λ octet. octet == 10) line ≡ false) (lines text)
lines_have_no_line_feed = lines_lack

pub words_stand_in_their_line : (line : List ℕ) → All (IsWordOf line) (words_of_line line)
words_stand_in_their_line = words_stand

pub plain_octets_are_a_line : (line text : List ℕ) → All (λ octet. IsTrue (is_plain octet)) line → lines (line ++ (10 ∷ text)) ≡ line ∷ lines text
plain_octets_are_a_line = plain_line

pub joined_words_read_back : (blanks : List ℕ) (texts : List (List ℕ)) → All (λ octet. IsTrue (is_blank octet)) blanks → All (λ text. IsTrue (is_word_text text)) texts
    → words_of_line (blanks ++ join_with_byte 32 texts) ≡ placed (length blanks) texts
joined_words_read_back = words_joined

pub forms_are_apart : (led : Bool) (edition : Edition) → IsTrue (are_apart edition (line_rows led edition))
forms_are_apart = apart

pub keys_are_distinct : (edition : Edition) (row : Row) → All (λ slot. (key : List ℕ) → IsTrue (is_key slot.parameter key) → slot_of (form_of edition row).slots key ≡ Some slot) (form_of edition row).slots
keys_are_distinct = keys_found

pub lines_with_labels_are_kept : (led : Bool) (end : ℕ) (words : List LineWord) (said : Said) → read_said with_labels (line_rows led with_labels) end words ≡ Ok said → read_said with_ranges (line_rows led with_ranges) end words ≡ Ok said
lines_with_labels_are_kept = ranges_kept

pub lines_with_ranges_are_kept : (led : Bool) (end : ℕ) (words : List LineWord) (said : Said) → read_said with_ranges (line_rows led with_ranges) end words ≡ Ok said → read_said with_translations (line_rows led with_translations) end words ≡ Ok said
lines_with_ranges_are_kept = translations_kept

pub complete_rows_are_commands : (edition : Edition) (row : Row) (given : Fields) → row ≢ Reading → IsTrue (is_complete (form_of edition row).slots given) → IsSome (command_of row given)
complete_rows_are_commands = complete_makes

pub commands_are_what_they_say : (command : Command) → command_of (said_of command).row (said_of command).fields ≡ Some command
commands_are_what_they_say = command_of-said_of

pub written_command_reads_back : (led : Bool) (end : ℕ) (blanks : List ℕ) (command : Command) → All (λ octet. IsTrue (is_blank octet)) blanks → IsCommand command
    → read_said with_translations (line_rows led with_translations) end (words_of_line (blanks ++ command_text command)) ≡ Ok (said_of command)
written_command_reads_back = written_back

pub written_command_is_plain : (command : Command) → IsCommand command → All (λ octet. IsTrue (is_plain octet)) (command_text command)
written_command_is_plain = written_plain

pub written_command_has_its_words : (blanks : List ℕ) (command : Command) → All (λ octet. IsTrue (is_blank octet)) blanks → IsCommand command
    → words_of_line (blanks ++ command_text command) ≡ placed (length blanks) (texts_of_said (said_of command))
written_command_has_its_words = written_words

pub commands_are_bounded : (command : Command) → IsCommand command → IsBounded command
commands_are_bounded = command_bounded
