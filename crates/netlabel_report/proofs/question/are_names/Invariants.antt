use Rattle.std.proofs.Common.{◌≡◌, length}
use Rattle.std.specs.List.{list_all}
use Rattle.label_commands.specs.flow_lines.FileName.{is_file_name}
use Rattle.label_commands.specs.command_words.Words.{texts_of}
use Rattle.netlabel_report.proofs.question.are_names.Given as goal

abbrev pub decreases-loop-rest : goal.decreases-loop-rest
decreases-loop-rest l = length l.rest

-- all words are names exactly where those that are left are
abbrev pub invariant-loop-rest : goal.invariant-loop-rest
invariant-loop-rest l = list_all is_file_name (texts_of l.rest) ≡ list_all is_file_name (texts_of l.words)
