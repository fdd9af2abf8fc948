-- What the steps of a script answer, as it is printed. Steps are counted from 1.
use Rattle.std.specs.Prelude.{ℕ, ◌+◌, List, [], ◌∷◌, ◌++◌, length, map, codes, slice_get}
use Rattle.std.specs.Fmt.{decimal}
use Rattle.std.specs.List.{concat, range_with_len}
use Rattle.std.specs.Option.{option_map_or}
use Rattle.script_lines.specs.declared.command.Step.{Step}
use Rattle.node_tables.specs.declared.reply.Reply.{Reply}
use Rattle.node_tables.specs.declared.reply.Reply.TheVariants.{Done, Listed, Refused}
use Rattle.node_tables.specs.Refusal.{refusal_name}
use Rattle.node_tables.specs.Steps.{reply_at}
use Rattle.call_report.specs.Lines.Parts.{line_of, name_at}

-- the lines of a listing, with two spaces in front of each
abbrev pub listed_lines : List (List ℕ) → List ℕ
listed_lines [] = []
listed_lines (line ∷ lines) = line_of (codes "  " ++ line) ++ listed_lines lines

-- a reply behind the number and the node of its step
abbrev pub answer_text : Reply → List ℕ
answer_text Done = line_of (codes "done")
answer_text (Refused why) = line_of (refusal_name why)
answer_text (Listed lines) = line_of (codes "listed " ++ decimal (length lines)) ++ listed_lines lines

-- the reply to the step of this number, at the node of this name
unfoldable pub reply_text : ℕ → List ℕ → Reply → List ℕ
reply_text number node reply = codes "command " ++ decimal number ++ codes " " ++ node ++ codes " " ++ answer_text reply

-- the reply to the step behind the first k, each of which was carried out or refused
abbrev pub reply_line_at : List (List ℕ) → List Step → ℕ → List ℕ
reply_line_at names steps k = option_map_or (λ (step : Step). option_map_or (reply_text (k + 1) (name_at names step.node)) (reply_at (length names) steps k) []) (slice_get steps k) []

-- the replies to so many steps behind the first k, in the script's order
unfoldable pub replies_text : List (List ℕ) → List Step → ℕ → ℕ → List ℕ
replies_text names steps k count = concat (map (reply_line_at names steps) (range_with_len k count))
