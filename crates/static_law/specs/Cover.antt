-- Whether each hop of a flow covers the next one, under versions of the tables that a packet of the flow can have; or why the text is no script, or
-- has no such flow or versions.
use Rattle.std.specs.Prelude.{ℕ, ◌+◌, List, [], ◌∷◌, ◌++◌, Option, Some, None, is_none, option_map, option_and_then}
use Rattle.std.specs.List.{list_all}
use Rattle.label_commands.specs.flow_lines.FileName.{file_name_of_text}
use Rattle.label_commands.specs.command_words.Numbers.{number_named, versions_named}
use Rattle.call_report.specs.Says.{Says, usage_says}
use Rattle.call_report.specs.script_input.Answer.{HopsAnswer}
use Rattle.call_report.specs.script_input.Neighbours.{HopState}
use Rattle.call_report.specs.script_input.ScriptFile.{script_says}
use Rattle.static_law.specs.declared.question.CoverQuestion.{CoverQuestion}
use Rattle.static_law.specs.declared.uncovered.Uncovered.{Uncovered}
use Rattle.static_law.specs.Covered.{interface_out, interface_in, Covered}
use Rattle.static_law.specs.Uncovered.{IsUncovered}
use Rattle.static_law.specs.Lines.{link_line, coverage_line, cover_usage_line}

-- What the words ask for, `<script> <flow>` or `<script> <flow> <versions>`; none where they are no form.
abbrev pub cover_asked : List (List ℕ) → Option CoverQuestion
cover_asked (script ∷ flow ∷ []) =
    option_and_then (λ file. option_map (λ number. record { file = file; flow = number; versions = None }) (number_named flow)) (file_name_of_text script)
cover_asked (script ∷ flow ∷ list ∷ []) =
    option_and_then (λ file. option_and_then (λ number. option_map (λ versions. record { file = file; flow = number; versions = Some versions }) (versions_named list)) (number_named flow))
    (file_name_of_text script)
cover_asked words = None

-- what two hops come to: the link between them is covered, or this is the first reason why not
abbrev pub IsLinkFound : HopState → HopState → Option Uncovered → Type 0
IsLinkFound left right None = Covered left.tables (interface_out left.hop) right.tables (interface_in right.hop) left.named right.named
IsLinkFound left right (Some why) = IsUncovered left.tables (interface_out left.hop) right.tables (interface_in right.hop) left.named right.named why

-- a line for each two, the left one numbered from here on
abbrev pub links_text : ℕ → List (Option Uncovered) → List ℕ
links_text left [] = []
links_text left (found ∷ others) = link_line left found ++ links_text (left + 1) others

-- and behind them whether all are covered
abbrev pub cover_text : List (Option Uncovered) → List ℕ
cover_text found = links_text 1 found ++ coverage_line (list_all is_none found)

-- It reads a script, and answers it on the hops of one flow.
abbrev pub cover_says : Option CoverQuestion → Says
cover_says None = usage_says cover_usage_line
cover_says (Some asked) = script_says (HopsAnswer IsLinkFound cover_text asked.flow asked.versions) asked.file
