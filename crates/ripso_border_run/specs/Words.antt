-- What the words of the command line, without the program's name, ask for.
use Rattle.std.specs.Prelude.{ℕ, List, [], ◌∷◌, codes, Option, Some, None, option_map, option_and_then, if◌then◌else◌}
use Rattle.std.specs.Str.{bytes_eq}
use Rattle.script_lines.specs.command_values.Doi.{doi_of_text}
use Rattle.label_commands.specs.flow_lines.FileName.{file_name_of_text}
use Rattle.ripso_border.specs.declared.border.Way.{Way}
use Rattle.ripso_border.specs.declared.border.Way.TheVariants.{In, Out}
use Rattle.ripso_border_run.specs.declared.task.Task.{Task}

-- which way packets are to go
abbrev pub way_named : List ℕ → Option Way
way_named word = if bytes_eq word (codes "in") then Some In else (if bytes_eq word (codes "out") then Some Out else None)

-- `in <script> <doi> <input> <output>`, or the same with `out`; none where the words are no form
abbrev pub border_asked : List (List ℕ) → Option Task
border_asked (way ∷ script ∷ doi ∷ input ∷ output ∷ []) =
    option_and_then (λ way. option_and_then (λ script. option_and_then (λ doi. option_and_then (λ input.
    option_map (λ output. record { way = way; script = script; doi = doi; input = input; output = output }) (file_name_of_text output))
    (file_name_of_text input)) (doi_of_text doi)) (file_name_of_text script)) (way_named way)
border_asked words = None
