-- What the words of the command line, without the program's name, ask for.
use Rattle.std.specs.Prelude.{ℕ, ◌&&◌, nat_le, nat_lt, if◌then◌else◌, List, [], ◌∷◌, Option, Some, None, option_map, option_and_then}
use Rattle.label_commands.specs.flow_lines.FileName.{file_name_of_text}
use Rattle.label_commands.specs.command_words.Numbers.{number_named}
use Rattle.netlabel_audit.specs.declared.asked.Audit.{Audit}

-- a number of workers: 1 to 16, without leading zeros
abbrev pub workers_named : List ℕ → Option ℕ
workers_named text = option_and_then (λ n. if nat_lt 0 n && nat_le n 16 then Some n else None) (number_named text)

-- `<script> <report> <n>`; none where the words are no form
abbrev pub audit_asked : List (List ℕ) → Option Audit
audit_asked (script ∷ report ∷ workers ∷ []) =
    option_and_then (λ script. option_and_then (λ report. option_map (λ n. record { script = script; report = report; workers = n }) (workers_named workers))
    (file_name_of_text report)) (file_name_of_text script)
audit_asked words = None
