-- The table of what was added up.
use Rattle.std.specs.Prelude.{ℕ, ◌+◌, ◌-◌, ◌==◌, nat_le, List, [], ◌∷◌, ◌++◌, codes, Option, Some, None, if◌then◌else◌}
use Rattle.std.specs.Fmt.{decimal}
use Rattle.std.specs.List.{flat_map, before_first, after_first}
use Rattle.netlabel_report.specs.declared.report_telling.counts.Progress.{Progress}
use Rattle.netlabel_report.specs.report_telling.Counts.{Tally}

-- a text, and a number behind it
abbrev pub count_text : List ℕ → ℕ → List ℕ
count_text text count = text ++ decimal count

-- the text of a reply's line behind `command `, with the line in the script behind the command's number
abbrev pub placed_reply : Option ℕ → List ℕ → List ℕ
placed_reply None reply = reply
placed_reply (Some at) reply = before_first (λ c. c == 32) reply ++ count_text (codes " line ") at ++ codes " " ++ after_first (λ c. c == 32) reply

-- a command that was refused, by the text of its line behind `command `
unfoldable pub refused_text : Option ℕ → ℕ → List ℕ → List ℕ
refused_text at report reply = count_text (codes "refused ") report ++ codes "." ++ placed_reply at reply ++ codes "\n"

-- that a report has no good end: how it ends instead
unfoldable pub ended_text : ℕ → List ℕ → List ℕ
ended_text report how = count_text (codes "ended ") report ++ codes " " ++ how ++ codes "\n"

-- a sum, at most the greatest number
abbrev pub sum_of : ℕ → ℕ → ℕ
sum_of a b = if nat_le a (18446744073709551615 - b) then a + b else 18446744073709551615

abbrev pub early_text : Progress → List ℕ
early_text p = count_text (codes " unfinished ") p.unfinished ++ 10 ∷ []

abbrev pub reports_text : Progress → List ℕ
reports_text p = count_text (codes "reports ") p.reports ++ early_text p

abbrev pub commands_text : Progress → List ℕ
commands_text p = count_text (codes "commands ") p.commands ++ count_text (codes " refused ") p.refused ++ 10 ∷ []

abbrev pub others_text : Progress → List ℕ
others_text p = count_text (codes " sent ") p.sent ++ count_text (codes " denied ") p.denied ++ 10 ∷ []

abbrev pub packets_text : Progress → List ℕ
packets_text p = count_text (codes "packets ") (sum_of (sum_of p.delivered p.sent) p.denied) ++ count_text (codes " delivered ") p.delivered ++ others_text p

-- how many packets were denied for a reason, at a hop of a node
unfoldable pub tally_text : Tally → List ℕ
tally_text t = count_text (codes "denied ") t.reason ++ codes " " ++ t.name ++ count_text (codes " hop ") t.hop ++ codes " node " ++ t.node ++ count_text (codes " packets ") t.count ++ codes "\n"

-- how many were denied beside the tallies, where some were
abbrev pub elsewhere_text : ℕ → List ℕ
elsewhere_text count = if count == 0 then [] else count_text (codes "denied elsewhere packets ") count ++ codes "\n"

unfoldable pub summary_text : Progress → List Tally → List ℕ
summary_text p tallies = reports_text p ++ commands_text p ++ packets_text p ++ flat_map tally_text tallies ++ elsewhere_text p.elsewhere
