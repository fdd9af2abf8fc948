-- The laws of src/laws.rt under their names, for the crates above.
use Rattle.std.proofs.Common.{◌≡◌, ◌<◌, ℕ, List, Option, ◌↔◌, Ok}
use Rattle.std.specs.Prelude.{IsTrue, is_none}
use Rattle.std.specs.List.{list_all}
use Rattle.mls_label.specs.declared.label.Label.{Label}
use Rattle.label_commands.specs.declared.flow_lines.hop.Hop.{Hop}
use Rattle.label_commands.specs.node_readings.Reading.{NamedMeanings}
use Rattle.label_flow.specs.declared.node_agreement.disagree.Disagree.{Disagree}
use Rattle.shared_tables.specs.Plan.{PlanState}
use Rattle.label_flow.specs.flow_access.Kept.{NeighboursAgree}
use Rattle.netlabel_run.specs.declared.command.Command.{Command}
use Rattle.netlabel_run.specs.Words.{IsAsked}
use Rattle.call_report.specs.Report.{Folder, Versions, Report}
use Rattle.call_report.specs.Output.{Output}
use Rattle.netlabel_run.specs.Commands.{netlabel_says}
use Rattle.netlabel_run.specs.Run.{run_says}
use Rattle.netlabel_run.specs.Agree.{AreFound}
use Rattle.netlabel_run.specs.Laws.{IsOne, IsDetermined, HasNoCommandBeside, HoldTheSame, IsAnswer}
use Rattle.netlabel_run.proofs.Forced.{forced}
use Rattle.netlabel_run.proofs.OneAnswer.{one_answer}
use Rattle.netlabel_run.specs.Judge.{IsVerdict, IsGranted}
use Rattle.netlabel_run.proofs.Granted.{granted, grants}
use Rattle.netlabel_run.proofs.Once.{asked_once, determined}
use Rattle.netlabel_run.proofs.Found.{agreement_told}

pub words_ask_for_one_thing : (words : List (List ℕ)) → IsOne (IsAsked words)
words_ask_for_one_thing = asked_once

pub commands_have_one_report : (request : Option Command) (held : Folder) (seen : Versions) → IsDetermined (netlabel_says request) held seen
commands_have_one_report = determined

pub versions_without_commands_beside_are_forced : (file : List ℕ) (workers workers' : ℕ) (held : Folder) (seen seen' : Versions) → HasNoCommandBeside file held → 0 < workers → 0 < workers'
    → (run_says file workers).lawful held seen → (run_says file workers).whole held seen → (run_says file workers').lawful held seen' → (run_says file workers').whole held seen' → seen ≡ seen'
versions_without_commands_beside_are_forced = forced

pub scripts_without_commands_beside_have_one_answer : (file : List ℕ) (held other : Folder) (report report' : Report) (outputs outputs' : List Output) → HasNoCommandBeside file other → HoldTheSame file held other
    → IsAnswer file held report outputs → IsAnswer file other report' outputs' → (report ≡ report') × (outputs ≡ outputs')
scripts_without_commands_beside_have_one_answer = one_answer

pub labels_are_delivered_exactly_where_granted : (doi : ℕ) (level : Label) (octets : List ℕ) (label : Label) → (IsVerdict doi level octets (Ok label) ↔ IsGranted doi level octets label)
labels_are_delivered_exactly_where_granted doi level octets label = (granted doi level octets label, grants doi level octets label)

pub agreement_is_told_where_neighbours_agree : (plan : PlanState) (readings : List NamedMeanings) (hops : List Hop) (versions : List ℕ) (found : List (Option Disagree))
    → AreFound plan readings hops versions found → (IsTrue (list_all is_none found) ↔ NeighboursAgree plan readings hops versions)
agreement_is_told_where_neighbours_agree = agreement_told
