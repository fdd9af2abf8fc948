-- What `netlabel` says of each command, and of words that are no form.
use Rattle.std.specs.Prelude.{Option, Some, None}
use Rattle.call_report.specs.Lines.Fixed.{usage_line}
use Rattle.call_report.specs.Says.{Says, usage_says}
use Rattle.netlabel_run.specs.declared.command.Command.{Command}
use Rattle.netlabel_run.specs.declared.command.Command.TheVariants.{Judge, Check, Show, Agree, Make, Run}
use Rattle.netlabel_run.specs.Judge.{judge_says}
use Rattle.netlabel_run.specs.Check.{check_says}
use Rattle.netlabel_run.specs.Show.{show_says}
use Rattle.netlabel_run.specs.Agree.{agree_says}
use Rattle.netlabel_run.specs.Make.{make_says}
use Rattle.netlabel_run.specs.Run.{run_says}

-- all that is said of each command, and of words that are no form
abbrev pub netlabel_says : Option Command → Says
netlabel_says None = usage_says usage_line
netlabel_says (Some (Judge doi level file)) = judge_says doi level file
netlabel_says (Some (Check file)) = check_says file
netlabel_says (Some (Show file)) = show_says file
netlabel_says (Some (Agree file flow versions)) = agree_says file flow versions
netlabel_says (Some (Make seed count file)) = make_says seed count file
netlabel_says (Some (Run file workers)) = run_says file workers
