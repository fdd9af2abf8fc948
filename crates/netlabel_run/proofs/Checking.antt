-- How `check` ends, over plain values.
use Rattle.std.proofs.Common.{◌≡◌, ℕ, List, [], ◌∷◌, Option, Some, None, Result, Ok, Err, refl, sym, ap, subst, ◌∙◌, arith}
use Rattle.std.specs.Prelude.{IsTrue, Contains}
use Rattle.net_io.specs.Faults.{SameCounts}
use Rattle.script_lines.specs.Form.{with_translations}
use Rattle.label_commands.specs.declared.script.Script.{Script}
use Rattle.label_commands.specs.declared.stop.ScriptStop.{ScriptStop}
use Rattle.label_commands.specs.Script.{read_text}
use Rattle.netlabel_run.specs.declared.command.Command.{Command}
use Rattle.netlabel_run.specs.declared.command.Command.TheVariants.{Check}
use Rattle.call_report.specs.declared.status.Status.{Status}
use Rattle.call_report.specs.declared.status.Status.TheVariants.{Done}
use Rattle.call_report.specs.CallEnds.{CallEnds}
use Rattle.call_report.specs.script_input.ScriptFile.{script_read}
use Rattle.netlabel_run.specs.Check.{check_text, script_report, CheckReport, script_status, CheckStatus}
use Rattle.netlabel_run.specs.Commands.{netlabel_says}
use Rattle.call_report.specs.Report.{Report}
use Rattle.call_report.specs.Stages.{reading_stage}
use Rattle.call_report.specs.Outside.{Outside}
use Rattle.call_report.specs.Status.{status_number}
use Rattle.call_report.specs.Printing.{Printed}
use Rattle.call_report.proofs.Law.{asks, ends_printed, knows_file}
use Rattle.call_report.specs.Outside.{IsOnlyRead}
use Rattle.call_report.proofs.script_input.Law.{ReadsScript}

pauses_late : (read : Result Script ScriptStop) → (script_report read).pauses ≡ [] ∷ []
pauses_late (Ok script) = refl
pauses_late (Err why) = refl

module _ (file : List ℕ) where
  abbrev asked : Option Command
  asked = Some (Check file)

  -- nothing is printed before its read
  check_pauses : (held : Option (List ℕ)) (report : Report) → CheckReport file held report → report.pauses ≡ [] ∷ []
  check_pauses None report has = ap (λ (r : Report). r.pauses) has
  check_pauses (Some text) report has = ap (λ (r : Report). r.pauses) has ∙ pauses_late (script_read file text)

  has_status : (held : Option (List ℕ)) (text : List ℕ) (read : Result Script ScriptStop) → held ≡ Some text → script_read file text ≡ read → CheckStatus file held (script_status read)
  has_status held text read holds is = subst (λ (o : Option (List ℕ)). CheckStatus file o (script_status read)) (sym holds) (ap script_status (sym is))

  has_report : (held : Option (List ℕ)) (text : List ℕ) (read : Result Script ScriptStop) → held ≡ Some text → script_read file text ≡ read → CheckReport file held (script_report read)
  has_report held text read holds is = subst (λ (o : Option (List ℕ)). CheckReport file o (script_report read)) (sym holds) (ap script_report (sym is))

  -- what it knows of the file that it reads
  pub check_reads : ReadsScript (netlabel_says asked) file
  check_reads = record {
    depends = tt;
    knows = λ before after reads told. knows_file file (CheckReport file) (CheckStatus file) ⊥ before after reads told;
    refused = λ held text why holds is. record { status = has_status (held file) text (Err why) holds is; report = has_report (held file) text (Err why) holds is; whole = refl };
    may = λ text why is. (λ name. Some text, ap script_status (sym is));
    pauses = λ held report has. subst (λ pauses. Contains pauses []) (sym (check_pauses (held file) report has)) (0, omega arith, refl);
  }

  -- the text is a script
  pub ends_checked : (before after : Outside) (text : List ℕ) (script : Script) (status : Status) → IsOnlyRead before.folder after.folder → after.stream.tells ≡ before.stream.tells
      → SameCounts before.folder.reads after.folder.reads → (IsTrue before.folder.tells → before.folder.held file ≡ Some text) → read_text with_translations file text ≡ Ok script
      → Printed (check_text script) [] Done status before.stream after.stream → CallEnds netlabel_says asked before after (status_number status) []
  ends_checked before after text script status reads stream counts holds is printed =
      ends_printed netlabel_says asked before after (reading_stage file ∷ []) (check_reads.knows before after reads stream) Done (check_text script) []
      (asks asked 0 (check_text script) (λ e. cc) (λ e. omega (arith, e)))
      (record {
        event = (λ e. omega (arith, e), λ e. omega (arith, e), λ e. omega (arith, e));
        has = λ told. has_status (before.folder.held file) text (Ok script) (holds told) is;
        may = (λ name. Some text, ap script_status (sym is));
        parts = λ known. record { report = script_report (Ok script); has = has_report (before.folder.held file) text (Ok script) (holds (known tt)) is; body = refl; last = refl };
        last = λ e. refl;
        whole = λ told. refl;
      })
      status counts printed
