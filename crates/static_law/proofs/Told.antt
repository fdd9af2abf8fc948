-- What a call has told that ends with status 0: the whole answer on the flow of the script that its file holds.
use Rattle.std.proofs.Common.{◌≡◌, ◌⊎◌, inl, inr, ℕ, List, [], ◌++◌, Option, Some, None, Result, Ok, Err, refl, ap, subst, ◌∙◌, arith}
use Rattle.std.specs.Prelude.{IsTrue}
use Rattle.std.proofs.lemmas.List.{append-nil}
use Rattle.label_commands.specs.declared.script.Script.{Script}
use Rattle.label_commands.specs.declared.stop.ScriptStop.{ScriptStop}
use Rattle.label_commands.specs.declared.stop.ScriptStop.TheVariants as stop
use Rattle.call_report.specs.CallEnds.{IsRefusal, CallEnds, PrintsReport}
use Rattle.call_report.specs.Outside.{Outside}
use Rattle.call_report.specs.Lines.Script.{script_stop_line}
use Rattle.call_report.specs.Report.{Report, report_text, late_report}
use Rattle.call_report.specs.script_input.Answer.{HopsAnswer}
use Rattle.call_report.specs.script_input.Neighbours.{HopState}
use Rattle.call_report.specs.script_input.ScriptFile.{script_read, ByAnswer, script_stop_status, ScriptReport, ScriptStatus}
use Rattle.call_report.proofs.script_input.Law.{hops_are_answered, one_answer}
use Rattle.static_law.specs.declared.question.CoverQuestion.{CoverQuestion}
use Rattle.static_law.specs.declared.uncovered.Uncovered.{Uncovered}
use Rattle.static_law.specs.Covered.{interface_out, interface_in}
use Rattle.static_law.specs.Cover.{IsLinkFound, cover_text, cover_says}
use Rattle.static_law.specs.Told.{TellsCoverage}
use Rattle.static_law.proofs.Reasons.{uncovers, one_reason}
use Rattle.static_law.proofs.Coverage.{said_covered}

-- two hops come to one thing
one_found : (left right : HopState) (a b : Option Uncovered) → IsLinkFound left right a → IsLinkFound left right b → a ≡ b
one_found left right None None x y = refl
one_found left right None (Some why) x y = absurd (uncovers left.tables right.tables (interface_out left.hop) (interface_in right.hop) left.named right.named why y x)
one_found left right (Some why) None x y = absurd (uncovers left.tables right.tables (interface_out left.hop) (interface_in right.hop) left.named right.named why x y)
one_found left right (Some why) (Some other) x y =
    ap (λ (u : Uncovered). Some u) (one_reason left.tables right.tables (interface_out left.hop) (interface_in right.hop) left.named right.named why other x y)

-- no such status is a refusal's
no_refusal : IsRefusal 0 → ⊥
no_refusal (inl e) = omega (arith, e)
no_refusal (inr (inl e)) = omega (arith, e)
no_refusal (inr (inr e)) = omega (arith, e)

-- nor that of a text which is no script
no_stop : (why : ScriptStop) → 0 ≡ script_stop_status why → ⊥
no_stop (stop.Fault fault) e = omega (arith, e)
no_stop (stop.Limit what number) e = omega (arith, e)
no_stop stop.OutOfMemory e = omega (arith, e)

module _ (asked : CoverQuestion) (before after : Outside) where
  abbrev Answers : Script → ℕ → Report → Type 0
  Answers = HopsAnswer IsLinkFound cover_text asked.flow asked.versions

  abbrev Wrote : Report → Type 0
  Wrote report = after.stream.written ≡ before.stream.written ++ report_text report

  -- the report that is due with status 0 has no line of an event
  is_told : (octets : List ℕ) (script : Script) (report : Report) → before.folder.held asked.file ≡ Some octets → script_read asked.file octets ≡ Ok script → Answers script 0 report → Wrote report → TellsCoverage asked before after
  is_told octets script report holds reads answers wrote =
      let none = (hops_are_answered IsLinkFound cover_text asked.flow asked.versions).no_line script 0 report answers (inl refl) in
      let whole : report_text report ≡ report.body = ap (λ (last : List ℕ). report.body ++ last) none ∙ append-nil report.body in
      record {
        octets = octets;
        script = script;
        holds = holds;
        reads = reads;
        text = report.body;
        written = wrote ∙ ap (λ (text : List ℕ). before.stream.written ++ text) whole;
        says = said_covered script asked.flow asked.versions 0 report answers;
      }

  by_answer : (octets : List ℕ) (r : Result Script ScriptStop) (report : Report) → before.folder.held asked.file ≡ Some octets → script_read asked.file octets ≡ r
      → ByAnswer r (λ why. 0 ≡ script_stop_status why) (λ script. (due : Report) × Answers script 0 due)
      → ByAnswer r (λ why. report ≡ late_report [] (script_stop_line why)) (λ script. (status : ℕ) × Answers script status report) → Wrote report → TellsCoverage asked before after
  by_answer octets (Err why) report holds reads due prints wrote = absurd (no_stop why due)
  by_answer octets (Ok script) report holds reads due prints wrote =
      let same = one_answer IsLinkFound one_found cover_text asked.flow asked.versions script 0 prints.0 due.0 report due.1 prints.1 in
      is_told octets script report holds reads (subst (λ (r : Report). Answers script 0 r) same.1 due.1) wrote

  by_file : (o : Option (List ℕ)) (report : Report) → before.folder.held asked.file ≡ o → ScriptStatus Answers asked.file o 0 → ScriptReport Answers asked.file o report → Wrote report → TellsCoverage asked before after
  by_file None report holds due prints wrote = absurd due
  by_file (Some octets) report holds due prints wrote = by_answer octets (script_read asked.file octets) report holds refl due prints wrote

  pub told_by : CallEnds cover_says (Some asked) before after 0 [] → IsTrue before.folder.tells → IsTrue before.stream.tells → TellsCoverage asked before after
  told_by ends folder stream =
      let printed = (ends.prints (λ reads. folder)).whole stream no_refusal in
      by_file (before.folder.held asked.file) printed.0 refl (by_due (ends.ends.due folder)) printed.1 (all_of printed.0 printed.2)
    where
      all_of : (report : Report) → PrintsReport report before after 0 → Wrote report
      all_of report (inl all) = all.1
      all_of report (inr line) = absurd (line.0 refl)

      by_due : ScriptStatus Answers asked.file (before.folder.held asked.file) 0 ⊎ IsRefusal 0 → ScriptStatus Answers asked.file (before.folder.held asked.file) 0
      by_due (inl is) = is
      by_due (inr refusal) = absurd (no_refusal refusal)
