-- What `judge` knows at its end.
use Rattle.std.proofs.Common.{◌≡◌, ◌<◌, ◌≤◌, ℕ, replicate, List, [], ◌∷◌, length, refl, sym, subst, arith, inl, inr, Option, Some, None}
use Rattle.std.specs.Prelude.{IsTrue}
use Rattle.std.proofs.lemmas.List.{length-replicate}
use Rattle.mls_label.specs.declared.label.Label.{Label}
use Rattle.net_io.specs.Depot.{octets_of}
use Rattle.netlabel_run.specs.declared.command.Command.TheVariants.{Judge}
use Rattle.netlabel_run.specs.Judge.{IsVerdict, JudgeReport, absent, too_long, judged, JudgeStatus, packet_limit}
use Rattle.netlabel_run.specs.Commands.{netlabel_says}
use Rattle.call_report.specs.Lines.Denial.{Verdict, verdict_line}
use Rattle.call_report.specs.Report.{Report, late_report}
use Rattle.call_report.specs.Lines.Fixed.{packet_limit_line}
use Rattle.call_report.specs.Stages.{reading_stage}
use Rattle.call_report.specs.Outside.{Outside}
use Rattle.call_report.specs.Outside.{IsOnlyRead}
use Rattle.call_report.proofs.Law.{Knows, IsDue, knows_file}

-- a file with more octets than none is there
is_there : (file : Option (List ℕ)) → packet_limit < length (octets_of file) → file ≡ Some (octets_of file)
is_there None long = absurd (omega arith)
is_there (Some octets) long = refl

module _ (doi : ℕ) (level : Label) (file : List ℕ) (before : Outside) where
  pub knows_judge : (after : Outside) → IsOnlyRead before.folder after.folder → after.stream.tells ≡ before.stream.tells → Knows (netlabel_says (Some (Judge doi level file))) before after (reading_stage file ∷ [])
  knows_judge after reads told = knows_file file (JudgeReport doi level) JudgeStatus ⊥ before after reads told

  pub limit_due : (IsTrue before.folder.tells → packet_limit < length (octets_of (before.folder.held file)))
      → IsDue (netlabel_says (Some (Judge doi level file))) before 7 [] packet_limit_line
  limit_due long = record {
    event = (λ e. omega (arith, e), λ e. omega (arith, e), λ e. omega (arith, e));
    has = λ told. subst (λ held. JudgeStatus held 7) (sym (is_there (before.folder.held file) (long told))) (inl (long told, refl));
    may = (λ name. Some (replicate 65576 0), inl (omega (arith, length-replicate {A = ℕ} 65576 0), refl));
    parts = λ known. record {
      report = late_report [] packet_limit_line;
      has = subst (λ held. JudgeReport doi level held (late_report [] packet_limit_line)) (sym (is_there (before.folder.held file) (long (known tt)))) (too_long _ (long (known tt)));
      body = refl;
      last = refl;
    };
    last = λ done. elim done [ inl zero ↦ absurd (omega (arith, zero)) | inr eight ↦ absurd (omega (arith, eight)) ];
    whole = λ told. refl;
  }

  pub verdict_due : (octets : List ℕ) (verdict : Verdict) → (IsTrue before.folder.tells → before.folder.held file ≡ Some octets) → length octets ≤ packet_limit
      → IsVerdict doi level octets verdict → IsDue (netlabel_says (Some (Judge doi level file))) before 0 (verdict_line verdict) []
  verdict_due octets verdict holds short is = record {
    event = (λ e. omega (arith, e), λ e. omega (arith, e), λ e. omega (arith, e));
    has = λ told. subst (λ held. JudgeStatus held 0) (sym (holds told)) (inr (short, refl));
    may = (λ name. Some [], inr (omega arith, refl));
    parts = λ known. record {
      report = late_report (verdict_line verdict) [];
      has = subst (λ held. JudgeReport doi level held (late_report (verdict_line verdict) [])) (sym (holds (known tt))) (judged octets verdict short is);
      body = refl;
      last = refl;
    };
    last = λ e. refl;
    whole = λ told. refl;
  }

  -- every report of `judge` has nothing in front of its read
  pub quiet : (held : Option (List ℕ)) (report : Report) → JudgeReport doi level held report → report.pauses ≡ [] ∷ []
  quiet None report absent = refl
  quiet (Some octets) report (too_long o long) = refl
  quiet (Some octets) report (judged o verdict short is) = refl
