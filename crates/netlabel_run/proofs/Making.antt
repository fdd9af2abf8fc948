-- How `make` ends, over plain values.
use Rattle.std.proofs.Common.{◌≡◌, ◌≢◌, ℕ, List, [], ◌∷◌, Option, Some, None, refl, sym, ap, subst, ◌∙◌, arith, inl, inr}
use Rattle.std.specs.Prelude.{IsTrue, All, Contains}
use Rattle.std.proofs.lemmas.List.{append-nil}
use Rattle.std.proofs.lemmas.List.Elements.{All-nil, All-cons}
use Rattle.net_io.specs.Sink.{SinkState}
use Rattle.made_run.specs.made_capture.Capture.{capture_made}
use Rattle.made_run.specs.Ends.{MakesCapture}
use Rattle.made_run.specs.Verdict.{delivered_made, denied_made}
use Rattle.made_run.specs.declared.stop.MadeStop.{MadeStop}
use Rattle.made_run.specs.declared.stop.MadeStop.TheVariants.{Create, Append, OutOfMemory}
use Rattle.call_report.specs.declared.status.Status.{Status}
use Rattle.call_report.specs.declared.status.Status.TheVariants.{Done}
use Rattle.call_report.specs.Status.{status_number}
use Rattle.call_report.specs.Lines.Made.{made_line}
use Rattle.call_report.specs.Report.{Report, late_report}
use Rattle.call_report.specs.Stages.{Stage, making_stage}
use Rattle.call_report.specs.Output.{Output, IsBegun, IsMade}
use Rattle.call_report.specs.Outside.{Outside, AppendRose}
use Rattle.call_report.specs.Printing.{Printed}
use Rattle.call_report.specs.Says.{Says}
use Rattle.call_report.specs.CallEnds.{CallEnds, IsWritten}
use Rattle.netlabel_run.specs.declared.command.Command.{Command}
use Rattle.netlabel_run.specs.declared.command.Command.TheVariants.{Make}
use Rattle.netlabel_run.specs.Commands.{netlabel_says}
use Rattle.call_report.proofs.Law.{HasLeft, Keeps, Knows, IsDue, HasCause, asks, ends_refused, ends_printed, ends_unprinted}

module _ (seed count : ℕ) (file : List ℕ) (before after : Outside) where
  abbrev asked : Option Command
  asked = Some (Make seed count file)

  abbrev says : Says
  says = netlabel_says asked

  abbrev stages : List Stage
  stages = making_stage file ∷ []

  abbrev output : Output
  output = record { name = file; octets = Some (capture_made seed count) }

  abbrev Makes : Option MadeStop → Type 0
  Makes stop = MakesCapture seed count file stop before.folder after.folder

  begun : (stop : Option MadeStop) → Makes stop → IsTrue before.folder.tells → All (λ output. IsBegun output before.folder.held after.folder.held) (output ∷ [])
  begun stop makes told =
      All-cons (λ o. IsBegun o before.folder.held after.folder.held) output []
      (elim (makes.begun told) [ inl same ↦ inl same | inr some ↦ inr (capture_made seed count, some.0, refl, some.1) ])
      (All-nil (λ o. IsBegun o before.folder.held after.folder.held))

  others : (stop : Option MadeStop) → Makes stop → IsTrue before.folder.tells → (name : List ℕ) → All (λ (o : Output). o.name ≢ name) (output ∷ []) → after.folder.held name ≡ before.folder.held name
  others stop makes told name none = makes.others told name (λ e. none 0 output (omega arith) (sym e))

  unmade : (stop : Option MadeStop) → Makes stop → IsTrue before.folder.tells → (name : List ℕ) → All (λ (stage : Stage). stage.output ≢ Some name) stages → after.folder.held name ≡ before.folder.held name
  unmade stop makes told name none = makes.others told name (λ e. none 0 (making_stage file) (omega arith) (ap Some (sym e)))

  has_left : (stop : Option MadeStop) → Makes stop → IsTrue before.folder.tells → HasLeft says before after stages
  has_left stop makes told = record { outputs = output ∷ []; are = refl; begun = begun stop makes told; others = others stop makes told; unmade = unmade stop makes told }

  keeps : (stop : Option MadeStop) → Makes stop → after.stream.tells ≡ before.stream.tells → Keeps says before after stages
  keeps stop makes stream_told = record {
    begun = record { content = before.folder.held; told = λ _ name. refl; are = (refl, refl) };
    lawful = λ told. refl;
    access = λ told. tt;
    withheld = λ told. tt;
    still = λ none. absurd (let no : Some file ≡ None = none 0 (making_stage file) (omega arith) in cc);
    folder_told = makes.told;
    stream_told = stream_told;
  }

  -- ---- the capture is whole

  knows_made : Makes None → after.stream.tells ≡ before.stream.tells → Knows says before after stages
  unfolding has_left
  knows_made makes stream_told = record {
    keeps = keeps None makes stream_told;
    made = λ told. record {
      left = has_left None makes told;
      made = All-cons (λ o. IsMade o before.folder.held after.folder.held) output []
          (λ octets is. makes.whole refl told ∙ is, λ none. absurd (let no : Some (capture_made seed count) ≡ None = none in cc))
          (All-nil (λ o. IsMade o before.folder.held after.folder.held));
    };
    creates = makes.cause.0;
    appends = makes.cause.1;
  }

  abbrev line : List ℕ
  line = made_line count (delivered_made seed count) (denied_made seed count)

  made_due : IsDue says before 0 line []
  made_due = record {
    event = (λ e. omega (arith, e), λ e. omega (arith, e), λ e. omega (arith, e));
    has = λ told. refl;
    may = refl;
    parts = λ known. record { report = late_report line []; has = refl; body = refl; last = refl };
    last = λ e. refl;
    whole = λ told. refl;
  }

  -- and its line was printed, or could not be
  pub ends_told : (status : Status) → Makes None → Printed line [] Done status before.stream after.stream → CallEnds netlabel_says asked before after (status_number status) []
  ends_told status makes printed =
      ends_printed netlabel_says asked before after stages (knows_made makes printed.told) Done line [] (asks asked 0 line (λ e. cc) (λ e. omega (arith, e))) made_due status makes.reads printed

  pub ends_untold : Makes None → after.stream ≡ before.stream → CallEnds netlabel_says asked before after 6 []
  ends_untold makes same = ends_unprinted netlabel_says asked before after stages (knows_made makes (ap (λ (s : SinkState). s.tells) same)) makes.reads same

  -- ---- something was refused

  unwritten : after.stream ≡ before.stream → IsWritten [] before after
  unwritten same = ap (λ (s : SinkState). s.written) same ∙ sym (append-nil before.stream.written)

  -- its report pauses before its line alone
  no_pause : (report : Report) → says.report before.folder.held [] report → Contains report.pauses []
  no_pause report has = subst (λ (r : Report). Contains r.pauses []) (sym has) (0, omega arith, refl)

  ends_unmade : (status : ℕ) (stop : Option MadeStop) → Makes stop → after.stream ≡ before.stream → HasCause says before after stages status → (status ≡ 4 → AppendRose stages before after)
      → CallEnds netlabel_says asked before after status []
  ends_unmade status stop makes same cause append =
      ends_refused netlabel_says asked before after stages status (keeps stop makes (ap (λ (s : SinkState). s.tells) same)) (has_left stop makes) (λ none. absurd cc) cause
      (λ known. record {
        part = λ out. inl (unwritten same);
        pause = λ out e. ([], unwritten same, no_pause);
        stop = λ e. inr (record { rose = append e; text = []; pauses = no_pause; part = λ out. record { count = 0; within = omega arith; written = unwritten same } });
      })
      (λ out e. inr (ap (λ (s : SinkState). s.written) same))

  pub ends_uncreated : Makes (Some Create) → after.stream ≡ before.stream → CallEnds netlabel_says asked before after 3 []
  ends_uncreated makes same = ends_unmade 3 (Some Create) makes same (record {
    refused = inl refl;
    read_fault = λ e. (record { writes = ap (λ (s : SinkState). s.faults) same; appends = makes.cause.1 }, inr (record { name = file; in_hand = refl; rose = makes.cause.0 }));
    write_fault = λ e. absurd (omega (arith, e));
    memory = λ e. absurd (omega (arith, e));
  }) (λ e. absurd (omega (arith, e)))

  pub ends_unappended : Makes (Some Append) → after.stream ≡ before.stream → CallEnds netlabel_says asked before after 4 []
  ends_unappended makes same =
      let rose : AppendRose stages before after = record { name = file; in_hand = refl; rose = makes.cause.1 } in
      ends_unmade 4 (Some Append) makes same (record {
        refused = inr (inl refl);
        read_fault = λ e. absurd (omega (arith, e));
        write_fault = λ e. (inr rose, inl (record { reads = makes.reads; creates = makes.cause.0 }));
        memory = λ e. absurd (omega (arith, e));
      }) (λ e. rose)

  pub ends_without_memory : Makes (Some OutOfMemory) → after.stream ≡ before.stream → CallEnds netlabel_says asked before after 6 []
  ends_without_memory makes same =
      ends_unmade 6 (Some OutOfMemory) makes same (record {
        refused = inr (inr refl);
        read_fault = λ e. absurd (omega (arith, e));
        write_fault = λ e. absurd (omega (arith, e));
        memory = λ e. (record { writes = ap (λ (s : SinkState). s.faults) same; appends = makes.cause.1 }, inl (record { reads = makes.reads; creates = makes.cause.0 }));
      }) (λ e. absurd (omega (arith, e)))
