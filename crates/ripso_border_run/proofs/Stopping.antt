-- How a call ends whose capture is being read, where something is refused.
use Rattle.std.proofs.Common.{◌≡◌, ◌≢◌, ◌⊎◌, ℕ, List, [], ◌∷◌, ◌++◌, length, take, Option, Some, None, refl, sym, ap, subst, ◌∙◌, append_assoc, length-append, arith, inl, inr}
use Rattle.std.specs.Prelude.{IsTrue, All, Contains}
use Rattle.std.proofs.lemmas.List.{append-nil, take_at, take_all, take-append-le}
use Rattle.std.proofs.lemmas.List.Elements.{All-nil, All-cons}
use Rattle.net_io.specs.Faults.{Rose, SameCounts}
use Rattle.net_io.specs.Sink.{WritesPrefix, WritesLess}
use Rattle.net_io.specs.declared.fault.IoFault.{IoFault}
use Rattle.net_io.specs.declared.fault.IoFault.TheVariants.{Failed, OutOfMemory as IoOutOfMemory}
use Rattle.call_report.specs.declared.status.Status.{Status}
use Rattle.call_report.specs.declared.status.Status.TheVariants.{ReadFault}
use Rattle.call_report.specs.CallEnds.{CallEnds, HasBegun, FailedAfterText, IsWritten}
use Rattle.call_report.specs.Output.{Output, IsBegun, IsMade}
use Rattle.call_report.specs.Outside.{Outside, ReadRose, CreateRose, AppendRose, NoInputFailed}
use Rattle.call_report.specs.Printing.{Breaks, Printed}
use Rattle.call_report.specs.Report.{Report}
use Rattle.call_report.specs.Says.{Says}
use Rattle.call_report.specs.Stages.{Stage, reading_stage}
use Rattle.call_report.specs.Status.{status_number, write_status}
use Rattle.call_report.proofs.Law.{HasLeft, HasMade, Keeps, Begins, HasCause, IsPart, PrintsSome, begun_part, ends_refused, less_of_a_text_is_less_of_more}
use Rattle.ripso_border_run.specs.declared.task.Task.{Task}
use Rattle.ripso_border_run.specs.Says.{border_says, capture_stages}
use Rattle.ripso_border_run.specs.Outcome.{Outcome, IsOutcome}
use Rattle.ripso_border_run.proofs.Leading.{Leads}

abbrev pub asked : Task → Option Task
asked task = Some task

-- the stages of a call that ends before its input
abbrev pub script_stages : Task → List Stage
script_stages task = reading_stage task.script ∷ []

module _ (task : Task) (before after : Outside) where
  abbrev says : Says
  says = border_says (asked task)

  -- a call that has begun no more than its script
  pub keeps_script : after.folder.tells ≡ before.folder.tells → after.stream.tells ≡ before.stream.tells → SameCounts before.folder.creates after.folder.creates → SameCounts before.folder.appends after.folder.appends
      → Keeps says before after (script_stages task)
  keeps_script folder stream creates appends = record {
    begun = record { content = before.folder.held; told = λ told name. refl; are = (refl, inl refl) };
    lawful = λ told. refl;
    access = λ told. tt;
    withheld = λ told. tt;
    still = λ none. (creates, appends);
    folder_told = folder;
    stream_told = stream;
  }

  -- and one that has begun its input
  pub keeps_capture : HasBegun says before.folder [] (capture_stages task) → after.folder.tells ≡ before.folder.tells → after.stream.tells ≡ before.stream.tells → Keeps says before after (capture_stages task)
  keeps_capture begun folder stream = record {
    begun = begun;
    lawful = λ told. refl;
    access = λ told. tt;
    withheld = λ told. tt;
    still = λ none. absurd (let no : Some task.output ≡ None = none 1 (record { input = None; output = None }) (omega arith) in cc);
    folder_told = folder;
    stream_told = stream;
  }

  -- each name but the output's holds what it held
  abbrev pub IsElsewhere : Type 0
  IsElsewhere = (name : List ℕ) → name ≢ task.output → after.folder.held name ≡ before.folder.held name

  elsewhere : (output : Output) → output.name ≡ task.output → IsElsewhere → (name : List ℕ) → All (λ (o : Output). o.name ≢ name) (output ∷ []) → after.folder.held name ≡ before.folder.held name
  elsewhere output named others name none = others name (λ e. none 0 output (omega arith) (named ∙ sym e))

  unmade_elsewhere : IsElsewhere → (name : List ℕ) → All (λ (stage : Stage). stage.output ≢ Some name) (capture_stages task) → after.folder.held name ≡ before.folder.held name
  unmade_elsewhere others name none = others name (λ e. none 1 (record { input = None; output = None }) (omega arith) (ap Some (sym e)))

  module _ (text octets : List ℕ) (leads : Leads task before.folder.held text octets) where
    abbrev output : Output
    output = record { name = task.output; octets = Some leads.all }

    begun_of : IsBegun output before.folder.held after.folder.held → All (λ o. IsBegun o before.folder.held after.folder.held) (output ∷ [])
    begun_of is = All-cons (λ o. IsBegun o before.folder.held after.folder.held) output [] is (All-nil (λ o. IsBegun o before.folder.held after.folder.held))

    left_of_begun : IsBegun output before.folder.held after.folder.held → IsElsewhere → HasLeft says before after (capture_stages task)
    left_of_begun is others = record { outputs = output ∷ []; are = (leads.outcome, leads.is, leads.outputs); begun = begun_of is; others = elsewhere output refl others; unmade = unmade_elsewhere others }

    -- the output holds a beginning of these octets
    pub has_left : (sent rest : List ℕ) → after.folder.held task.output ≡ Some sent → sent ++ rest ≡ octets → IsElsewhere → HasLeft says before after (capture_stages task)
    has_left sent rest here whole others =
        let all : sent ++ (rest ++ leads.more) ≡ leads.all = sym (append_assoc sent rest leads.more) ∙ ap (λ t. t ++ leads.more) whole ∙ sym leads.splits in
        let front : take (length sent) leads.all ≡ sent = ap (take (length sent)) (sym all) ∙ take_at sent (rest ++ leads.more) (length sent) refl in
        left_of_begun (inr (leads.all, length sent, refl, here ∙ ap Some (sym front))) others

    -- or what it held
    pub has_nothing : after.folder.held task.output ≡ before.folder.held task.output → IsElsewhere → HasLeft says before after (capture_stages task)
    has_nothing same others = left_of_begun (inl same) others

    -- or all
    pub has_made : after.folder.held task.output ≡ Some leads.all → IsElsewhere → HasMade says before after (capture_stages task)
    unfolding has_left left_of_begun
    has_made here others =
        let front : take (length leads.all) leads.all ≡ leads.all = ap (take (length leads.all)) (sym (append-nil leads.all)) ∙ take_at leads.all [] (length leads.all) refl in
        record {
          left = left_of_begun (inr (leads.all, length leads.all, refl, here ∙ ap Some (sym front))) others;
          made = All-cons (λ o. IsMade o before.folder.held after.folder.held) output []
              (λ octets' is. here ∙ is, λ none. absurd (let no : Some leads.all ≡ None = none in cc))
              (All-nil (λ o. IsMade o before.folder.held after.folder.held));
        }

    pub begins : Begins says before.folder.held text
    begins = record { report = leads.outcome.report; has = (leads.outcome, leads.is, refl); rest = leads.rest; body = leads.body }

    pub pauses : ((a b : Outcome) → IsOutcome task before.folder.held a → IsOutcome task before.folder.held b → a ≡ b) → (report : Report) → says.report before.folder.held [] report → Contains report.pauses text
    pauses once report has =
        let same : leads.outcome.report ≡ report = ap (λ (o : Outcome). o.report) (once leads.outcome has.0 leads.is has.1) ∙ has.2 in
        subst (λ (r : Report). Contains r.pauses text) same leads.pauses

  -- ---- something is refused

  -- this text may stand before a call of the folder
  abbrev MayPause : List ℕ → Type 0
  MayPause text = IsTrue before.folder.tells → (report : Report) → says.report before.folder.held [] report → Contains report.pauses text

  module _ (stages : List Stage) (keeps : Keeps says before after stages) (text : List ℕ) (begun : IsTrue before.folder.tells → Begins says before.folder.held text)
      (left : IsTrue before.folder.tells → HasLeft says before after stages) where
    has_form : asked task ≡ None → ⊥
    has_form none = absurd cc

    abbrev Ended : ℕ → Type 0
    Ended status = CallEnds border_says (asked task) before after status []

    -- where a read or a making has failed, nothing was printed, or something may be
    abbrev IsQuiet : ℕ → Type 0
    IsQuiet status = IsTrue before.stream.tells → status ≡ 3 → FailedAfterText says [] stages before after ⊎ (after.stream.written ≡ before.stream.written)

    refused : (status : ℕ) → HasCause says before after stages status → (IsTrue before.folder.tells → PrintsSome says before after stages status) → IsQuiet status → Ended status
    refused status cause prints quiet = ends_refused border_says (asked task) before after stages status keeps left (λ none. absurd (has_form none)) cause (λ known. prints (known tt)) quiet

    part : (told : IsTrue before.folder.tells) → WritesPrefix text before.stream.written after.stream.written → IsPart says before after
    part told prefix =
        let b = begun told in
        begun_part border_says (asked task) before after stages text b (record {
          count = prefix.count;
          within = omega (arith, prefix.within, length-append text (b.rest ++ b.report.last));
          written = prefix.written ∙ ap (λ t. before.stream.written ++ t) (sym (take-append-le prefix.count text (b.rest ++ b.report.last) prefix.within));
        })

    -- no read and no making has failed, unless one that text may precede
    abbrev FailsLate : Type 0
    FailsLate = NoInputFailed before after ⊎ FailedAfterText says [] stages before after

    -- memory ran out
    pub short : SameCounts before.folder.appends after.folder.appends → after.stream.faults ≡ before.stream.faults → FailsLate
        → (IsTrue before.stream.tells → WritesPrefix text before.stream.written after.stream.written) → Ended 6
    short appends writes inputs prefix = refused 6 (record {
      refused = inr (inr refl);
      read_fault = λ e. absurd (omega (arith, e));
      write_fault = λ e. absurd (omega (arith, e));
      memory = λ e. (record { writes = writes; appends = appends }, inputs);
    }) (λ told. record {
      part = λ out. part told (prefix out);
      pause = λ out e. absurd (omega (arith, e));
      stop = λ e. absurd (omega (arith, e));
    }) (λ out e. absurd (omega (arith, e)))

    -- a write has failed, and no append
    pub unwritten : SameCounts before.folder.appends after.folder.appends → FailsLate → Rose before.stream.faults after.stream.faults → Breaks text before.stream after.stream → Ended 4
    unwritten appends inputs rose breaks = refused 4 (record {
      refused = inr (inl refl);
      read_fault = λ e. absurd (omega (arith, e));
      write_fault = λ e. (inl (appends, rose), inputs);
      memory = λ e. absurd (omega (arith, e));
    }) (λ told.
        let b = begun told in
        record {
          part = λ out. (let less = breaks.written out in part told (record { count = less.count; within = omega (arith, less.within); written = less.written }));
          pause = λ out e. absurd (omega (arith, e));
          stop = λ e. inl (record {
            appends = appends;
            report = b.report;
            has = b.has;
            some = omega (arith, breaks.some, ap length b.body, length-append text b.rest);
            part = λ out. subst (λ (t : List ℕ). WritesLess t before.stream.written after.stream.written) (sym b.body) (less_of_a_text_is_less_of_more text b.rest before.stream.written after.stream.written (breaks.written out));
          });
        }) (λ out e. absurd (omega (arith, e)))

    -- an append has failed
    pub unappended : AppendRose stages before after → NoInputFailed before after → MayPause text → (IsTrue before.stream.tells → WritesPrefix text before.stream.written after.stream.written) → Ended 4
    unappended rose inputs may_pause prefix = refused 4 (record {
      refused = inr (inl refl);
      read_fault = λ e. absurd (omega (arith, e));
      write_fault = λ e. (inr rose, inl inputs);
      memory = λ e. absurd (omega (arith, e));
    }) (λ told. record {
      part = λ out. part told (prefix out);
      pause = λ out e. absurd (omega (arith, e));
      stop = λ e. inr (record { rose = rose; text = text; pauses = may_pause told; part = prefix });
    }) (λ out e. absurd (omega (arith, e)))

    -- a read has failed, or the making of the output
    pub unread : SameCounts before.folder.appends after.folder.appends → after.stream.faults ≡ before.stream.faults → (ReadRose stages before after ⊎ CreateRose stages before after)
        → MayPause text → (IsTrue before.stream.tells → IsWritten text before after) → FailedAfterText says [] stages before after ⊎ (text ≡ []) → Ended 3
    unread appends writes rose may_pause written quiet = refused 3 (record {
      refused = inl refl;
      read_fault = λ e. (record { writes = writes; appends = appends }, rose);
      write_fault = λ e. absurd (omega (arith, e));
      memory = λ e. absurd (omega (arith, e));
    }) (λ told. record {
      part = λ out. part told (a_whole_prefix (written out));
      pause = λ out e. (text, written out, may_pause told);
      stop = λ e. absurd (omega (arith, e));
    }) (λ out e. elim quiet [
      | inl failed ↦ inl failed
      | inr none ↦ inr (written out ∙ ap (λ t. before.stream.written ++ t) none ∙ append-nil before.stream.written)
    ])
      where
        a_whole_prefix : IsWritten text before after → WritesPrefix text before.stream.written after.stream.written
        a_whole_prefix is = record { count = length text; within = omega arith; written = is ∙ ap (λ t. before.stream.written ++ t) (sym (take_all (length text) text (omega arith))) }

  -- ---- something is refused while the input is read

  module _ (keeps : Keeps says before after (capture_stages task)) (text : List ℕ) (begun : IsTrue before.folder.tells → Begins says before.folder.held text)
      (left : IsTrue before.folder.tells → HasLeft says before after (capture_stages task)) where
    -- a write was refused while the body was printed
    pub ends_at_write : (fault : IoFault) → SameCounts before.folder.appends after.folder.appends → NoInputFailed before after
        → (fault ≡ Failed → Rose before.stream.faults after.stream.faults) → ((fault ≡ Failed → ⊥) → after.stream.faults ≡ before.stream.faults) → Breaks text before.stream after.stream
        → CallEnds border_says (asked task) before after (status_number (write_status fault)) []
    ends_at_write Failed appends inputs rose still breaks = unwritten (capture_stages task) keeps text begun left appends (inl inputs) (rose refl) breaks
    ends_at_write IoOutOfMemory appends inputs rose still breaks =
        short (capture_stages task) keeps text begun left appends (still (λ e. absurd cc)) (inl inputs)
        (λ out. let less = breaks.written out in record { count = less.count; within = omega (arith, less.within); written = less.written })

    -- an append was refused
    pub ends_at_append : (fault : IoFault) → NoInputFailed before after
        → (fault ≡ Failed → Rose (before.folder.appends task.output) (after.folder.appends task.output)) → ((fault ≡ Failed → ⊥) → SameCounts before.folder.appends after.folder.appends)
        → after.stream.faults ≡ before.stream.faults → MayPause text → (IsTrue before.stream.tells → WritesPrefix text before.stream.written after.stream.written)
        → CallEnds border_says (asked task) before after (status_number (write_status fault)) []
    ends_at_append Failed inputs rose still writes may_pause prefix =
        unappended (capture_stages task) keeps text begun left (record { name = task.output; in_hand = refl; rose = rose refl }) inputs may_pause prefix
    ends_at_append IoOutOfMemory inputs rose still writes may_pause prefix =
        short (capture_stages task) keeps text begun left (still (λ e. absurd cc)) writes (inl inputs) prefix

    -- a read of the input has failed, and what waited was printed, or couldn't be
    pub ends_at_read : (status : Status) → SameCounts before.folder.appends after.folder.appends → Rose (before.folder.reads task.input) (after.folder.reads task.input)
        → MayPause text → Printed text [] ReadFault status before.stream after.stream → CallEnds border_says (asked task) before after (status_number status) []
    ends_at_read status appends rose may_pause printed =
        let ended = λ (n : ℕ). CallEnds border_says (asked task) before after n [] in
        let read : ReadRose (capture_stages task) before after = record { name = task.input; in_hand = refl; rose = rose } in
        let failed : FailedAfterText says [] (capture_stages task) before after = inl (read, (refl, refl)) in
        elim printed.how [
          | inl all ↦ subst ended (sym (ap status_number all.0))
              (unread (capture_stages task) keeps text begun left appends all.1 (inl read) may_pause (λ out. all.2 out ∙ ap (λ t. before.stream.written ++ t) (append-nil text)) (inl failed))
          | inr rest ↦ elim rest [
            | inl memory ↦ subst ended (sym (ap status_number memory.0))
                (short (capture_stages task) keeps text begun left appends memory.1 (inr failed) (λ out. subst (λ (t : List ℕ). WritesPrefix t before.stream.written after.stream.written) (append-nil text) (memory.2 out)))
            | inr broken ↦ elim broken [
              | inl body ↦ subst ended (sym (ap status_number body.0)) (unwritten (capture_stages task) keeps text begun left appends (inr failed) body.1 body.2)
              | inr line ↦ absurd (omega (arith, line.2))
            ]
          ]
        ]
