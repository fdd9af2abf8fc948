-- How a call ends that reads a script from the file which its words name: where it gets none, and where it answers it and reads nothing else, whatever its program says.
use Rattle.std.proofs.Common.{◌≡◌, ◌≢◌, ◌⊎◌, ℕ, Bool, true, false, List, [], ◌∷◌, Option, Some, None, Result, Ok, Err, refl, sym, ap, subst, ◌∙◌, arith, inl, inr}
use Rattle.std.specs.Prelude.{IsTrue, Contains}
use Rattle.std.proofs.lemmas.List.{append-nil}
use Rattle.net_io.specs.Depot.{DepotState, SameHeld}
use Rattle.net_io.specs.Faults.{SameCounts}
use Rattle.net_io.specs.Sink.{SinkState}
use Rattle.label_commands.specs.declared.script.Script.{Script}
use Rattle.label_commands.specs.declared.stop.ScriptStop.{ScriptStop}
use Rattle.label_commands.specs.declared.stop.ScriptStop.TheVariants as stop
use Rattle.call_report.specs.Lines.Script.{script_stop_line}
use Rattle.call_report.specs.declared.status.Status.{Status}
use Rattle.call_report.specs.declared.status.Status.TheVariants.{WrongScript, Limit}
use Rattle.call_report.specs.Status.{status_number}
use Rattle.call_report.specs.Report.{Folder, Report, late_report}
use Rattle.call_report.specs.Says.{Says}
use Rattle.call_report.specs.Stages.{reading_stage}
use Rattle.call_report.specs.Outside.{Outside, IsOnlyRead}
use Rattle.call_report.specs.Printing.{Printed}
use Rattle.call_report.specs.CallEnds.{CallEnds}
use Rattle.call_report.proofs.Law.{Knows, IsDue, asks, ends_printed, ends_with_nothing, ends_unread, ends_unprinted, knows_file}
use Rattle.call_report.specs.script_input.ScriptFile.{script_read, ByAnswer, ByScript, script_stop_status, ScriptReport, ScriptStatus, script_says}
use Rattle.call_report.specs.script_input.Ends.{HasScript, HasNoScript, refused, unread, without_memory, IsScriptEnd, script_due}
use Rattle.call_report.specs.script_input.Answer.{IsAnswered, answered}
use Rattle.call_report.specs.script_input.Answer as answer

-- what is said of a file that holds this text, by what is read of it
pub in_file : (file : List ℕ) (held : Option (List ℕ)) (text : List ℕ) (read_of : Result Script ScriptStop) → held ≡ Some text → script_read file text ≡ read_of
    → (absent : Type 0) (refuses : ScriptStop → Type 0) (read : Script → Type 0) → ByAnswer read_of refuses read → ByScript file held absent refuses read
in_file file held text read_of holds is absent refuses read has =
    subst (λ (o : Option (List ℕ)). ByScript file o absent refuses read) (sym holds) (subst (λ (r : Result Script ScriptStop). ByAnswer r refuses read) (sym is) has)

-- what a folder tells, or some content in which each file is this text
pub content_of : Bool → Folder → List ℕ → Folder
content_of true held text = held
content_of false held text = λ name. Some text

pub content_holds : (tells : Bool) (held : Folder) (text file : List ℕ) → (IsTrue tells → held file ≡ Some text) → content_of tells held text file ≡ Some text
unfolding content_of
content_holds true held text file holds = holds refl
content_holds false held text file holds = refl

pub content_told : (tells : Bool) (held : Folder) (text : List ℕ) → IsTrue tells → SameHeld held (content_of tells held text)
unfolding content_of
content_told true held text told = λ name. refl
content_told false held text told = absurd (let no : false ≡ true = told in cc)

-- what is due where a text is no script
pub record IsRefused (says : Says) (held : Folder) (why : ScriptStop) : Type 0 where
  pub status : says.status held (script_stop_status why)
  pub report : says.report held [] (late_report [] (script_stop_line why))
  pub whole : says.whole held []

-- What a program says of the file that it reads a script from: what is printed depends on it; what is due where it is none; and nothing is printed before it is read.
pub record ReadsScript (says : Says) (file : List ℕ) : Type 0 where
  pub depends : says.reads
  pub knows : (before after : Outside) → IsOnlyRead before.folder after.folder → after.stream.tells ≡ before.stream.tells → Knows says before after (reading_stage file ∷ [])
  pub refused : (held : Folder) (text : List ℕ) (why : ScriptStop) → held file ≡ Some text → script_read file text ≡ Err why → IsRefused says held why
  pub may : (text : List ℕ) (why : ScriptStop) → script_read file text ≡ Err why → says.possible (script_stop_status why)
  pub pauses : (held : Folder) (report : Report) → says.report held [] report → Contains report.pauses []

-- ---- there is no script

module _ {C : Type 0} (says_of : Option C → Says) (request : Option C) (file : List ℕ) (form : request ≢ None) (reads : ReadsScript (says_of request) file) (before after : Outside) where
  abbrev says : Says
  says = says_of request

  refused_by : (text : List ℕ) (why : ScriptStop) (due : Status) (status : Status) → Knows says before after (reading_stage file ∷ [])
      → (IsTrue before.folder.tells → before.folder.held file ≡ Some text) → script_read file text ≡ Err why
      → status_number due ≡ script_stop_status why → (status_number due ≢ 3) × (status_number due ≢ 4) × (status_number due ≢ 6)
      → (status_number due ≢ 1) × (status_number due ≢ 0) × (status_number due ≢ 8)
      → SameCounts before.folder.reads after.folder.reads → Printed [] (script_stop_line why) due status before.stream after.stream → CallEnds says_of request before after (status_number status) []
  refused_by text why due status known holds read is event other counts printed =
      ends_printed says_of request before after (reading_stage file ∷ []) known due [] (script_stop_line why)
      (asks request (status_number due) [] form other.0)
      (record {
        event = event;
        has = λ told. subst (says.status before.folder.held) (sym is) (reads.refused before.folder.held text why (holds told) read).status;
        may = subst says.possible (sym is) (reads.may text why read);
        parts = λ known. record { report = late_report [] (script_stop_line why); has = (reads.refused before.folder.held text why (holds (known reads.depends)) read).report; body = refl; last = refl };
        last = λ done. elim done [ inl zero ↦ absurd (other.1 zero) | inr eight ↦ absurd (other.2 eight) ];
        whole = λ told. (reads.refused before.folder.held text why (holds told) read).whole;
      })
      status counts printed

  by_stop : (text : List ℕ) (why : ScriptStop) (status : Status) → Knows says before after (reading_stage file ∷ [])
      → (IsTrue before.folder.tells → before.folder.held file ≡ Some text) → script_read file text ≡ Err why
      → SameCounts before.folder.reads after.folder.reads → Printed [] (script_stop_line why) (script_due why) status before.stream after.stream → CallEnds says_of request before after (status_number status) []
  by_stop text (stop.Fault fault) status known holds read counts printed =
      refused_by text (stop.Fault fault) WrongScript status known holds read refl (λ e. omega (arith, e), λ e. omega (arith, e), λ e. omega (arith, e)) (λ e. omega (arith, e), λ e. omega (arith, e), λ e. omega (arith, e)) counts printed
  by_stop text (stop.Limit what number) status known holds read counts printed =
      refused_by text (stop.Limit what number) Limit status known holds read refl (λ e. omega (arith, e), λ e. omega (arith, e), λ e. omega (arith, e)) (λ e. omega (arith, e), λ e. omega (arith, e), λ e. omega (arith, e)) counts printed
  by_stop text stop.OutOfMemory status known holds read counts printed = ends_with_nothing says_of request before after (reading_stage file ∷ []) known status counts printed

  by_cause : (status : Status) → Knows says before after (reading_stage file ∷ []) → HasNoScript file before after status → CallEnds says_of request before after (status_number status) []
  by_cause status known (refused text why holds read counts printed) = by_stop text why status known holds read counts printed
  by_cause status known (unread is rose same) =
      subst (λ (n : ℕ). CallEnds says_of request before after n []) (sym (ap status_number is))
      (ends_unread says_of request before after (reading_stage file ∷ []) known [] form (record { name = file; in_hand = refl; rose = rose }) (ap (λ (s : SinkState). s.faults) same)
      (λ out. ap (λ (s : SinkState). s.written) same ∙ sym (append-nil before.stream.written)) (λ known. inl refl)
      (λ known report has. reads.pauses before.folder.held report has) (inr refl))
  by_cause status known (without_memory counts printed) = ends_with_nothing says_of request before after (reading_stage file ∷ []) known status counts printed

  -- a call ends so that reads a script and gets none
  pub ends_without_script : (status : Status) → IsScriptEnd file before after status → CallEnds says_of request before after (status_number status) []
  ends_without_script status ended = by_cause status (reads.knows before after ended.reads ended.told) ended.why

-- ---- the script is answered, and nothing else is read

-- What is so of each answer: its status is no refusal's and not that of words in no form, with 0 and with 8 there is no line of an event, and nothing is printed before the script is known to be right.
pub record IsAnswering (answers : Script → ℕ → Report → Type 0) : Type 0 where
  pub other : (script : Script) (status : ℕ) (report : Report) → answers script status report → (status ≢ 1) × (status ≢ 3) × (status ≢ 4) × (status ≢ 6)
  pub no_line : (script : Script) (status : ℕ) (report : Report) → answers script status report → (status ≡ 0) ⊎ (status ≡ 8) → report.last ≡ []
  pub late : (script : Script) (status : ℕ) (report : Report) → answers script status report → report.pauses ≡ [] ∷ []

module _ (answers : Script → ℕ → Report → Type 0) (file : List ℕ) (is_answering : IsAnswering answers) where
  has_status : (held : Option (List ℕ)) (text : List ℕ) (read : Result Script ScriptStop) (status : ℕ) → held ≡ Some text → script_read file text ≡ read
      → ByAnswer read (λ stop. status ≡ script_stop_status stop) (λ script. (report : Report) × answers script status report) → ScriptStatus answers file held status
  has_status held text read status holds is has =
      in_file file held text read holds is ⊥ (λ stop. status ≡ script_stop_status stop) (λ script. (report : Report) × answers script status report) has

  has_report : (held : Option (List ℕ)) (text : List ℕ) (read : Result Script ScriptStop) (report : Report) → held ≡ Some text → script_read file text ≡ read
      → ByAnswer read (λ stop. report ≡ late_report [] (script_stop_line stop)) (λ script. (status : ℕ) × answers script status report) → ScriptReport answers file held report
  has_report held text read report holds is has =
      in_file file held text read holds is (report ≡ late_report [] []) (λ stop. report ≡ late_report [] (script_stop_line stop))
      (λ script. (status : ℕ) × answers script status report) has

  read_pauses : (read : Result Script ScriptStop) (report : Report)
      → ByAnswer read (λ stop. report ≡ late_report [] (script_stop_line stop)) (λ script. (status : ℕ) × answers script status report) → report.pauses ≡ [] ∷ []
  read_pauses (Err why) report has = ap (λ (r : Report). r.pauses) has
  read_pauses (Ok script) report has = is_answering.late script has.0 report has.1

  script_pauses : (held : Option (List ℕ)) (report : Report) → ScriptReport answers file held report → report.pauses ≡ [] ∷ []
  script_pauses None report has = ap (λ (r : Report). r.pauses) has
  script_pauses (Some text) report has = read_pauses (script_read file text) report has

  -- such a program reads a script
  pub answers_read : ReadsScript (script_says answers file) file
  answers_read = record {
    depends = tt;
    knows = λ before after reads told. knows_file file (ScriptReport answers file) (ScriptStatus answers file) ⊥ before after reads told;
    refused = λ held text why holds is. record {
      status = has_status (held file) text (Err why) (script_stop_status why) holds is refl;
      report = has_report (held file) text (Err why) (late_report [] (script_stop_line why)) holds is refl;
      whole = refl;
    };
    may = λ text why is. (λ name. Some text, has_status (Some text) text (Err why) (script_stop_status why) refl is refl);
    pauses = λ held report has. subst (λ (pauses : List (List ℕ)). Contains pauses []) (sym (script_pauses (held file) report has)) (0, omega arith, refl);
  }

  -- what is due of an answer
  answer_due : (before : Outside) (text : List ℕ) (script : Script) (number : ℕ) (body last : List ℕ) → (IsTrue before.folder.tells → before.folder.held file ≡ Some text) → script_read file text ≡ Ok script
      → answers script number (late_report body last) → IsDue (script_says answers file) before number body last
  answer_due before text script number body last holds is has =
      let other = is_answering.other script number (late_report body last) has in
      record {
        event = (other.1, other.2, other.3);
        has = λ told. has_status (before.folder.held file) text (Ok script) number (holds told) is (late_report body last, has);
        may = (λ name. Some text, has_status (Some text) text (Ok script) number refl is (late_report body last, has));
        parts = λ known. record { report = late_report body last; has = has_report (before.folder.held file) text (Ok script) (late_report body last) (holds (known tt)) is (number, has); body = refl; last = refl };
        last = is_answering.no_line script number (late_report body last) has;
        whole = λ told. refl;
      }

-- nothing was printed and no file was looked at in front of the answer
has_script_at : (file : List ℕ) (before mid after : Outside) (script : Script) → HasScript file before mid script → after.folder ≡ mid.folder → IsOnlyRead before.folder after.folder
has_script_at file before mid after script has same = subst (λ (d : DepotState). IsOnlyRead before.folder d) (sym same) has.reads

module _ {C : Type 0} (says_of : Option C → Says) (request : Option C) (answers : Script → ℕ → Report → Type 0) (file : List ℕ) (form : request ≢ None)
    (by : (P : Says → Type 0) → P (script_says answers file) → P (says_of request)) (is_answering : IsAnswering answers) (before after : Outside) (script : Script) where
  knows_script : (text : List ℕ) → IsOnlyRead before.folder after.folder → after.stream.tells ≡ before.stream.tells → Knows (says_of request) before after (reading_stage file ∷ [])
  knows_script text reads told = by (λ says. Knows says before after (reading_stage file ∷ [])) ((answers_read answers file is_answering).knows before after reads told)

  by_answer : (text : List ℕ) (status : Status) → (IsTrue before.folder.tells → before.folder.held file ≡ Some text) → script_read file text ≡ Ok script → IsOnlyRead before.folder after.folder
      → SameCounts before.folder.reads after.folder.reads → IsAnswered (answers script) before.stream after.stream status → CallEnds says_of request before after (status_number status) []
  by_answer text status holds is reads counts (answer.without_memory same) =
      ends_unprinted says_of request before after (reading_stage file ∷ []) (knows_script text reads (ap (λ (s : SinkState). s.tells) same)) counts same
  by_answer text status holds is reads counts (answered due s body last has printed) =
      ends_printed says_of request before after (reading_stage file ∷ []) (knows_script text reads printed.told) due body last
      (asks request (status_number due) body form (is_answering.other script (status_number due) (late_report body last) has).0)
      (by (λ says. IsDue says before (status_number due) body last) (answer_due answers file is_answering before text script (status_number due) body last holds is has))
      status counts printed

  -- a call ends so that has answered its script
  pub ends_answered : (mid : Outside) (status : Status) → HasScript file before mid script → after.folder ≡ mid.folder → IsAnswered (answers script) mid.stream after.stream status
      → CallEnds says_of request before after (status_number status) []
  ends_answered mid status has same done =
      by_answer has.text status has.holds has.is (has_script_at file before mid after script has same)
      (subst (λ (d : DepotState). SameCounts before.folder.reads d.reads) (sym same) has.counts)
      (subst (λ (s : SinkState). IsAnswered (answers script) s after.stream status) has.stream done)
