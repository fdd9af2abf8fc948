-- How a call ends that prints no versions, whatever its program says: from what it knows of the folder at its end, and what was printed.
use Rattle.std.proofs.Common.{◌≡◌, ◌≢◌, ◌<◌, ℕ, ◌+◌, List, [], ◌∷◌, ◌++◌, length, take, refl, sym, ap, subst, ◌∙◌, arith, append_assoc, inl, inr, ◌⊎◌, Option, Some, None, Result}
use Rattle.std.specs.Prelude.{IsTrue, Contains, All}
use Rattle.std.proofs.Math.Seq.{take-append-add}
use Rattle.std.proofs.lemmas.List.{append-nil, take-append-le, take_all, length-append}
use Rattle.net_io.specs.Depot.{DepotState, SameHeld, OnlyReads}
use Rattle.net_io.specs.Faults.{Rose, SameCounts}
use Rattle.net_io.specs.Sink.{SinkState, WritesPrefix, WritesLess}
use Rattle.call_report.specs.declared.status.Status.{Status}
use Rattle.call_report.specs.declared.status.Status.TheVariants.{Done, NoForm, WrongScript, ReadFault, WriteFault, WrongCapture, OutOfMemory, Limit}
use Rattle.call_report.specs.CallEnds.{CallEnds, HasBegun, EndsWith, Prints, Leaves, StopsInBody, StopsAtAppend, PrintsReport, FailedAfterText, FailsToWrite, IsWritten, IsRefusal, IsUnrefused, KnowsReport}
use Rattle.call_report.specs.Says.{Says, reading, reading_says, usage_says}
use Rattle.call_report.specs.Report.{Folder, Report, report_text, late_report}
use Rattle.call_report.specs.Stages.{Stage, reading_stage}
use Rattle.call_report.specs.Output.{Output, IsBegun, IsMade}
use Rattle.call_report.specs.Outside.{Outside, IsOnlyRead, ReadRose, CreateRose, NoneFailed, NoFileFailed, NoInputFailed, NoWriteFailed}
use Rattle.call_report.specs.Status.{status_number}
use Rattle.call_report.specs.Printing.{Printed, EndsInLine, Breaks}
use Rattle.call_report.proofs.Beginnings.{a_whole_text_is_a_front, a_part_of_a_text_is_a_front, less_of_a_text_is_less_of_more}

-- ---- what such a call knows

-- An output holds what was made of it, if only some first octets, and each other name what it held.
pub record HasLeft (says : Says) (before after : Outside) (stages : List Stage) : Type 0 where
  pub outputs : List Output
  pub are : says.outputs before.folder.held [] outputs
  pub begun : All (λ output. IsBegun output before.folder.held after.folder.held) outputs
  pub others : (name : List ℕ) → All (λ output. output.name ≢ name) outputs → after.folder.held name ≡ before.folder.held name
  pub unmade : (name : List ℕ) → All (λ stage. stage.output ≢ Some name) stages → after.folder.held name ≡ before.folder.held name

-- All that is to be made was made, and each other name holds what it held.
pub record HasMade (says : Says) (before after : Outside) (stages : List Stage) : Type 0 where
  pub left : HasLeft says before after stages
  pub made : All (λ output. IsMade output before.folder.held after.folder.held) left.outputs

-- What holds however such a call ends: what it has begun, and what is so of all that it may have printed.
pub record Keeps (says : Says) (before after : Outside) (stages : List Stage) : Type 0 where
  pub begun : HasBegun says before.folder [] stages
  pub lawful : IsTrue before.folder.tells → says.lawful before.folder.held []
  pub access : IsTrue before.folder.tells → says.access before.folder.held []
  pub withheld : IsTrue before.folder.tells → says.withheld before.folder.held []
  pub still : All (λ stage. stage.output ≡ None) stages → SameCounts before.folder.creates after.folder.creates × SameCounts before.folder.appends after.folder.appends
  pub folder_told : after.folder.tells ≡ before.folder.tells
  pub stream_told : after.stream.tells ≡ before.stream.tells

-- And where no making and no append has failed, and all that is to be made was made.
pub record Knows (says : Says) (before after : Outside) (stages : List Stage) : Type 0 where
  pub keeps : Keeps says before after stages
  pub made : IsTrue before.folder.tells → HasMade says before after stages
  pub creates : SameCounts before.folder.creates after.folder.creates
  pub appends : SameCounts before.folder.appends after.folder.appends

-- a body begins so
pub record Begins (says : Says) (held : Folder) (text : List ℕ) : Type 0 where
  pub report : Report
  pub has : says.report held [] report
  pub rest : List ℕ
  pub body : report.body ≡ text ++ rest

-- the report has this body and this last line
pub record HasParts (says : Says) (held : Folder) (text line : List ℕ) : Type 0 where
  pub report : Report
  pub has : says.report held [] report
  pub body : report.body ≡ text
  pub last : report.last ≡ line

-- What it knows of the status that is due: that it is no refusal's, and the body and the last line of its report.
pub record IsDue (says : Says) (before : Outside) (number : ℕ) (text line : List ℕ) : Type 0 where
  pub event : (number ≢ 3) × (number ≢ 4) × (number ≢ 6)
  pub has : IsTrue before.folder.tells → says.status before.folder.held number
  pub may : says.possible number
  pub parts : KnowsReport says before.folder → HasParts says before.folder.held text line
  pub last : (number ≡ 0) ⊎ (number ≡ 8) → line ≡ []
  pub whole : IsTrue before.folder.tells → says.whole before.folder.held []

-- Status 1 is due exactly where the words are no form, and then no body is.
pub record IsOfForm {C : Type 0} (request : Option C) (number : ℕ) (text : List ℕ) : Type 0 where
  pub form : number ≡ 1 → request ≡ None
  pub usage : request ≡ None → (number ≡ 1) × (text ≡ [])

pub asks : {C : Type 0} (request : Option C) (number : ℕ) (text : List ℕ) → request ≢ None → number ≢ 1 → IsOfForm request number text
asks request number text form other = record { form = λ e. absurd (other e); usage = λ e. absurd (form e) }

-- no status has the number 8, so that a program may give it one of its own
pub never_8 : (status : Status) → status_number status ≢ 8
never_8 Done e = omega (arith, e)
never_8 NoForm e = omega (arith, e)
never_8 WrongScript e = omega (arith, e)
never_8 ReadFault e = omega (arith, e)
never_8 WriteFault e = omega (arith, e)
never_8 WrongCapture e = omega (arith, e)
never_8 OutOfMemory e = omega (arith, e)
never_8 Limit e = omega (arith, e)

-- so a line that isn't there with 0 isn't there with 0 or 8
pub none_when_done : (status : Status) (line : List ℕ) → (status_number status ≡ 0 → line ≡ []) → (status_number status ≡ 0) ⊎ (status_number status ≡ 8) → line ≡ []
none_when_done status line none done = elim done [ inl zero ↦ none zero | inr eight ↦ absurd (never_8 status eight) ]

-- The number that a call ends with which was to end so: that of the status which its report's end tells, but another for the one that was due.
pub record IsNumberOf (due status : Status) (number answer : ℕ) : Type 0 where
  pub event : status ≡ due → answer ≡ number
  pub write : status ≡ WriteFault → answer ≡ 4
  pub memory : status ≡ OutOfMemory → answer ≡ 6

pub own_number : (due status : Status) → IsNumberOf due status (status_number due) (status_number status)
own_number due status = record { event = ap status_number; write = ap status_number; memory = ap status_number }

-- Why something was refused: with 3 a read or making of the stage in hand has failed, and no write and no append; with 4 a write or an append; with 6 memory ran out.
pub record HasCause (says : Says) (before after : Outside) (stages : List Stage) (status : ℕ) : Type 0 where
  pub refused : IsRefusal status
  pub read_fault : status ≡ 3 → NoWriteFailed before after × (ReadRose stages before after ⊎ CreateRose stages before after)
  pub write_fault : status ≡ 4 → FailsToWrite stages before after × (NoInputFailed before after ⊎ FailedAfterText says [] stages before after)
  pub memory : status ≡ 6 → NoWriteFailed before after × (NoInputFailed before after ⊎ FailedAfterText says [] stages before after)

-- nothing, or some first octets of the report
abbrev pub IsPart : Says → Outside → Outside → Type 0
IsPart says before after = IsWritten [] before after ⊎ ((report : Report) × says.report before.folder.held [] report × WritesPrefix (report_text report) before.stream.written after.stream.written)

-- What was printed where something was refused.
pub record PrintsSome (says : Says) (before after : Outside) (stages : List Stage) (status : ℕ) : Type 0 where
  pub part : IsTrue before.stream.tells → IsPart says before after
  pub pause : IsTrue before.stream.tells → status ≡ 3
      → (text : List ℕ) × IsWritten text before after × ((report : Report) → says.report before.folder.held [] report → Contains report.pauses text)
  pub stop : status ≡ 4 → StopsInBody says before after [] ⊎ StopsAtAppend says before after [] stages

-- ---- a body, and a line behind it

-- all of a body and of its line some first octets are some first octets of both
pub front_behind : (body line old new : List ℕ) → WritesPrefix line (old ++ body) new → WritesPrefix (body ++ line) old new
front_behind body line old new part = record {
  count = length body + part.count;
  within = omega (arith, part.within, length-append body line);
  written = part.written ∙ append_assoc old body (take part.count line) ∙ ap (λ t. old ++ t) (sym (take-append-add body line part.count));
}

whole_line : (body line old new : List ℕ) → new ≡ old ++ (body ++ line) → WritesPrefix line (old ++ body) new
whole_line body line old new all = record {
  count = length line;
  within = omega arith;
  written = all ∙ sym (append_assoc old body line) ∙ ap (λ t. (old ++ body) ++ t) (sym (take_all (length line) line (omega arith)));
}

pub part_of_line : (body line old new : List ℕ) → EndsInLine body line old new → WritesPrefix line (old ++ body) new
part_of_line body line old new ends = record { count = ends.count; within = omega (arith, ends.within); written = ends.written ∙ sym (append_assoc old body (take ends.count line)) }

-- the text of a report that begins so
text_begins : (says : Says) (held : Folder) (text : List ℕ) (b : Begins says held text) → report_text b.report ≡ text ++ (b.rest ++ b.report.last)
text_begins says held text b = ap (λ x. x ++ b.report.last) b.body ∙ append_assoc text b.rest b.report.last

parts_begin : (says : Says) (held : Folder) (body last : List ℕ) → HasParts says held body last → Begins says held body
parts_begin says held body last p = record { report = p.report; has = p.has; rest = []; body = p.body ∙ sym (append-nil body) }

parts_text : (says : Says) (held : Folder) (body last : List ℕ) (p : HasParts says held body last) → report_text p.report ≡ body ++ last
parts_text says held body last p = ap (λ x. x ++ p.report.last) p.body ∙ ap (λ x. body ++ x) p.last

-- a status that is a refusal's is no other
no_other : (status : ℕ) → IsRefusal status → (number : ℕ) → (number ≢ 3) × (number ≢ 4) × (number ≢ 6) → status ≡ number → ⊥
no_other status refused number other is = elim refused [
  | inl three ↦ other.0 (sym is ∙ three)
  | inr rest ↦ elim rest [ inl four ↦ other.1 (sym is ∙ four) | inr six ↦ other.2 (sym is ∙ six) ]
]

module _ {C : Type 0} (says_of : Option C → Says) (request : Option C) (before after : Outside) (stages : List Stage) where
  abbrev says : Says
  says = says_of request

  -- what is known of the report
  abbrev KnowsIt : Type 0
  KnowsIt = KnowsReport says before.folder

  -- nothing stands in front of the call that failed, or something may
  abbrev IsSilent : ℕ → Type 0
  IsSilent status = IsTrue before.stream.tells → status ≡ 3 → FailedAfterText says [] stages before after ⊎ (after.stream.written ≡ before.stream.written)

  ends : (status : ℕ) → Keeps says before after stages → EndsWith says request before after status [] stages → (KnowsIt → Prints says before after status [] stages)
      → (IsTrue before.folder.tells → Leaves says before after status [] stages)
      → IsSilent status
      → (IsTrue before.folder.tells → IsUnrefused status → says.whole before.folder.held []) → CallEnds says_of request before after status []
  ends status keeps with_status prints leaves silent whole = record {
    stages = stages;
    begun = keeps.begun;
    ends = with_status;
    prints = prints;
    leaves = leaves;
    lawful = keeps.lawful;
    whole = whole;
    access = keeps.access;
    withheld = keeps.withheld;
    silent = silent;
    still = keeps.still;
    folder_told = keeps.folder_told;
    stream_told = keeps.stream_told;
  }

  -- Something was refused. Memory alone may be, where the words are no form.
  pub ends_refused : (status : ℕ) → Keeps says before after stages → (IsTrue before.folder.tells → HasLeft says before after stages) → (request ≡ None → status ≡ 6)
      → HasCause says before after stages status → (KnowsIt → PrintsSome says before after stages status)
      → IsSilent status → CallEnds says_of request before after status []
  ends_refused status keeps left form cause prints silent = ends status keeps (record {
    due = λ told. inr cause.refused;
    possible = inr cause.refused;
    no_form = λ e. absurd (no_other status cause.refused 1 (λ e. omega (arith, e), λ e. omega (arith, e), λ e. omega (arith, e)) e);
    usage = λ none. inr (form none);
    read_fault = cause.read_fault;
    write_fault = cause.write_fault;
    memory = cause.memory;
    decided = λ unrefused. absurd (unrefused cause.refused);
    unmoved = λ done. elim done [
      | inl zero ↦ absurd (no_other status cause.refused 0 (λ e. omega (arith, e), λ e. omega (arith, e), λ e. omega (arith, e)) zero)
      | inr eight ↦ absurd (no_other status cause.refused 8 (λ e. omega (arith, e), λ e. omega (arith, e), λ e. omega (arith, e)) eight)
    ];
  }) (λ told.
      let p = prints told in
      record {
        whole = λ out unrefused. absurd (unrefused cause.refused);
        part = p.part;
        pause = p.pause;
        stop = p.stop;
      }) (λ told.
      let l = left told in
      record {
        outputs = l.outputs;
        are = l.are;
        begun = l.begun;
        earlier = λ some. absurd (omega (arith, some));
        whole = λ unrefused. absurd (unrefused cause.refused);
        others = l.others;
        unmade = l.unmade;
      }) silent (λ told unrefused. absurd (unrefused cause.refused))

  -- some first octets of a text with which the report begins
  pub begun_part : (text : List ℕ) (b : Begins says before.folder.held text) → WritesPrefix (text ++ (b.rest ++ b.report.last)) before.stream.written after.stream.written → IsPart says before after
  begun_part text b prefix =
      inr (b.report, b.has, subst (λ (t : List ℕ). WritesPrefix t before.stream.written after.stream.written) (sym (text_begins says before.folder.held text b)) prefix)

  parts_part : (body last : List ℕ) → HasParts says before.folder.held body last → WritesPrefix (body ++ last) before.stream.written after.stream.written → IsPart says before after
  parts_part body last p prefix =
      inr (p.report, p.has, subst (λ (t : List ℕ). WritesPrefix t before.stream.written after.stream.written) (sym (parts_text says before.folder.held body last p)) prefix)

  -- some first octets of no text are none
  no_octets : WritesPrefix [] before.stream.written after.stream.written → IsWritten [] before after
  no_octets prefix = prefix.written ∙ ap (λ t. before.stream.written ++ t) (take_all prefix.count [] (omega arith))

  module _ (knows : Knows says before after stages) where
    has_left : IsTrue before.folder.tells → HasLeft says before after stages
    has_left told = (knows.made told).left

    -- no read has failed, or one of the input in hand that may have something in front of it
    abbrev Reads : Type 0
    Reads = SameCounts before.folder.reads after.folder.reads ⊎ ((read : ReadRose stages before after) × says.preceded [] stages (reading read.name))

    none_failed : SameCounts before.folder.reads after.folder.reads → after.stream.faults ≡ before.stream.faults → NoneFailed before after
    none_failed reads writes = record { reads = reads; creates = knows.creates; appends = knows.appends; writes = writes }

    no_file_failed : SameCounts before.folder.reads after.folder.reads → NoFileFailed before after
    no_file_failed reads = record { reads = reads; creates = knows.creates; appends = knows.appends }

    no_input : Reads → NoInputFailed before after ⊎ FailedAfterText says [] stages before after
    no_input reads = elim reads [ inl same ↦ inl (record { reads = same; creates = knows.creates }) | inr rose ↦ inr (inl rose) ]

    unwritten : after.stream.faults ≡ before.stream.faults → NoWriteFailed before after
    unwritten writes = record { writes = writes; appends = knows.appends }

    -- memory ran out, and nothing or a beginning of the report was printed
    ends_without_memory : Reads → after.stream.faults ≡ before.stream.faults → (KnowsIt → IsTrue before.stream.tells → IsPart says before after) → CallEnds says_of request before after 6 []
    ends_without_memory reads writes part = ends_refused 6 knows.keeps has_left (λ none. refl) (record {
      refused = inr (inr refl);
      read_fault = λ e. absurd (omega (arith, e));
      write_fault = λ e. absurd (omega (arith, e));
      memory = λ e. (unwritten writes, no_input reads);
    }) (λ told. record {
      part = part told;
      pause = λ out e. absurd (omega (arith, e));
      stop = λ e. absurd (omega (arith, e));
    }) (λ out e. absurd (omega (arith, e)))

    pub ends_unprinted : SameCounts before.folder.reads after.folder.reads → after.stream ≡ before.stream → CallEnds says_of request before after 6 []
    ends_unprinted reads same =
        ends_without_memory (inl reads) (ap (λ (s : SinkState). s.faults) same) (λ told out. inl (ap (λ (s : SinkState). s.written) same ∙ sym (append-nil before.stream.written)))

    -- memory ran out, and nothing was to be printed
    pub ends_with_nothing : (status : Status) → SameCounts before.folder.reads after.folder.reads → Printed [] [] OutOfMemory status before.stream after.stream
        → CallEnds says_of request before after (status_number status) []
    ends_with_nothing status reads printed =
        let ended = λ (n : ℕ). CallEnds says_of request before after n [] in
        elim printed.how [
          | inl all ↦ subst ended (sym (ap status_number all.0)) (ends_without_memory (inl reads) all.1 (λ told out. inl (all.2 out)))
          | inr rest ↦ elim rest [
            | inl memory ↦ subst ended (sym (ap status_number memory.0)) (ends_without_memory (inl reads) memory.1 (λ told out. inl (no_octets (memory.2 out))))
            | inr failed ↦ elim failed [
              | inl broken ↦ absurd (omega (arith, broken.2.some))
              | inr line ↦ absurd (omega (arith, line.2))
            ]
          ]
        ]

    -- memory ran out behind the beginning of a report
    pub ends_short : (text : List ℕ) → Reads → after.stream.faults ≡ before.stream.faults → (KnowsIt → Begins says before.folder.held text)
        → (IsTrue before.stream.tells → WritesPrefix text before.stream.written after.stream.written) → CallEnds says_of request before after 6 []
    ends_short text reads writes begins prefix = ends_without_memory reads writes (λ told out.
        let b = begins told in
        let p = prefix out in
        begun_part text b (record { count = p.count; within = omega (arith, p.within, length-append text (b.rest ++ b.report.last)); written = p.written ∙ ap (λ t. before.stream.written ++ t) (sym (take-append-le p.count text (b.rest ++ b.report.last) p.within)) }))

    -- a write has failed in the body of the report
    pub ends_unwritten : (text : List ℕ) → request ≢ None → Reads → Rose before.stream.faults after.stream.faults → Breaks text before.stream after.stream
        → (KnowsIt → Begins says before.folder.held text) → CallEnds says_of request before after 4 []
    ends_unwritten text form reads rose breaks begins = ends_refused 4 knows.keeps has_left (λ none. absurd (form none)) (record {
      refused = inr (inl refl);
      read_fault = λ e. absurd (omega (arith, e));
      write_fault = λ e. (inl (knows.appends, rose), no_input reads);
      memory = λ e. absurd (omega (arith, e));
    }) (λ told.
        let b = begins told in
        record {
          part = λ out. begun_part text b (a_part_of_a_text_is_a_front text (b.rest ++ b.report.last) before.stream.written after.stream.written (breaks.written out));
          pause = λ out e. absurd (omega (arith, e));
          stop = λ e. inl (record {
            appends = knows.appends;
            report = b.report;
            has = b.has;
            some = omega (arith, breaks.some, ap length b.body, length-append text b.rest);
            part = λ out. subst (λ (t : List ℕ). WritesLess t before.stream.written after.stream.written) (sym b.body)
                (less_of_a_text_is_less_of_more text b.rest before.stream.written after.stream.written (breaks.written out));
          });
        })
        (λ out e. absurd (omega (arith, e)))

    -- a read has failed behind the beginning of a report
    pub ends_unread : (text : List ℕ) → request ≢ None → (rose : ReadRose stages before after) → after.stream.faults ≡ before.stream.faults → (IsTrue before.stream.tells → IsWritten text before after)
        → (KnowsIt → (text ≡ []) ⊎ Begins says before.folder.held text)
        → (KnowsIt → (report : Report) → says.report before.folder.held [] report → Contains report.pauses text)
        → says.preceded [] stages (reading rose.name) ⊎ (text ≡ []) → CallEnds says_of request before after 3 []
    ends_unread text form rose writes written begins pauses silent = ends_refused 3 knows.keeps has_left (λ none. absurd (form none)) (record {
      refused = inl refl;
      read_fault = λ e. (unwritten writes, inl rose);
      write_fault = λ e. absurd (omega (arith, e));
      memory = λ e. absurd (omega (arith, e));
    }) (λ told. record {
      part = λ out. elim (begins told) [
        | inl none ↦ inl (written out ∙ ap (λ t. before.stream.written ++ t) none)
        | inr b ↦ begun_part text b (a_whole_text_is_a_front text (b.rest ++ b.report.last) before.stream.written after.stream.written (written out))
      ];
      pause = λ out e. (text, written out, pauses told);
      stop = λ e. absurd (omega (arith, e));
    }) (λ out e. elim silent [
      | inl early ↦ inl (inl (rose, early))
      | inr none ↦ inr (written out ∙ ap (λ t. before.stream.written ++ t) none ∙ append-nil before.stream.written)
    ])

    -- its reader has stopped behind the beginning of a report, which was printed, or could not be
    module _ (text : List ℕ) (form : request ≢ None) (begins : KnowsIt → Begins says before.folder.held text) where
      short_of : (status : Status) → status ≡ OutOfMemory → Reads → after.stream.faults ≡ before.stream.faults → (IsTrue before.stream.tells → WritesPrefix (text ++ []) before.stream.written after.stream.written)
          → CallEnds says_of request before after (status_number status) []
      short_of status is reads writes prefix =
          subst (λ (n : ℕ). CallEnds says_of request before after n []) (sym (ap status_number is))
          (ends_short text reads writes begins (λ out. subst (λ (t : List ℕ). WritesPrefix t before.stream.written after.stream.written) (append-nil text) (prefix out)))

      unwritten_of : (status : Status) → status ≡ WriteFault → Reads → Rose before.stream.faults after.stream.faults → Breaks text before.stream after.stream → CallEnds says_of request before after (status_number status) []
      unwritten_of status is reads rose breaks = subst (λ (n : ℕ). CallEnds says_of request before after n []) (sym (ap status_number is)) (ends_unwritten text form reads rose breaks begins)

      pub ends_stopped_short : (status : Status) → SameCounts before.folder.reads after.folder.reads → Printed text [] OutOfMemory status before.stream after.stream → CallEnds says_of request before after (status_number status) []
      ends_stopped_short status reads printed = elim printed.how [
        | inl all ↦ short_of status all.0 (inl reads) all.1 (λ out. subst (λ (t : List ℕ). WritesPrefix t before.stream.written after.stream.written) (append-nil (text ++ [])) (a_whole_text_is_a_front (text ++ []) [] before.stream.written after.stream.written (all.2 out)))
        | inr rest ↦ elim rest [
          | inl memory ↦ short_of status memory.0 (inl reads) memory.1 memory.2
          | inr failed ↦ elim failed [
            | inl broken ↦ unwritten_of status broken.0 (inl reads) broken.1 broken.2
            | inr line ↦ absurd (omega (arith, line.2))
          ]
        ]
      ]

      pub ends_stopped_unread : (status : Status) → (rose : ReadRose stages before after)
          → (KnowsIt → (report : Report) → says.report before.folder.held [] report → Contains report.pauses text)
          → says.preceded [] stages (reading rose.name) → Printed text [] ReadFault status before.stream after.stream → CallEnds says_of request before after (status_number status) []
      ends_stopped_unread status rose pauses early printed = elim printed.how [
        | inl all ↦ subst (λ (n : ℕ). CallEnds says_of request before after n []) (sym (ap status_number all.0))
            (ends_unread text form rose all.1 (λ out. all.2 out ∙ ap (λ t. before.stream.written ++ t) (append-nil text)) (λ told. inr (begins told)) pauses (inl early))
        | inr rest ↦ elim rest [
          | inl memory ↦ short_of status memory.0 (inr (rose, early)) memory.1 memory.2
          | inr failed ↦ elim failed [
            | inl broken ↦ unwritten_of status broken.0 (inr (rose, early)) broken.1 broken.2
            | inr line ↦ absurd (omega (arith, line.2))
          ]
        ]
      ]

    module _ (number : ℕ) (body last : List ℕ) (form : IsOfForm request number body) (is : IsDue says before number body last) where
      -- body and line were printed; or a write of this line has failed
      abbrev PrintsParts : Type 0
      PrintsParts = PrintsReport (record { body = body; last = last; pauses = [] }) before after number

      of_parts : (p : HasParts says before.folder.held body last) → PrintsParts → PrintsReport p.report before after number
      of_parts p prints = elim prints [
        | inl all ↦ inl (all.0, all.1 ∙ ap (λ t. before.stream.written ++ t) (sym (parts_text says before.folder.held body last p)))
        | inr line ↦ inr (
          line.0,
          line.1,
          line.2,
          subst (λ (b : List ℕ). EndsInLine b p.report.last before.stream.written after.stream.written) (sym p.body)
              (subst (λ (l : List ℕ). EndsInLine body l before.stream.written after.stream.written) (sym p.last) line.3),
        )
      ]

      -- the event decides, whether or not its line was printed whole
      ends_due : SameCounts before.folder.reads after.folder.reads
          → (IsTrue before.stream.tells → PrintsParts)
          → (IsTrue before.stream.tells → WritesPrefix last (before.stream.written ++ body) after.stream.written)
          → ((number ≡ 0) ⊎ (number ≡ 8) → NoneFailed before after) → CallEnds says_of request before after number []
      ends_due reads whole behind unmoved = ends number knows.keeps (record {
        due = λ told. inl (is.has told);
        possible = inl is.may;
        no_form = form.form;
        usage = λ none. inl (form.usage none).0;
        read_fault = λ e. absurd (is.event.0 e);
        write_fault = λ e. absurd (is.event.1 e);
        memory = λ e. absurd (is.event.2 e);
        decided = λ unrefused. no_file_failed reads;
        unmoved = unmoved;
      }) (λ told.
          let p = is.parts told in
          record {
            whole = λ out unrefused. (p.report, p.has, of_parts p (whole out));
            part = λ out. parts_part body last p (front_behind body last before.stream.written after.stream.written (behind out));
            pause = λ out e. absurd (is.event.0 e);
            stop = λ e. absurd (is.event.1 e);
          }) (λ told.
          let m = knows.made told in
          record { outputs = m.left.outputs; are = m.left.are; begun = m.left.begun; earlier = λ some. absurd (omega (arith, some)); whole = λ unrefused. m.made; others = m.left.others; unmade = m.left.unmade })
          (λ out e. absurd (is.event.0 e)) (λ told unrefused. is.whole told)

      -- the words ask for something, where a body was to be printed
      has_form : 0 < length body → request ≢ None
      has_form some none = omega (arith, some, ap length (form.usage none).1)

      -- The report was printed, or could not be; the call ends with what its end tells, but with a number of its own for the status that was due.
      pub ends_printed_as : (due status : Status) (answer : ℕ) → IsNumberOf due status number answer → SameCounts before.folder.reads after.folder.reads
          → Printed body last due status before.stream after.stream → CallEnds says_of request before after answer []
      ends_printed_as due status answer told reads printed =
          let ended = λ (n : ℕ). CallEnds says_of request before after n [] in
          elim printed.how [
            | inl all ↦ subst ended (sym (told.event all.0)) (ends_due reads (λ out. inl (all.1, all.2 out))
                (λ out. whole_line body last before.stream.written after.stream.written (all.2 out)) (λ done. none_failed reads all.1))
            | inr rest ↦ elim rest [
              | inl memory ↦ subst ended (sym (told.memory memory.0)) (ends_without_memory (inl reads) memory.1 (λ t out. parts_part body last (is.parts t) (memory.2 out)))
              | inr failed ↦ elim failed [
                | inl broken ↦ subst ended (sym (told.write broken.0)) (ends_unwritten body (has_form broken.2.some) (inl reads) broken.1 broken.2 (λ t. parts_begin says before.folder.held body last (is.parts t)))
                | inr line ↦
                    let not_done : (number ≡ 0) ⊎ (number ≡ 8) → ⊥ = λ e. omega (arith, line.2, ap length (is.last e)) in
                    subst ended (sym (told.event line.0)) (ends_due reads
                    (λ out. inr (λ zero. not_done (inl zero), λ eight. not_done (inr eight), line.1, line.3 out))
                    (λ out. part_of_line body last before.stream.written after.stream.written (line.3 out)) (λ done. absurd (not_done done)))
              ]
            ]
          ]

    -- with the status that its end tells
    pub ends_printed : (due : Status) (body last : List ℕ) → IsOfForm request (status_number due) body → IsDue says before (status_number due) body last → (status : Status)
        → SameCounts before.folder.reads after.folder.reads → Printed body last due status before.stream after.stream → CallEnds says_of request before after (status_number status) []
    ends_printed due body last form is status = ends_printed_as (status_number due) body last form is due status (status_number status) (own_number due status)

-- ---- a call that makes no file

pub only_read : {T E : Type 0} (failed : E) (result : Result T E) (file : List ℕ) (old new : DepotState) → OnlyReads {T = T} {E = E} failed result file old new → IsOnlyRead old new
only_read failed result file old new reads = record { told = reads.told; kept = reads.kept; creates = reads.creates; appends = reads.appends }

pub makes_nothing : (says : Says) (before after : Outside) (stages : List Stage) → says.outputs before.folder.held [] [] → SameHeld before.folder.held after.folder.held → HasMade says before after stages
makes_nothing says before after stages outputs kept = record {
  left = record {
    outputs = [];
    are = outputs;
    begun = λ k d within. absurd (omega (arith, within));
    others = λ name none. kept name;
    unmade = λ name none. kept name;
  };
  made = λ k d within. absurd (omega (arith, within));
}

-- a call that has read these stages alone
pub knows_reading : (says : Says) (stages : List Stage) (before after : Outside) → says.stages before.folder.held [] stages → says.outputs before.folder.held [] []
    → says.lawful before.folder.held [] → says.access before.folder.held [] → says.withheld before.folder.held [] → IsOnlyRead before.folder after.folder
    → after.stream.tells ≡ before.stream.tells → Knows says before after stages
knows_reading says stages before after are outputs lawful access withheld reads told = record {
  keeps = record {
    begun = record { content = before.folder.held; told = λ _ name. refl; are = are };
    lawful = λ _. lawful;
    access = λ _. access;
    withheld = λ _. withheld;
    still = λ none. (reads.creates, reads.appends);
    folder_told = reads.told;
    stream_told = told;
  };
  made = λ told. makes_nothing says before after stages outputs (reads.kept told);
  creates = reads.creates;
  appends = reads.appends;
}

-- that reads one file
pub knows_file : (file : List ℕ) (prints : Option (List ℕ) → Report → Type 0) (due : Option (List ℕ) → ℕ → Type 0) (early : Type 0) (before after : Outside)
    → IsOnlyRead before.folder after.folder → after.stream.tells ≡ before.stream.tells → Knows (reading_says file prints due early) before after (reading_stage file ∷ [])
knows_file file prints due early before after reads told =
    knows_reading (reading_says file prints due early) (reading_stage file ∷ []) before after (refl, refl) refl refl tt tt reads told

-- ---- words that are no form

nothing_read : (old new : DepotState) → new ≡ old → IsOnlyRead old new
nothing_read old new same = record {
  told = ap (λ (d : DepotState). d.tells) same;
  kept = λ told name. ap (λ (d : DepotState). d.held name) same;
  creates = λ name. ap (λ (d : DepotState). d.creates name) same;
  appends = λ name. ap (λ (d : DepotState). d.appends name) same;
}

-- a program that says of such words no more than its usage line
pub ends_with_usage : {C : Type 0} (says_of : Option C → Says) (line : List ℕ) (before after : Outside) (status : Status) → ((P : Says → Type 0) → P (usage_says line) → P (says_of None))
    → after.folder ≡ before.folder → Printed [] line NoForm status before.stream after.stream → CallEnds says_of None before after (status_number status) []
ends_with_usage says_of line before after status by same printed =
    ends_printed says_of None before after []
    (by (λ says. Knows says before after []) (knows_reading (usage_says line) [] before after (refl, refl) refl refl tt tt (nothing_read before.folder after.folder same) printed.told))
    NoForm [] line (record { form = λ e. refl; usage = λ e. (refl, refl) })
    (by (λ says. IsDue says before 1 [] line) (record {
      event = (λ e. omega (arith, e), λ e. omega (arith, e), λ e. omega (arith, e));
      has = λ told. refl;
      may = refl;
      parts = λ told. record { report = late_report [] line; has = refl; body = refl; last = refl };
      last = λ e. elim e [ inl zero ↦ absurd (omega (arith, zero)) | inr eight ↦ absurd (omega (arith, eight)) ];
      whole = λ told. refl;
    }))
    status (λ name. ap (λ (d : DepotState). d.reads name) same) printed
