-- How a call ends that has told reports, over plain values.
use Rattle.std.proofs.Common.{◌≡◌, ◌≢◌, inl, inr, ◌<◌, ◌≤◌, ℕ, ◌+◌, Bool, true, false, List, [], ◌∷◌, ◌++◌, length, take, map, Option, Some, None, Result, Ok, Err, refl, sym, ap, subst, ◌∙◌, arith, append_assoc, length-append, if◌then◌else◌}
use Rattle.std.specs.Prelude.{IsTrue, Contains, ◌&&◌}
use Rattle.std.specs.List.{concat, range_with_len}
use Rattle.std.specs.Result.{IsErrOf}
use Rattle.std.proofs.lemmas.List.{append-nil, take_at, length-map}
use Rattle.std.proofs.lemmas.List.Folds.{concat-append}
use Rattle.std.proofs.lemmas.List.FromFn.{get_or-map-range_with_len, length-map-range_with_len}
use Rattle.net_io.specs.Faults.{Rose, SameCounts}
use Rattle.net_io.specs.Sink.{SinkState}
use Rattle.net_io.specs.declared.fault.IoFault.{IoFault}
use Rattle.net_io.specs.declared.fault.IoFault.TheVariants.{Failed, OutOfMemory as IoOutOfMemory}
use Rattle.label_commands.specs.declared.stop.ScriptStop.{ScriptStop}
use Rattle.call_report.specs.declared.status.Status.{Status}
use Rattle.call_report.specs.declared.status.Status.TheVariants.{Done, WrongScript, ReadFault}
use Rattle.call_report.specs.CallEnds.{CallEnds, KnowsReport}
use Rattle.call_report.specs.Outside.{Outside, IsOnlyRead}
use Rattle.call_report.specs.Printing.{HandsOn, IsUnderWay, Printed}
use Rattle.call_report.specs.Report.{Folder, Report}
use Rattle.call_report.specs.Stages.{Stage, reading_stage, input_in_hand}
use Rattle.call_report.specs.Status.{status_number, write_status}
use Rattle.call_report.proofs.Law.{a_report_takes_a_text, a_report_is_printed}
use Rattle.call_report.proofs.Law.{Knows, Begins, asks, knows_reading, ends_printed, ends_printed_as, ends_short, ends_unwritten, ends_unprinted, ends_stopped_unread}
use Rattle.call_report.specs.script_input.Ends.{IsScriptEnd}
use Rattle.call_report.specs.script_input.ScriptFile.{script_read}
use Rattle.call_report.proofs.script_input.Law.{ReadsScript, ends_without_script}
use Rattle.netlabel_report.specs.declared.report_telling.commands.CommandPlace.{CommandPlace}
use Rattle.netlabel_report.specs.declared.report_telling.way.Manner.{Manner}
use Rattle.netlabel_report.specs.declared.report_telling.way.Way.{Way}
use Rattle.netlabel_report.specs.report_telling.Taking.{Standing, no_report_text}
use Rattle.netlabel_report.specs.declared.desk.TellStop.{TellStop}
use Rattle.netlabel_report.specs.declared.desk.TellStop.TheVariants as stop
use Rattle.netlabel_report.specs.declared.question.ReportQuestion.{ReportQuestion}
use Rattle.netlabel_report.specs.Course.{at_end, at_absent, at_script, at_fault, Course, ended, with_front, followed_by, report_course, reports_course}
use Rattle.netlabel_report.specs.Places.{commands_read, commands_held, commands_found}
use Rattle.netlabel_report.specs.Says.{start_standing, opening_text, closing_text, told_course, course_by, question_course, starts_of_pieces, is_amiss, course_report, course_status, IsReportStatus, files_of, report_says}
use Rattle.netlabel_report.specs.inside.Telling.{handed, Tells, IsRiseIn, AreRead, answer_number, HasCommands, IsAnswerEnd}
use Rattle.netlabel_report.proofs.Telling.{tells_as}

-- ---- the report of a course that was told so far

-- what begins it, and what may stand where a read fails
pub record HasFront (way : Way) (course : Course) (text : List ℕ) : Type 0 where
  pub rest : List ℕ
  pub body : (course_report way course).body ≡ text ++ rest
  pub paused : Contains (course_report way course).pauses text

starts_contain : (pieces more : List (List ℕ)) → Contains (starts_of_pieces (pieces ++ more)) (concat pieces)
starts_contain pieces more =
    let all = pieces ++ more in
    let f = λ (k : ℕ). concat (take k all) in
    let size : length (map f (range_with_len 0 (length all + 1))) ≡ length all + 1 = length-map-range_with_len f 0 (length all + 1) in
    let within : length pieces < length all + 1 = omega (arith, length-append pieces more) in (
      length pieces,
      omega (arith, size, within),
      get_or-map-range_with_len f 0 (length all + 1) (length pieces) (length pieces) (concat pieces) within (omega arith) ∙ ap concat (take_at pieces more (length pieces) refl),
    )

module _ (way : Way) (pieces : List (List ℕ)) where
  front_of : (rest : Course) → HasFront way (with_front pieces rest) (concat pieces)
  front_of rest = elim rest.end as (λ end. HasFront way (with_front pieces (record { pieces = rest.pieces; standing = rest.standing; end = end })) (concat pieces)) [
    | at_end ↦ record {
      rest = concat rest.pieces ++ closing_text way rest.standing;
      body = ap (λ t. t ++ closing_text way rest.standing) (concat-append pieces rest.pieces) ∙ append_assoc (concat pieces) (concat rest.pieces) (closing_text way rest.standing);
      paused = starts_contain pieces rest.pieces;
    }
    | at_absent ↦ record { rest = concat rest.pieces; body = concat-append pieces rest.pieces; paused = starts_contain pieces rest.pieces }
    | at_script stop ↦ record { rest = concat rest.pieces; body = concat-append pieces rest.pieces; paused = starts_contain pieces rest.pieces }
    | at_fault octet ↦ record { rest = concat rest.pieces; body = concat-append pieces rest.pieces; paused = starts_contain pieces rest.pieces }
  ]

pub told_front : (way : Way) (course rest : Course) (pieces : List (List ℕ)) → course ≡ with_front pieces rest → HasFront way course (concat pieces)
told_front way course rest pieces is = subst (λ (c : Course). HasFront way c (concat pieces)) (sym is) (front_of way pieces rest)

-- ---- stages

-- the file that is in hand where the last of some names is
last_in_hand : (front : List (List ℕ)) (name : List ℕ) → input_in_hand (map reading_stage (front ++ name ∷ [])) ≡ Some name
last_in_hand [] name = refl
last_in_hand (first ∷ []) name = refl
last_in_hand (first ∷ second ∷ front) name = last_in_hand (second ∷ front) name

-- files with this name in front of others
record HasName (names : List (List ℕ)) (name : List ℕ) : Type 0 where
  front : List (List ℕ)
  behind : List (List ℕ)
  are : names ≡ front ++ name ∷ behind

-- what stands among the reports stands among all files that are read
among_files : (script : Option (List ℕ)) (names : List (List ℕ)) (name : List ℕ) → HasName names name → HasName (files_of script names) name
among_files None names name has = has
among_files (Some file) names name has = record { front = file ∷ has.front; behind = has.behind; are = ap (λ ns. file ∷ ns) has.are }

-- and the script precedes it
after_script : (script : Option (List ℕ)) (names : List (List ℕ)) (name : List ℕ) (has : HasName names name) → length (files_of script []) ≤ length (among_files script names name has).front
unfolding among_files
after_script None names name has = omega arith
after_script (Some file) names name has = omega arith

first_names : (names front behind : List (List ℕ)) (name : List ℕ) → names ≡ front ++ name ∷ behind → take (length front + 1) names ≡ front ++ name ∷ []
first_names names front behind name are =
    ap (take (length front + 1)) (are ∙ sym (append_assoc front (name ∷ []) behind)) ∙ take_at (front ++ name ∷ []) behind (length front + 1) (length-append front (name ∷ []))

-- ---- the call

module _ (asked : ReportQuestion) (before after : Outside) where
  abbrev course : Course
  course = question_course asked before.folder.held

  has_form : ◌≢◌ {A = Option ReportQuestion} (Some asked) None
  has_form e = absurd cc

  abbrev files : List (List ℕ)
  files = files_of asked.script asked.names

  abbrev stages_of : ℕ → List Stage
  stages_of count = map reading_stage (take count files)

  knows : (count : ℕ) → IsOnlyRead before.folder after.folder → after.stream.tells ≡ before.stream.tells → Knows (report_says (Some asked)) before after (stages_of count)
  knows count only told = knows_reading (report_says (Some asked)) (stages_of count) before after (refl, (count, refl)) refl refl tt tt only told

  begins : (text : List ℕ) → HasFront asked.way course text → Begins (report_says (Some asked)) before.folder.held text
  begins text front = record { report = course_report asked.way course; has = refl; rest = front.rest; body = front.body }

  -- ---- what was told so far

  module _ (s : Standing) (waits : List ℕ) (result : Result (Unit {0}) TellStop) (mid : SinkState) (told : Tells before.folder.tells course s [] waits result before.stream mid)
      (read : AreRead {T = Unit {0}} asked.names result before.folder after.folder) where
    abbrev text : List ℕ
    text = concat told.pieces

    front : IsTrue before.folder.tells → HasFront asked.way course text
    front t = told_front asked.way course told.rest told.pieces (told.is t)

    way_of : (x : Unit {0}) → handed result ≡ Ok x → IsUnderWay text told.still before.stream mid
    way_of x is =
        let hands = subst (λ (r : Result (Unit {0}) IoFault). HandsOn {T = Unit {0}} (concat told.pieces) [] told.still r before.stream mid) is told.hands in
        record { goes = hands.ok; told = hands.told; faults = hands.counts.ok }

    -- the report's end behind what was told
    printed_on : (x : Unit {0}) → handed result ≡ Ok x → (IsErrOf result stop.OutOfMemory → ⊥) → (more last : List ℕ) (due status : Status) (out : SinkState) → Printed (waits ++ more) last due status mid out
        → Printed (text ++ more) last due status before.stream out
    printed_on x is other more last due status out printed =
        a_report_is_printed (text ++ more) (told.still ++ more) before.stream mid (a_report_takes_a_text text told.still before.stream mid (way_of x is) more) last due status out
        (subst (λ (w : List ℕ). Printed (w ++ more) last due status mid out) (sym (told.kept other)) printed)

-- ---- numbers that are due

no_number : (flag : Bool) (n : ℕ) → n ≢ 0 → n ≢ 8 → (if flag then 8 else 0) ≢ n
no_number true n zero eight e = eight (sym e)
no_number false n zero eight e = zero (sym e)

may_be : (tells refused : Bool) → IsReportStatus tells (if tells && refused then 8 else 0)
may_be true true = inr (inr (refl, refl))
may_be true false = inl refl
may_be false refused = inl refl

-- ---- how a call ends

module _ (asked : ReportQuestion) (before after : Outside) (s : Standing) (waits : List ℕ) (mid : SinkState) where
  abbrev Ended : ℕ → Type 0
  Ended number = CallEnds report_says (Some asked) before after number []

  abbrev Told : Result (Unit {0}) TellStop → Type 0
  Told result = Tells before.folder.tells (question_course asked before.folder.held) s [] waits result before.stream mid

  abbrev Read : Result (Unit {0}) TellStop → Type 0
  Read result = AreRead {T = Unit {0}} asked.names result before.folder after.folder

  -- all reports were told
  ends_whole : (x : Unit {0}) (status : Status) → Told (Ok x) → Read (Ok x) → Printed (waits ++ closing_text asked.way s) [] Done status mid after.stream
      → Ended (answer_number (asked.tells && is_amiss s.progress) status)
  ends_whole x status told read printed =
      let flag : Bool = asked.tells && is_amiss s.progress in
      let due : ℕ = if flag then 8 else 0 in
      let closing = closing_text asked.way s in
      let whole = concat told.pieces ++ closing in
      let is : IsTrue before.folder.tells → question_course asked before.folder.held ≡ with_front told.pieces (ended at_end s) = λ t. told.is t ∙ ap (with_front told.pieces) (told.end t) in
      let p = printed_on asked before after s waits (Ok x) mid told read x refl (λ e. absurd cc) closing [] Done status after.stream printed in
      ends_printed_as report_says (Some asked) before after (stages_of asked before after 0) (knows asked before after 0 read.only p.told) due whole []
      (asks (Some asked) due whole (has_form asked before after) (no_number flag 1 (λ e. omega (arith, e)) (λ e. omega (arith, e))))
      (record {
        event = (no_number flag 3 (λ e. omega (arith, e)) (λ e. omega (arith, e)), no_number flag 4 (λ e. omega (arith, e)) (λ e. omega (arith, e)), no_number flag 6 (λ e. omega (arith, e)) (λ e. omega (arith, e)));
        has = λ t. ap (course_status asked.tells) (is t);
        may = inl (may_be asked.tells (is_amiss s.progress));
        parts = λ known. record {
          report = course_report asked.way (question_course asked before.folder.held);
          has = refl;
          body = ap (λ (c : Course). (course_report asked.way c).body) (is (known tt)) ∙ ap (λ ps. concat ps ++ closing) (append-nil told.pieces);
          last = ap (λ (c : Course). (course_report asked.way c).last) (is (known tt));
        };
        last = λ e. refl;
        whole = λ t. refl;
      })
      Done status (answer_number flag status)
      (record { event = λ e. ap (answer_number flag) e; write = λ e. ap (answer_number flag) e; memory = λ e. ap (answer_number flag) e })
      (read.still (λ e. absurd cc)) p

  -- what waits is the end of what was told
  printed_all : (result : Result (Unit {0}) TellStop) (told : Told result) (read : Read result) (x : Unit {0}) → handed result ≡ Ok x → (IsErrOf result stop.OutOfMemory → ⊥)
      → (last : List ℕ) (due status : Status) → Printed waits last due status mid after.stream → Printed (concat told.pieces) last due status before.stream after.stream
  printed_all result told read x is other last due status printed =
      subst (λ (t : List ℕ). Printed t last due status before.stream after.stream) (append-nil (concat told.pieces))
      (printed_on asked before after s waits result mid told read x is other [] last due status after.stream (subst (λ (w : List ℕ). Printed w last due status mid after.stream) (sym (append-nil waits)) printed))

  -- a text is no report
  ends_broken : (octet : ℕ) (status : Status) → Told (Err (stop.NoReport octet)) → Read (Err (stop.NoReport octet)) → Printed waits (no_report_text s.progress octet) WrongScript status mid after.stream → Ended (status_number status)
  ends_broken octet status told read printed =
      let line = no_report_text s.progress octet in
      let body = concat told.pieces in
      let is : IsTrue before.folder.tells → question_course asked before.folder.held ≡ with_front told.pieces (ended (at_fault octet) s) = λ t. told.is t ∙ ap (with_front told.pieces) (told.end t) in
      let p = printed_all (Err (stop.NoReport octet)) told read tt refl (λ e. absurd cc) line WrongScript status printed in
      ends_printed report_says (Some asked) before after (stages_of asked before after 0) (knows asked before after 0 read.only p.told) WrongScript body line
      (asks (Some asked) 2 body (has_form asked before after) (λ e. omega (arith, e)))
      (record {
        event = (λ e. omega (arith, e), λ e. omega (arith, e), λ e. omega (arith, e));
        has = λ t. ap (course_status asked.tells) (is t);
        may = inl (inr (inl refl));
        parts = λ known. record {
          report = course_report asked.way (question_course asked before.folder.held);
          has = refl;
          body = ap (λ (c : Course). (course_report asked.way c).body) (is (known tt)) ∙ ap concat (append-nil told.pieces);
          last = ap (λ (c : Course). (course_report asked.way c).last) (is (known tt));
        };
        last = λ e. elim e [ inl zero ↦ absurd (omega (arith, zero)) | inr eight ↦ absurd (omega (arith, eight)) ];
        whole = λ t. refl;
      })
      status (read.still (λ e. absurd cc)) p

  begun : (result : Result (Unit {0}) TellStop) (told : Told result) → KnowsReport (report_says (Some asked)) before.folder → Begins (report_says (Some asked)) before.folder.held (concat told.pieces)
  begun result told known = begins asked before after (concat told.pieces) (told_front asked.way (question_course asked before.folder.held) told.rest told.pieces (told.is (known tt)))

  -- a report couldn't be read
  ends_unread : (status : Status) → Told (Err stop.ReadFault) → Read (Err stop.ReadFault) → Printed waits [] ReadFault status mid after.stream → Ended (status_number status)
  ends_unread status told read printed =
      let cause = read.cause refl in
      let among : HasName asked.names cause.name = record { front = cause.front; behind = cause.behind; are = cause.are } in
      let place = among_files asked.script asked.names cause.name among in
      let count = length place.front + 1 in
      let first = first_names (files_of asked.script asked.names) place.front place.behind cause.name place.are in
      let p = printed_all (Err stop.ReadFault) told read tt refl (λ e. absurd cc) [] ReadFault status printed in
      ends_stopped_unread report_says (Some asked) before after (stages_of asked before after count) (knows asked before after count read.only p.told) (concat told.pieces) (has_form asked before after)
      (begun (Err stop.ReadFault) told) status
      (record { name = cause.name; in_hand = ap (λ names. input_in_hand (map reading_stage names)) first ∙ last_in_hand place.front cause.name; rose = cause.rose })
      (λ known report has. subst (λ (r : Report). Contains r.pauses (concat told.pieces)) (sym has) (told_front asked.way (question_course asked before.folder.held) told.rest told.pieces (told.is (known tt))).paused)
      (omega (arith, after_script asked.script asked.names cause.name among, ap length first, length-append place.front (cause.name ∷ []), length-map (take count (files_of asked.script asked.names)) reading_stage)) p

  -- what was told couldn't be written
  ends_unhanded : (fault : IoFault) → Told (Err (stop.Unwritten fault)) → Read (Err (stop.Unwritten fault)) → after.stream ≡ mid → Ended (status_number (write_status fault))
  ends_unhanded Failed told read same =
      let hands = subst (λ (x : SinkState). HandsOn {T = Unit {0}} (concat told.pieces) [] told.still (Err Failed) before.stream x) (sym same) told.hands in
      ends_unwritten report_says (Some asked) before after (stages_of asked before after 0) (knows asked before after 0 read.only hands.told) (concat told.pieces) (has_form asked before after) (inl (read.still (λ e. absurd cc))) (hands.counts.cause refl) hands.err
      (begun (Err (stop.Unwritten Failed)) told)
  ends_unhanded IoOutOfMemory told read same =
      let hands = subst (λ (x : SinkState). HandsOn {T = Unit {0}} (concat told.pieces) [] told.still (Err IoOutOfMemory) before.stream x) (sym same) told.hands in
      ends_short report_says (Some asked) before after (stages_of asked before after 0) (knows asked before after 0 read.only hands.told) (concat told.pieces) (inl (read.still (λ e. absurd cc))) (hands.counts.still (λ e. absurd cc))
      (begun (Err (stop.Unwritten IoOutOfMemory)) told)
      (λ out. let less = hands.err.written out in record { count = less.count; within = omega (arith, less.within); written = less.written })

  -- there was no memory
  ends_unkept : Told (Err stop.OutOfMemory) → Read (Err stop.OutOfMemory) → after.stream ≡ mid → Ended 6
  ends_unkept told read same =
      let way = subst (λ (x : SinkState). IsUnderWay (concat told.pieces) told.still before.stream x) (sym same) (way_of asked before after s waits (Err stop.OutOfMemory) mid told read tt refl) in
      let sent = way.goes.sent in
      ends_short report_says (Some asked) before after (stages_of asked before after 0) (knows asked before after 0 read.only way.told) (concat told.pieces) (inl (read.still (λ e. absurd cc))) way.faults
      (begun (Err stop.OutOfMemory) told)
      (λ out. record {
        count = length sent;
        within = omega (arith, ap length way.goes.all, length-append sent told.still);
        written = way.goes.written out ∙ ap (λ t. before.stream.written ++ t) (sym (ap (take (length sent)) (sym way.goes.all) ∙ take_at sent told.still (length sent) refl));
      })

  pub ends_answer : (result : Result (Unit {0}) TellStop) (number : ℕ) → Told result → Read result → IsAnswerEnd asked result s waits number mid after.stream → Ended number
  ends_answer (Ok x) number told read end = subst Ended (sym end.1) (ends_whole x end.0 told read end.2)
  ends_answer (Err (stop.NoReport octet)) number told read end = subst Ended (sym end.1) (ends_broken octet end.0 told read end.2)
  ends_answer (Err stop.ReadFault) number told read end = subst Ended (sym end.1) (ends_unread end.0 told read end.2)
  ends_answer (Err (stop.Unwritten fault)) number told read end = subst Ended (sym end.0) (ends_unhanded fault told read end.1)
  ends_answer (Err stop.OutOfMemory) number told read end = subst Ended (sym end.0) (ends_unkept told read end.1)

-- ---- the script in front

-- the courses of reports that are held alike
followed_same : (course : Course) (f g : Standing → Course) → ((s : Standing) → f s ≡ g s) → followed_by course f ≡ followed_by course g
followed_same course f g same = elim course.end as (λ end. followed_by (record { pieces = course.pieces; standing = course.standing; end = end }) f ≡ followed_by (record { pieces = course.pieces; standing = course.standing; end = end }) g) [
  | at_end ↦ ap (with_front course.pieces) (same course.standing)
  | at_absent ↦ refl
  | at_script stop ↦ refl
  | at_fault octet ↦ refl
]

module _ (manner : Manner) (now held : Folder) (same : (name : List ℕ) → now name ≡ held name) where
  reports_same : (names : List (List ℕ)) (s : Standing) → reports_course manner held names s ≡ reports_course manner now names s
  reports_same [] s = refl
  reports_same (name ∷ names) s =
      ap (λ file. followed_by (report_course manner file s) (reports_course manner held names)) (sym (same name))
      ∙ followed_same (report_course manner (now name) s) (reports_course manner held names) (reports_course manner now names) (reports_same names)

rise_behind : (names : List (List ℕ)) (old mid new : List ℕ → ℕ) → SameCounts old mid → IsRiseIn names mid new → IsRiseIn names old new
rise_behind names old mid new counts rise =
    record { front = rise.front; name = rise.name; behind = rise.behind; are = rise.are; rose = subst (λ (n : ℕ). Rose n (new rise.name)) (counts rise.name) rise.rose }

module _ (asked : ReportQuestion) (before mid : Outside) (commands : Option (List CommandPlace)) (has : HasCommands asked.script before mid commands) where
  abbrev manner : Manner
  manner = record { way = asked.way; commands = commands }

  read_behind : (result : Result (Unit {0}) TellStop) (after : Outside) → AreRead {T = Unit {0}} asked.names result mid.folder after.folder
      → AreRead {T = Unit {0}} asked.names result before.folder after.folder
  read_behind result after read = record {
    only = record {
      told = read.only.told ∙ has.reads.told;
      kept = λ told name. read.only.kept (subst IsTrue (sym has.reads.told) told) name ∙ has.reads.kept told name;
      creates = λ name. read.only.creates name ∙ has.reads.creates name;
      appends = λ name. read.only.appends name ∙ has.reads.appends name;
    };
    still = λ none name. read.still none name ∙ has.counts name;
    cause = λ e. rise_behind asked.names before.folder.reads mid.folder.reads after.folder.reads has.counts (read.cause e);
  }

  course_is : IsTrue before.folder.tells → question_course asked before.folder.held ≡ told_course manner mid.folder.held asked.names
  course_is told =
      ap (course_by asked before.folder.held) (has.are told)
      ∙ ap (with_front (opening_text asked.way ∷ [])) (reports_same manner mid.folder.held before.folder.held (has.reads.kept told) asked.names start_standing)

  pub ends_by : (s : Standing) (waits : List ℕ) (out : SinkState) (after : Outside) (result : Result (Unit {0}) TellStop) (number : ℕ)
      → Tells mid.folder.tells (told_course manner mid.folder.held asked.names) s [] waits result mid.stream out → AreRead {T = Unit {0}} asked.names result mid.folder after.folder
      → IsAnswerEnd asked result s waits number out after.stream → CallEnds report_says (Some asked) before after number []
  ends_by s waits out after result number told read end =
      let here = tells_as before.folder.tells mid.folder.tells (question_course asked before.folder.held) (told_course manner mid.folder.held asked.names) s [] waits result mid.stream out
      (λ t. subst IsTrue (sym has.reads.told) t) course_is told in
      ends_answer asked before after s waits out result number
      (subst (λ (a : SinkState). Tells before.folder.tells (question_course asked before.folder.held) s [] waits result a out) has.stream here)
      (read_behind result after read) end

  -- there was no memory to begin
  pub ends_unbegun : CallEnds report_says (Some asked) before mid 6 []
  ends_unbegun = ends_unprinted report_says (Some asked) before mid (stages_of asked before mid 0) (knows asked before mid 0 has.reads (ap (λ (x : SinkState). x.tells) has.stream)) has.counts has.stream

-- no script was asked for
pub nothing_found : (asked : ReportQuestion) (before : Outside) → asked.script ≡ None → HasCommands asked.script before before None
nothing_found asked before none = record {
  reads = record { told = refl; kept = λ told name. refl; creates = λ name. refl; appends = λ name. refl };
  counts = λ name. refl;
  stream = refl;
  are = λ told. ap (λ (script : Option (List ℕ)). commands_found script before.folder.held) none;
}

-- ---- there is no script

module _ (tells : Bool) (file : List ℕ) (way : Way) (names : List (List ℕ)) where
  abbrev scripted : ReportQuestion
  scripted = record { tells = tells; script = Some file; way = way; names = names }

  refused_course : (held : Folder) (text : List ℕ) (why : ScriptStop) → held file ≡ Some text → script_read file text ≡ Err why → question_course scripted held ≡ ended (at_script why) start_standing
  refused_course held text why holds is = ap (course_by scripted held) (ap (commands_held file) holds ∙ ap (commands_read text) is)

  report_reads : ReadsScript (report_says (Some scripted)) file
  report_reads = record {
    depends = tt;
    knows = λ before after reads told. knows_reading (report_says (Some scripted)) (reading_stage file ∷ []) before after (refl, (1, refl)) refl refl tt tt reads told;
    refused = λ held text why holds is.
        let course = refused_course held text why holds is in
        record { status = ap (course_status tells) course; report = sym (ap (course_report way) course); whole = refl };
    may = λ text why is. inr (text, why, is, refl);
    pauses = λ held report has. subst (λ (r : Report). Contains r.pauses []) (sym has) (told_front way (question_course scripted held) (question_course scripted held) [] refl).paused;
  }

pub ends_scriptless : (asked : ReportQuestion) (file : List ℕ) → asked.script ≡ Some file → (before after : Outside) (status : Status) → IsScriptEnd file before after status
    → CallEnds report_says (Some asked) before after (status_number status) []
ends_scriptless asked file is before after status end =
    let own = scripted asked.tells file asked.way asked.names in
    let same : asked ≡ own = ap (λ (script : Option (List ℕ)). let q : ReportQuestion = record { tells = asked.tells; script = script; way = asked.way; names = asked.names } in q) is in
    subst (λ (q : ReportQuestion). CallEnds report_says (Some q) before after (status_number status) []) (sym same)
    (ends_without_script report_says (Some own) file (λ e. absurd cc) (report_reads asked.tells file asked.way asked.names) before after status end)
