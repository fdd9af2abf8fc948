-- What becomes of each line of a report, and of its end.
use Rattle.std.specs.Prelude.{ℕ, ◌-◌, Bool, true, false, not, ◌==◌, ◌&&◌, nat_le, List, [], ◌∷◌, ◌++◌, drop, codes, Option, Some, None, position, Result, Ok, Err, if◌then◌else◌}
use Rattle.std.specs.Fmt.{decimal}
use Rattle.domain_map.specs.address_text.Name.{is_name}
use Rattle.call_report.specs.declared.report_lines.form.Form.{Form}
use Rattle.call_report.specs.declared.report_lines.form.Form.TheVariants as form
use Rattle.call_report.specs.declared.report_lines.slot.Field.TheVariants as name
use Rattle.call_report.specs.report_lines.Line.{line_form}
use Rattle.netlabel_report.specs.declared.report_telling.counts.Progress.{Progress}
use Rattle.netlabel_report.specs.declared.report_telling.way.Manner.{Manner}
use Rattle.netlabel_report.specs.declared.report_telling.way.Way.{Way}
use Rattle.netlabel_report.specs.declared.report_telling.way.Way.TheVariants.{Summary, Denied, Json, Csv}
use Rattle.netlabel_report.specs.declared.report_telling.taking.LineKind.{LineKind}
use Rattle.netlabel_report.specs.declared.report_telling.taking.LineKind.TheVariants.{Listed, Of}
use Rattle.netlabel_report.specs.declared.report_telling.commands.CommandPlace.{CommandPlace}
use Rattle.netlabel_report.specs.report_telling.Commands.{answered_at, stranger_at}
use Rattle.netlabel_report.specs.report_telling.Counts.{Tally, risen, tallied, is_counted}
use Rattle.netlabel_report.specs.report_telling.Fields.{told_in, number_told}
use Rattle.netlabel_report.specs.report_telling.Json.{json_text, listed_json, unfinished_json}
use Rattle.netlabel_report.specs.report_telling.Csv.{csv_text, listed_csv, unfinished_csv}
use Rattle.netlabel_report.specs.report_telling.Summary.{refused_text, ended_text}

-- printable ASCII, from the space to `~`
abbrev pub is_printable : ℕ → Bool
is_printable octet = nat_le 32 octet && nat_le octet 126

-- the first octet that a line of a listing can't have: two spaces precede printable ASCII
abbrev pub listed_stop : List ℕ → Option ℕ
listed_stop [] = Some 0
listed_stop (a ∷ []) = if a == 32 then Some 1 else Some 0
listed_stop (a ∷ b ∷ line) = if a == 32 then (if b == 32 then position (λ octet. not (is_printable octet)) (a ∷ b ∷ line) else Some 1) else Some 0

abbrev pub listed_kind : Option ℕ → Result LineKind ℕ
listed_kind None = Ok Listed
listed_kind (Some octet) = Err octet

abbrev pub kind_unless : Option ℕ → Form → Result LineKind ℕ
kind_unless None form = Ok (Of form)
kind_unless (Some octet) form = Err octet

-- by the form of a line; an answer has to be that of a command of the script, where there is one
abbrev pub form_kind : Option (List CommandPlace) → List ℕ → Result Form ℕ → Result LineKind ℕ
form_kind commands line (Ok form) = kind_unless (stranger_at commands form line) form
form_kind commands line (Err octet) = Err octet

-- What a line is, or the octet at fault: nothing comes behind a report's last line, and as many lines of a listing as were told.
abbrev pub line_kind : Option (List CommandPlace) → Progress → List ℕ → Result LineKind ℕ
line_kind commands p line =
    if p.finished then Err 0
    else if p.due == 0 then form_kind commands line (line_form line)
    else listed_kind (listed_stop line)

-- a packet was denied
abbrev pub is_denial_form : Form → Bool
is_denial_form form.DeniedPlain = true
is_denial_form form.DeniedOctet = true
is_denial_form form.DeniedCategory = true
is_denial_form form.DeniedCause = true
is_denial_form form.DeniedFrame = true
is_denial_form form = false

-- a report's last line that says what stopped the run: a broken capture, a passed limit, or a fault of the script
abbrev pub is_stop_form : Form → Bool
is_stop_form form.Capture = true
is_stop_form form.Limit = true
is_stop_form form.Script = true
is_stop_form form = false

-- how a line of a form is told, with the line in the script at which its command stands
abbrev pub form_text : Way → Option ℕ → ℕ → Form → List ℕ → List ℕ
form_text Summary at report form.Refused line = refused_text at report (drop 8 line)
form_text Summary at report form line = if is_stop_form form then ended_text report line else []
form_text Denied at report form line = if is_denial_form form then line ++ 10 ∷ [] else []
form_text Json at report form line = json_text at report form line
form_text Csv at report form line = csv_text at report form line

abbrev pub listed_text : Way → ℕ → List ℕ → List ℕ
listed_text Summary report line = []
listed_text Denied report line = []
listed_text Json report line = listed_json report (drop 2 line)
listed_text Csv report line = listed_csv report (drop 2 line)

-- how a line of the report of this number is told
abbrev pub line_text : Manner → ℕ → LineKind → List ℕ → List ℕ
line_text manner report Listed line = listed_text manner.way report line
line_text manner report (Of form) line = form_text manner.way (answered_at manner.commands form line) report form line

-- how it is told that a report isn't finished, where it isn't
abbrev pub unfinished_text : Way → ℕ → Bool → List ℕ
unfinished_text way report true = []
unfinished_text Summary report false = ended_text report (codes "unfinished")
unfinished_text Denied report false = codes "unfinished " ++ decimal report ++ codes "\n"
unfinished_text Json report false = unfinished_json report
unfinished_text Csv report false = unfinished_csv report

-- what a form counts for
abbrev pub counted : Form → List ℕ → Progress → Progress
counted form.Delivered line p = record p { delivered = risen p.delivered }
counted form.Sent line p = record p { sent = risen p.sent }
counted form.DeniedPlain line p = record p { denied = risen p.denied }
counted form.DeniedOctet line p = record p { denied = risen p.denied }
counted form.DeniedCategory line p = record p { denied = risen p.denied }
counted form.DeniedCause line p = record p { denied = risen p.denied }
counted form.DeniedFrame line p = record p { denied = risen p.denied }
counted form.Done line p = record p { commands = risen p.commands }
counted form.Refused line p = record p { commands = risen p.commands; refused = risen p.refused }
counted form.Listed line p = record p { commands = risen p.commands; due = number_told name.Lines form.Listed line }
counted form.Flow line p = p
counted form.End line p = p
counted form line p = record p { stopped = if is_stop_form form then risen p.stopped else p.stopped; finished = true }

-- where a reading stands
pub record Standing : Type 0 where
  pub progress : Progress
  pub tallies : List Tally

-- there is a tally of a denied packet, or room for one
abbrev pub has_place : Form → List ℕ → List Tally → Bool
has_place form line tallies = is_name (told_in name.Name form line) && (is_name (told_in name.Node form line)
    && is_counted (number_told name.Denial form line) (number_told name.Hop form line) (told_in name.Node form line) tallies)

-- with one more in it
abbrev pub with_tally : Form → List ℕ → List Tally → List Tally
with_tally form line tallies = tallied (number_told name.Denial form line) (told_in name.Name form line) (number_told name.Hop form line) (told_in name.Node form line) tallies

-- a packet that was denied, in its tally or elsewhere
abbrev pub with_denied : Form → List ℕ → Standing → Standing
with_denied form line s =
    if has_place form line s.tallies then record { progress = s.progress; tallies = with_tally form line s.tallies }
    else record { progress = record s.progress { elsewhere = risen s.progress.elsewhere }; tallies = s.tallies }

-- one line more of the report in hand
abbrev pub one_line : Progress → Progress
one_line p = record p { line = risen p.line }

-- where a reading stands behind a line of a form
abbrev pub after_form : Form → List ℕ → Standing → Standing
after_form form line s =
    if is_denial_form form then with_denied form line (record { progress = counted form line (one_line s.progress); tallies = s.tallies })
    else record { progress = counted form line (one_line s.progress); tallies = s.tallies }

abbrev pub after_line : LineKind → List ℕ → Standing → Standing
after_line Listed line s = record { progress = record (one_line s.progress) { due = s.progress.due - 1 }; tallies = s.tallies }
after_line (Of form) line s = after_form form line s

-- where it stands behind a report's end
abbrev pub after_end : Progress → Progress
after_end p = record p { reports = risen p.reports; unfinished = if p.finished then p.unfinished else risen p.unfinished; line = 0; due = 0; finished = false }

-- the line that tells where a text is no report
unfoldable pub no_report_text : Progress → ℕ → List ℕ
no_report_text p octet = codes "report " ++ decimal (risen p.reports) ++ codes " line " ++ decimal (risen p.line) ++ codes " octet " ++ decimal octet ++ codes "\n"
