-- What was asked for has one report, one status, one list of stages and one of outputs, and words ask for one thing.
use Rattle.std.proofs.Common.{◌≡◌, ℕ, ◌+◌, ◌-◌, List, [], ◌∷◌, length, map, get_or, take, Option, Some, None, Result, Ok, Err, refl, sym, ap, subst, ◌∙◌, arith, inl, inr}
use Rattle.std.specs.Prelude.{codes}
use Rattle.std.proofs.lemmas.Fmt.{decimal_injective}
use Rattle.mls_label.specs.declared.label.Label.{Label}
use Rattle.mls_range.specs.LabelText.{IsLabelText}
use Rattle.mls_range.proofs.Law.{a_text_has_one_label}
use Rattle.script_lines.specs.command_values.Doi.{doi_of_text}
use Rattle.label_commands.specs.declared.flow_lines.flow.FlowLine.{FlowLine}
use Rattle.label_commands.specs.declared.script.Script.{Script}
use Rattle.label_commands.specs.declared.stop.ScriptStop.{ScriptStop}
use Rattle.captures.specs.declared.format.CaptureFormat.{CaptureFormat}
use Rattle.captures.specs.declared.fault.FileFault.{FileFault}
use Rattle.captures.specs.CaptureFile.{CaptureFile, capture_file}
use Rattle.netlabel_run.specs.declared.command.Command.{Command}
use Rattle.netlabel_run.specs.declared.command.Command.TheVariants.{Judge, Check, Show, Agree, Make, Run}
use Rattle.call_report.specs.Lines.Denial.{verdict_line}
use Rattle.label_commands.specs.command_words.Numbers.{number_named, versions_named}
use Rattle.netlabel_run.specs.Words.{AsksToJudge, AsksToRun, plainly, with_workers, AsksToAgree, without_versions, with_versions, AsksToMake, IsAsked}
use Rattle.call_report.specs.script_input.ScriptFile.{script_read, ByAnswer, ByScript, script_stop_status, ScriptReport, ScriptStatus}
use Rattle.netlabel_run.specs.Judge.{JudgeReport, absent, too_long, judged, JudgeStatus}
use Rattle.netlabel_run.specs.Check.{CheckReport, CheckStatus}
use Rattle.netlabel_run.specs.Agree.{IsFound, agree_text}
use Rattle.call_report.specs.script_input.Answer.{HopsAnswer}
use Rattle.call_report.proofs.script_input.Law.{one_answer}
use Rattle.netlabel_run.specs.Show.{lines_report, CaptureReport, ShowReport, ShowStatus}
use Rattle.netlabel_run.specs.Run.{AreItsRuns, flow_stage}
use Rattle.netlabel_run.specs.Commands.{netlabel_says}
use Rattle.call_report.specs.Event.{Event, packets_limit, capture_event}
use Rattle.call_report.specs.Stages.{reading_stage}
use Rattle.call_report.specs.Lines.Script.{script_stop_line}
use Rattle.script_run.specs.flow_run.Input.{flow_input}
use Rattle.script_run.specs.flow_run.Run.{FlowRun}
use Rattle.label_flow.specs.flow_access.Valid.{plan_of}
use Rattle.script_run.specs.Runs.{StatusOr, FlowsStatus}
use Rattle.script_run.specs.Report.{runs_report, runs_outputs}
use Rattle.script_run.proofs.Law.{runs_are_determined}
use Rattle.call_report.specs.Report.{Folder, Versions, Report, late_report}
use Rattle.netlabel_run.specs.Laws.{IsOne, IsDetermined}
use Rattle.netlabel_run.proofs.Answer.{verdict_once, lines_once}
use Rattle.netlabel_run.proofs.Found.{one_found}

judge_report_once : (doi : ℕ) (level : Label) (file : Option (List ℕ)) → IsOne (JudgeReport doi level file)
judge_report_once doi level None a b absent absent = refl
judge_report_once doi level (Some octets) a b (too_long o long) (too_long p long') = refl
judge_report_once doi level (Some octets) a b (too_long o long) (judged p v short is) = absurd (omega (long, short, arith))
judge_report_once doi level (Some octets) a b (judged o v short is) (too_long p long) = absurd (omega (long, short, arith))
judge_report_once doi level (Some octets) a b (judged o v short is) (judged p w short' is') =
    ap (λ verdict. late_report (verdict_line verdict) []) (verdict_once doi level octets v w is is')

judge_status_once : (file : Option (List ℕ)) → IsOne (JudgeStatus file)
judge_status_once None a b x y = absurd x
judge_status_once (Some octets) a b (inl x) (inl y) = x.1 ∙ sym y.1
judge_status_once (Some octets) a b (inl x) (inr y) = absurd (omega (x.0, y.0, arith))
judge_status_once (Some octets) a b (inr x) (inl y) = absurd (omega (x.0, y.0, arith))
judge_status_once (Some octets) a b (inr x) (inr y) = x.1 ∙ sym y.1

capture_report_once : (read : Result CaptureFile FileFault) → IsOne (CaptureReport read)
capture_report_once (Err fault) a b x y = x ∙ sym y
capture_report_once (Ok capture) a b x y =
    x.2
    ∙ ap (λ lines. lines_report lines (capture_event 1 packets_limit capture)) (lines_once 1 (take packets_limit capture.frames) x.0 y.0 x.1 y.1)
    ∙ sym y.2

pub show_report_once : (file : Option (List ℕ)) → IsOne (ShowReport file)
show_report_once None a b x y = x ∙ sym y
show_report_once (Some octets) a b x y = capture_report_once (capture_file octets) a b x y

show_status_once : (file : Option (List ℕ)) → IsOne (ShowStatus file)
show_status_once None a b x y = absurd x
show_status_once (Some octets) a b x y = x ∙ sym y

check_report_once : (name : List ℕ) (file : Option (List ℕ)) → IsOne (CheckReport name file)
check_report_once name None a b x y = x ∙ sym y
check_report_once name (Some text) a b x y = x ∙ sym y

check_status_once : (name : List ℕ) (file : Option (List ℕ)) → IsOne (CheckStatus name file)
check_status_once name None a b x y = absurd x
check_status_once name (Some text) a b x y = x ∙ sym y

by_answer_once : {A : Type 0} (answer : Result Script ScriptStop) (refused : ScriptStop → A → Type 0) (read : Script → A → Type 0) → ((stop : ScriptStop) → IsOne (refused stop)) → ((script : Script) → IsOne (read script))
    → IsOne (λ (a : A). ByAnswer answer (λ stop. refused stop a) (λ script. read script a))
by_answer_once {A} (Err stop) refused read r s = r stop
by_answer_once {A} (Ok script) refused read r s = s script

by_script_once : {A : Type 0} (file : List ℕ) (o : Option (List ℕ)) (nothing : A → Type 0) (refused : ScriptStop → A → Type 0) (read : Script → A → Type 0) → IsOne nothing → ((stop : ScriptStop) → IsOne (refused stop))
    → ((script : Script) → IsOne (read script)) → IsOne (λ (a : A). ByScript file o (nothing a) (λ stop. refused stop a) (λ script. read script a))
by_script_once {A} file None nothing refused read n r s = n
by_script_once {A} file (Some text) nothing refused read n r s = by_answer_once (script_read file text) refused read r s

abbrev AgreeAnswer : ℕ → Option (List ℕ) → Script → ℕ → Report → Type 0
AgreeAnswer number named = HopsAnswer IsFound agree_text number named

agree_status_once : (name : List ℕ) (number : ℕ) (named : Option (List ℕ)) (file : Option (List ℕ)) → IsOne (ScriptStatus (AgreeAnswer number named) name file)
agree_status_once name number named file = by_script_once name file (λ status. ⊥) (λ stop status. status ≡ script_stop_status stop)
    (λ script status. (report : Report) × AgreeAnswer number named script status report)
    (λ a b x y. absurd x) (λ stop a b x y. x ∙ sym y) (λ script a b x y. (one_answer IsFound one_found agree_text number named script a b x.0 y.0 x.1 y.1).0)

agree_report_once : (name : List ℕ) (number : ℕ) (named : Option (List ℕ)) (file : Option (List ℕ)) → IsOne (ScriptReport (AgreeAnswer number named) name file)
agree_report_once name number named file = by_script_once name file (λ report. report ≡ late_report [] []) (λ stop report. report ≡ late_report [] (script_stop_line stop))
    (λ script report. (status : ℕ) × AgreeAnswer number named script status report)
    (λ a b x y. x ∙ sym y) (λ stop a b x y. x ∙ sym y) (λ script a b x y. (one_answer IsFound one_found agree_text number named script x.0 y.0 a b x.1 y.1).1)

status_or_once : (event : Option Event) (format : Option CaptureFormat) (Rest : ℕ → Type 0) → IsOne Rest → IsOne (λ status. StatusOr event format (Rest status) status)
status_or_once (Some event) format Rest one a b x y = x ∙ sym y
status_or_once None (Some format) Rest one a b x y = one a b x y
status_or_once None None Rest one a b x y = absurd x

flows_status_once : (held : Folder) (number most : ℕ) (flows : List FlowLine) → IsOne (FlowsStatus held number most flows)
flows_status_once held number most [] a b x y = x ∙ sym y
flows_status_once held number most (flow ∷ flows) a b x y =
    let input = flow_input number most (held flow.input) in
    status_or_once input.event input.format (FlowsStatus held (number + 1) (most - length input.frames) flows) (flows_status_once held (number + 1) (most - length input.frames) flows) a b x y

run_has_no_word : (words : List (List ℕ)) (file : List ℕ) (workers : ℕ) (command other : List ℕ) → AsksToRun words file workers → words ≡ command ∷ other ∷ [] → (command ≡ codes "run" → ⊥) → ⊥
run_has_no_word words file workers command other (plainly are name) is other_word = other_word (ap (λ ws. get_or ws 0 []) (sym is ∙ are))
run_has_no_word words file workers command other (with_workers t w are name named) is other_word = other_word (ap (λ ws. get_or ws 0 []) (sym is ∙ are))

run_is_no_judge : (words : List (List ℕ)) (file : List ℕ) (workers doi : ℕ) (level : Label) (file' : List ℕ) → AsksToRun words file workers → AsksToJudge words doi level file' → ⊥
run_is_no_judge words file workers doi level file' (plainly are name) b = omega (arith, ap length are, ap length b.are)
run_is_no_judge words file workers doi level file' (with_workers t w are name named) b = absurd (let same = sym are ∙ b.are in cc)

run_once : (words : List (List ℕ)) (file file' : List ℕ) (workers workers' : ℕ) → AsksToRun words file workers → AsksToRun words file' workers' → Some (Run file workers) ≡ Some (Run file' workers')
run_once words file file' workers workers' (plainly are name) (plainly are' name') = ap (λ ws. Some (Run (get_or ws 1 []) 4)) (sym are ∙ are')
run_once words file file' workers workers' (plainly are name) (with_workers t w' are' name' named') = absurd (omega (arith, ap length are, ap length are'))
run_once words file file' workers workers' (with_workers t w are name named) (plainly are' name') = absurd (omega (arith, ap length are, ap length are'))
run_once words file file' workers workers' (with_workers t w are name named) (with_workers t' w' are' name' named') =
    let same = sym are ∙ are' in
    let f : file ≡ file' = ap (λ ws. get_or ws 1 []) same in
    let n : t ≡ t' = ap (λ ws. get_or ws 3 []) same in
    let same_workers : w ≡ w' = decimal_injective w w' (omega (arith, named.few)) (omega (arith, named'.few)) (sym named.is ∙ n ∙ named'.is) in
    cc

run_begins : (words : List (List ℕ)) (file : List ℕ) (workers : ℕ) → AsksToRun words file workers → get_or words 0 [] ≡ codes "run"
run_begins words file workers (plainly are name) = ap (λ ws. get_or ws 0 []) are
run_begins words file workers (with_workers t w are name named) = ap (λ ws. get_or ws 0 []) are

-- words that begin with another one don't ask to compare hops
agree_has_no_word : (words : List (List ℕ)) (file : List ℕ) (flow : ℕ) (versions : Option (List ℕ)) (command : List ℕ) → AsksToAgree words file flow versions → get_or words 0 [] ≡ command
    → (command ≡ codes "agree" → ⊥) → ⊥
agree_has_no_word words file flow versions command (without_versions t are name is) begins other = other (sym begins ∙ ap (λ ws. get_or ws 0 []) are)
agree_has_no_word words file flow versions command (with_versions t l v are name is lists) begins other = other (sym begins ∙ ap (λ ws. get_or ws 0 []) are)

agree_once : (words : List (List ℕ)) (file file' : List ℕ) (flow flow' : ℕ) (versions versions' : Option (List ℕ)) → AsksToAgree words file flow versions → AsksToAgree words file' flow' versions'
    → Some (Agree file flow versions) ≡ Some (Agree file' flow' versions')
agree_once words file file' flow flow' versions versions' (without_versions t are name is) (without_versions t' are' name' is') =
    let same = sym are ∙ are' in
    let f : file ≡ file' = ap (λ ws. get_or ws 1 []) same in
    let n : t ≡ t' = ap (λ ws. get_or ws 2 []) same in
    let some_same : Some flow ≡ Some flow' = sym is ∙ ap number_named n ∙ is' in
    let flow_same : flow ≡ flow' = cc in
    cc
agree_once words file file' flow flow' versions versions' (without_versions t are name is) (with_versions t' l' v' are' name' is' lists') = absurd (omega (arith, ap length are, ap length are'))
agree_once words file file' flow flow' versions versions' (with_versions t l v are name is lists) (without_versions t' are' name' is') = absurd (omega (arith, ap length are, ap length are'))
agree_once words file file' flow flow' versions versions' (with_versions t l v are name is lists) (with_versions t' l' v' are' name' is' lists') =
    let same = sym are ∙ are' in
    let f : file ≡ file' = ap (λ ws. get_or ws 1 []) same in
    let n : t ≡ t' = ap (λ ws. get_or ws 2 []) same in
    let m : l ≡ l' = ap (λ ws. get_or ws 3 []) same in
    let some_same : Some flow ≡ Some flow' = sym is ∙ ap number_named n ∙ is' in
    let flow_same : flow ≡ flow' = cc in
    let versions_same : Some v ≡ Some v' = sym lists ∙ ap versions_named m ∙ lists' in
    cc

make_begins : (words : List (List ℕ)) (seed count : ℕ) (file : List ℕ) → AsksToMake words seed count file → get_or words 0 [] ≡ codes "make"
make_begins words seed count file asks = ap (λ ws. get_or ws 0 []) asks.are

-- words that ask for `make` ask for nothing else
make_alone : (words : List (List ℕ)) (seed count : ℕ) (file command : List ℕ) → AsksToMake words seed count file → get_or words 0 [] ≡ command → (codes "make" ≡ command → ⊥) → ⊥
make_alone words seed count file command asks begins other = other (sym (make_begins words seed count file asks) ∙ begins)

make_once : (words : List (List ℕ)) (seed seed' count count' : ℕ) (file file' : List ℕ) → AsksToMake words seed count file → AsksToMake words seed' count' file'
    → Some (Make seed count file) ≡ Some (Make seed' count' file')
make_once words seed seed' count count' file file' a b =
    let same = sym a.are ∙ b.are in
    let s : seed ≡ seed' = decimal_injective seed seed' a.below b.below (ap (λ ws. get_or ws 1 []) same) in
    let n : count ≡ count' = decimal_injective count count' (omega (arith, a.few)) (omega (arith, b.few)) (ap (λ ws. get_or ws 2 []) same) in
    let f : file ≡ file' = ap (λ ws. get_or ws 3 []) same in
    cc

pub determined : (request : Option Command) (held : Folder) (seen : Versions) → IsDetermined (netlabel_says request) held seen
determined None held seen = record {
  status = λ a b x y. x ∙ sym y;
  report = λ a b x y. x ∙ sym y;
  stages = λ a b x y. x.1 ∙ sym y.1;
  outputs = λ a b x y. x ∙ sym y;
}
determined (Some (Judge doi level file)) held seen = record {
  status = judge_status_once (held file);
  report = judge_report_once doi level (held file);
  stages = λ a b x y. x.1 ∙ sym y.1;
  outputs = λ a b x y. x ∙ sym y;
}
determined (Some (Check file)) held seen = record {
  status = check_status_once file (held file);
  report = check_report_once file (held file);
  stages = λ a b x y. x.1 ∙ sym y.1;
  outputs = λ a b x y. x ∙ sym y;
}
determined (Some (Show file)) held seen = record {
  status = show_status_once (held file);
  report = show_report_once (held file);
  stages = λ a b x y. x.1 ∙ sym y.1;
  outputs = λ a b x y. x ∙ sym y;
}
determined (Some (Agree file flow versions)) held seen = record {
  status = agree_status_once file flow versions (held file);
  report = agree_report_once file flow versions (held file);
  stages = λ a b x y. x.1 ∙ sym y.1;
  outputs = λ a b x y. x ∙ sym y;
}
determined (Some (Make seed count file)) held seen = record {
  status = λ a b x y. x ∙ sym y;
  report = λ a b x y. x ∙ sym y;
  stages = λ a b x y. x.1 ∙ sym y.1;
  outputs = λ a b x y. x ∙ sym y;
}
determined (Some (Run file workers)) held seen = record {
  status = by_script_once file (held file) (λ status. ⊥) (λ stop status. status ≡ script_stop_status stop) (λ script status. FlowsStatus held 1 packets_limit script.flows status)
      (λ a b x y. absurd x) (λ stop a b x y. x ∙ sym y) (λ script. flows_status_once held 1 packets_limit script.flows);
  report = by_script_once file (held file) (λ report. report ≡ late_report [] []) (λ stop report. report ≡ late_report [] (script_stop_line stop))
      (λ script report. (runs : List FlowRun) × AreItsRuns script held seen runs × (report ≡ runs_report script runs))
      (λ a b x y. x ∙ sym y) (λ stop a b x y. x ∙ sym y)
      (λ script a b x y. x.2 ∙ ap (runs_report script) (runs_are_determined (plan_of script) held 1 packets_limit script.flows seen x.0 y.0 x.1 y.1) ∙ sym y.2);
  stages = λ a b x y. by_script_once file (held file) (λ stages. stages ≡ reading_stage file ∷ []) (λ stop stages. stages ≡ reading_stage file ∷ [])
      (λ script stages. stages ≡ reading_stage file ∷ map flow_stage (take (length seen) script.flows))
      (λ a b x y. x ∙ sym y) (λ stop a b x y. x ∙ sym y) (λ script a b x y. x ∙ sym y) a b x.1 y.1;
  outputs = by_script_once file (held file) (λ outputs. outputs ≡ []) (λ stop outputs. outputs ≡ [])
      (λ script outputs. (runs : List FlowRun) × AreItsRuns script held seen runs × (outputs ≡ runs_outputs runs))
      (λ a b x y. x ∙ sym y) (λ stop a b x y. x ∙ sym y)
      (λ script a b x y. x.2 ∙ ap runs_outputs (runs_are_determined (plan_of script) held 1 packets_limit script.flows seen x.0 y.0 x.1 y.1) ∙ sym y.2);
}

-- a word that begins with another letter than `agree`
begins_apart : (word : List ℕ) (letter : ℕ) → get_or word 0 0 ≡ letter → (letter ≡ 97 → ⊥) → word ≡ codes "agree" → ⊥
begins_apart word letter begins other e = other (sym begins ∙ ap (λ w. get_or w 0 0) e)

-- words ask for one thing at the most
pub asked_once : (words : List (List ℕ)) → IsOne (IsAsked words)
asked_once words None None a b = refl
asked_once words None (Some command) a b = absurd (a (command, b))
asked_once words (Some command) None a b = absurd (b (command, a))
asked_once words (Some (Judge doi level file)) (Some (Judge doi' level' file')) a b =
    let same = sym a.are ∙ b.are in
    let d : a.doi_text ≡ b.doi_text = ap (λ ws. get_or ws 1 []) same in
    let l : a.level_text ≡ b.level_text = ap (λ ws. get_or ws 2 []) same in
    let f : file ≡ file' = ap (λ ws. get_or ws 3 []) same in
    let some_same : Some doi ≡ Some doi' = sym a.is_doi ∙ ap doi_of_text d ∙ b.is_doi in
    let doi_same : doi ≡ doi' = cc in
    let level_same : level ≡ level' = a_text_has_one_label b.level_text level level' (subst (λ t. IsLabelText t level) l a.is_level.reads) b.is_level.reads in
    cc
asked_once words (Some (Show file)) (Some (Show file')) a b = ap (λ ws. Some (Show (get_or ws 1 []))) (sym a.are ∙ b.are)
asked_once words (Some (Judge doi level file)) (Some (Show file')) a b = absurd (let same = sym a.are ∙ b.are in cc)
asked_once words (Some (Show file)) (Some (Judge doi level file')) a b = absurd (let same = sym a.are ∙ b.are in cc)
asked_once words (Some (Check file)) (Some (Check file')) a b = ap (λ ws. Some (Check (get_or ws 1 []))) (sym a.are ∙ b.are)
asked_once words (Some (Judge doi level file)) (Some (Check file')) a b = absurd (let same = sym a.are ∙ b.are in cc)
asked_once words (Some (Check file)) (Some (Judge doi level file')) a b = absurd (let same = sym a.are ∙ b.are in cc)
asked_once words (Some (Show file)) (Some (Check file')) a b = absurd (let same = sym a.are ∙ b.are in cc)
asked_once words (Some (Check file)) (Some (Show file')) a b = absurd (let same = sym a.are ∙ b.are in cc)
asked_once words (Some (Run file workers)) (Some (Judge doi level file')) a b = absurd (run_is_no_judge words file workers doi level file' a b)
asked_once words (Some (Judge doi level file)) (Some (Run file' workers)) a b = absurd (run_is_no_judge words file' workers doi level file b a)
asked_once words (Some (Run file workers)) (Some (Check file')) a b = absurd (run_has_no_word words file workers (codes "check") file' a b.are (λ e. cc))
asked_once words (Some (Check file)) (Some (Run file' workers)) a b = absurd (run_has_no_word words file' workers (codes "check") file b a.are (λ e. cc))
asked_once words (Some (Run file workers)) (Some (Show file')) a b = absurd (run_has_no_word words file workers (codes "show") file' a b.are (λ e. cc))
asked_once words (Some (Show file)) (Some (Run file' workers)) a b = absurd (run_has_no_word words file' workers (codes "show") file b a.are (λ e. cc))
asked_once words (Some (Agree file flow versions)) (Some (Judge doi level file')) a b = absurd (agree_has_no_word words file flow versions (codes "judge") a (ap (λ ws. get_or ws 0 []) b.are) (begins_apart (codes "judge") 106 refl (λ e. omega (arith, e))))
asked_once words (Some (Judge doi level file)) (Some (Agree file' flow versions)) a b = absurd (agree_has_no_word words file' flow versions (codes "judge") b (ap (λ ws. get_or ws 0 []) a.are) (begins_apart (codes "judge") 106 refl (λ e. omega (arith, e))))
asked_once words (Some (Agree file flow versions)) (Some (Check file')) a b = absurd (agree_has_no_word words file flow versions (codes "check") a (ap (λ ws. get_or ws 0 []) b.are) (begins_apart (codes "check") 99 refl (λ e. omega (arith, e))))
asked_once words (Some (Check file)) (Some (Agree file' flow versions)) a b = absurd (agree_has_no_word words file' flow versions (codes "check") b (ap (λ ws. get_or ws 0 []) a.are) (begins_apart (codes "check") 99 refl (λ e. omega (arith, e))))
asked_once words (Some (Agree file flow versions)) (Some (Show file')) a b = absurd (agree_has_no_word words file flow versions (codes "show") a (ap (λ ws. get_or ws 0 []) b.are) (begins_apart (codes "show") 115 refl (λ e. omega (arith, e))))
asked_once words (Some (Show file)) (Some (Agree file' flow versions)) a b = absurd (agree_has_no_word words file' flow versions (codes "show") b (ap (λ ws. get_or ws 0 []) a.are) (begins_apart (codes "show") 115 refl (λ e. omega (arith, e))))
asked_once words (Some (Agree file flow versions)) (Some (Run file' workers)) a b = absurd (agree_has_no_word words file flow versions (codes "run") a (run_begins words file' workers b) (begins_apart (codes "run") 114 refl (λ e. omega (arith, e))))
asked_once words (Some (Run file workers)) (Some (Agree file' flow versions)) a b = absurd (agree_has_no_word words file' flow versions (codes "run") b (run_begins words file workers a) (begins_apart (codes "run") 114 refl (λ e. omega (arith, e))))
asked_once words (Some (Agree file flow versions)) (Some (Agree file' flow' versions')) a b = agree_once words file file' flow flow' versions versions' a b
asked_once words (Some (Run file workers)) (Some (Run file' workers')) a b = run_once words file file' workers workers' a b
asked_once words (Some (Make seed count file)) (Some (Make seed' count' file')) a b = make_once words seed seed' count count' file file' a b
asked_once words (Some (Make seed count file)) (Some (Judge doi level file')) a b = absurd (make_alone words seed count file (codes "judge") a (ap (λ ws. get_or ws 0 []) b.are) (λ e. cc))
asked_once words (Some (Judge doi level file)) (Some (Make seed count file')) a b = absurd (make_alone words seed count file' (codes "judge") b (ap (λ ws. get_or ws 0 []) a.are) (λ e. cc))
asked_once words (Some (Make seed count file)) (Some (Check file')) a b = absurd (make_alone words seed count file (codes "check") a (ap (λ ws. get_or ws 0 []) b.are) (λ e. cc))
asked_once words (Some (Check file)) (Some (Make seed count file')) a b = absurd (make_alone words seed count file' (codes "check") b (ap (λ ws. get_or ws 0 []) a.are) (λ e. cc))
asked_once words (Some (Make seed count file)) (Some (Show file')) a b = absurd (make_alone words seed count file (codes "show") a (ap (λ ws. get_or ws 0 []) b.are) (λ e. cc))
asked_once words (Some (Show file)) (Some (Make seed count file')) a b = absurd (make_alone words seed count file' (codes "show") b (ap (λ ws. get_or ws 0 []) a.are) (λ e. cc))
asked_once words (Some (Make seed count file)) (Some (Run file' workers)) a b = absurd (make_alone words seed count file (codes "run") a (run_begins words file' workers b) (λ e. cc))
asked_once words (Some (Run file workers)) (Some (Make seed count file')) a b = absurd (make_alone words seed count file' (codes "run") b (run_begins words file workers a) (λ e. cc))
asked_once words (Some (Make seed count file)) (Some (Agree file' flow versions)) a b = absurd (agree_has_no_word words file' flow versions (codes "make") b (make_begins words seed count file a) (begins_apart (codes "make") 109 refl (λ e. omega (arith, e))))
asked_once words (Some (Agree file flow versions)) (Some (Make seed count file')) a b = absurd (agree_has_no_word words file flow versions (codes "make") a (make_begins words seed count file' b) (begins_apart (codes "make") 109 refl (λ e. omega (arith, e))))
