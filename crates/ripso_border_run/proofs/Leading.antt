-- What a call comes to whose capture is read so far: how it goes on doesn't matter for what was printed and written.
use Rattle.std.proofs.Common.{◌≡◌, ℕ, ◌+◌, ◌-◌, ◌≤◌, Bool, List, [], ◌∷◌, ◌++◌, length, take, Option, Some, None, Result, Ok, Err, refl, sym, ap, subst, ◌∙◌, append_assoc, arith}
use Rattle.std.specs.Prelude.{IsTrue, Contains}
use Rattle.std.specs.List.{concat}
use Rattle.std.proofs.Math.Seq.{take-append-add}
use Rattle.pcap_frames.specs.Capture.{capture_of}
use Rattle.pcap_frames.specs.Reader.{Reader}
use Rattle.pcap_frames.specs.Record.{Frame}
use Rattle.doi_table.specs.declared.plan.DoiPlan.{DoiPlan}
use Rattle.captures.specs.declared.fault.FileFault.{FileFault}
use Rattle.captures.specs.declared.format.CaptureFormat.TheVariants as format
use Rattle.captures.specs.Frame.{CapturedFrame}
use Rattle.captures.specs.CaptureFile.{CaptureFile, by_pcap}
use Rattle.captures.specs.Reader.{FramesLeft}
use Rattle.captures.specs.Written.{file_frames, file_octets, file_head}
use Rattle.captures.proofs.Law.{frames_of_a_file_are_written_in_their_order}
use Rattle.call_report.specs.Event.{Event, packets_limit, capture_event}
use Rattle.call_report.specs.Outside.{Outside}
use Rattle.call_report.specs.Report.{Folder}
use Rattle.ripso_border_run.specs.declared.task.Task.{Task}
use Rattle.ripso_border_run.specs.Frames.{AreMadeOf, written_frames, made_lines, count_passed, count_denied, border_report}
use Rattle.ripso_border_run.specs.Lines.{Made, crossed_end_line}
use Rattle.ripso_border_run.specs.Outcome.{Outcome, ByInput, ByCapture, IsOutcome, capture_crossed}
use Rattle.ripso_border_run.specs.inside.Course.{IsPlanned, with_left}
use Rattle.ripso_border_run.proofs.Made.{all_made, are_once, are_joined, written_joined, text_joined, starts_contain}

-- what the call comes to begins with this text, and with these octets of the output
pub record Leads (task : Task) (held : Folder) (text octets : List ℕ) : Type 0 where
  pub outcome : Outcome
  pub is : IsOutcome task held outcome
  pub rest : List ℕ
  pub body : outcome.report.body ≡ text ++ rest
  pub all : List ℕ
  pub more : List ℕ
  pub splits : all ≡ octets ++ more
  pub outputs : outcome.outputs ≡ record { name = task.output; octets = Some all } ∷ []
  pub pauses : Contains outcome.report.pauses text

-- fewer octets lead there too
pub leads_less : (task : Task) (held : Folder) (text octets behind : List ℕ) → Leads task held text (octets ++ behind) → Leads task held text octets
leads_less task held text octets behind leads = record {
  outcome = leads.outcome;
  is = leads.is;
  rest = leads.rest;
  body = leads.body;
  all = leads.all;
  more = behind ++ leads.more;
  splits = leads.splits ∙ append_assoc octets behind leads.more;
  outputs = leads.outputs;
  pauses = leads.pauses;
}

-- ---- one outcome

module _ (task : Task) (plan : DoiPlan) where
  capture_once : (read : Result CaptureFile FileFault) (a b : Outcome) → ByCapture task plan read a → ByCapture task plan read b → a ≡ b
  capture_once (Err fault) a b x y = x ∙ sym y
  capture_once (Ok file) a b x y =
      x.2
      ∙ ap (λ (made : List Made). capture_crossed task.output file made (capture_event 1 packets_limit file)) (are_once task.way plan task.doi (take packets_limit file.frames) x.0 y.0 x.1 y.1)
      ∙ sym y.2

  input_once : (held : Option (List ℕ)) (a b : Outcome) → ByInput task plan held a → ByInput task plan held b → a ≡ b
  input_once None a b x y = x ∙ sym y
  input_once (Some octets) a b x y = capture_once (by_pcap (capture_of octets)) a b x y

  pub outcome_once : (before : Outside) → IsPlanned task plan before → IsTrue before.folder.tells → (a b : Outcome) → IsOutcome task before.folder.held a → IsOutcome task before.folder.held b → a ≡ b
  outcome_once before planned told a b x y = input_once (before.folder.held task.input) a b (planned.only told a x) (planned.only told b y)

  some_capture : (read : Result CaptureFile FileFault) → (outcome : Outcome) × ByCapture task plan read outcome
  some_capture (Err fault) = (_, refl)
  some_capture (Ok file) =
      let made = all_made task.way plan task.doi (take packets_limit file.frames) in
      (capture_crossed task.output file made.0 (capture_event 1 packets_limit file), (made.0, made.1, refl))

  pub some_outcome : (held : Option (List ℕ)) → (outcome : Outcome) × ByInput task plan held outcome
  some_outcome None = (_, refl)
  some_outcome (Some octets) = some_capture (by_pcap (capture_of octets))

  -- the outcome of a capture of which so much is known
  pub outcome_of : (before : Outside) → IsPlanned task plan before → IsTrue before.folder.tells → (octets : List ℕ) → before.folder.held task.input ≡ Some octets
      → (file : CaptureFile) → by_pcap (capture_of octets) ≡ Ok file → (made : List Made) → AreMadeOf task.way plan task.doi (take packets_limit file.frames) made
      → IsOutcome task before.folder.held (capture_crossed task.output file made (capture_event 1 packets_limit file))
  outcome_of before planned told octets holds file is made are =
      let outcome = capture_crossed task.output file made (capture_event 1 packets_limit file) in
      planned.leads told outcome
      (subst (λ (o : Option (List ℕ)). ByInput task plan o outcome) (sym holds)
      (subst (λ (r : Result CaptureFile FileFault). ByCapture task plan r outcome) (sym is) (made, are, refl)))

-- ---- bodies and pauses

body_front : (made more : List Made) (event : Option Event) → (rest : List ℕ) × ((border_report (made ++ more) event).body ≡ concat (made_lines 1 made) ++ rest)
body_front made more None =
    let end = crossed_end_line (length (made ++ more)) (count_passed (made ++ more)) (count_denied (made ++ more)) in
    let behind = concat (made_lines (1 + length made) more) in
    (behind ++ end, ap (λ t. t ++ end) (text_joined made more) ∙ append_assoc (concat (made_lines 1 made)) behind end)
body_front made more (Some event) = (concat (made_lines (1 + length made) more), text_joined made more)

pauses_contain : (made more : List Made) (event : Option Event) → Contains (border_report (made ++ more) event).pauses (concat (made_lines 1 made))
pauses_contain made more None = starts_contain made more
pauses_contain made more (Some event) = starts_contain made more

-- ---- the octets of the output

pub octets_joined : (nanos : Bool) (xs ys : List Frame) → file_octets (format.Pcap nanos) (xs ++ ys) ≡ file_octets (format.Pcap nanos) xs ++ file_frames (format.Pcap nanos) ys
octets_joined nanos xs ys =
    let head = file_head (format.Pcap nanos) in
    ap (λ t. head ++ t) (frames_of_a_file_are_written_in_their_order (format.Pcap nanos) xs ys)
    ∙ sym (append_assoc head (file_frames (format.Pcap nanos) xs) (file_frames (format.Pcap nanos) ys))

-- ---- amid a capture

module _ (task : Task) (plan : DoiPlan) (before : Outside) (planned : IsPlanned task plan before) (told : IsTrue before.folder.tells) (octets : List ℕ) (holds : before.folder.held task.input ≡ Some octets)
    (reader : Reader) (done behind : List CapturedFrame) (left : FramesLeft) (all : by_pcap (capture_of octets) ≡ Ok (with_left reader (done ++ behind) left))
    (made : List Made) (are : AreMadeOf task.way plan task.doi done made) (few : length done ≤ packets_limit) where
  file : CaptureFile
  file = with_left reader (done ++ behind) left

  still : List CapturedFrame
  still = take (packets_limit - length done) (behind ++ left.frames)

  taken : take packets_limit file.frames ≡ done ++ still
  unfolding file still
  taken =
      let split : length done + (packets_limit - length done) ≡ packets_limit = omega (arith, few) in
      ap (take packets_limit) (append_assoc done behind left.frames)
      ∙ ap (λ k. take k (done ++ (behind ++ left.frames))) (sym split) ∙ take-append-add done (behind ++ left.frames) (packets_limit - length done)

  pub leads_amid : Leads task before.folder.held (concat (made_lines 1 made)) (file_octets (format.Pcap reader.header.nanos) (written_frames done made))
  unfolding file
  leads_amid =
      let more = all_made task.way plan task.doi still in
      let joined = are_joined task.way plan task.doi done still made more.0 are more.1 in
      let event = capture_event 1 packets_limit file in
      let here : AreMadeOf task.way plan task.doi (take packets_limit file.frames) (made ++ more.0) =
      subst (λ (fs : List CapturedFrame). AreMadeOf task.way plan task.doi fs (made ++ more.0)) (sym taken) joined in
      let front = body_front made more.0 event in
      record {
        outcome = capture_crossed task.output file (made ++ more.0) event;
        is = outcome_of task plan before planned told octets holds file all (made ++ more.0) here;
        rest = front.0;
        body = front.1;
        all = file_octets (format.Pcap reader.header.nanos) (written_frames (take packets_limit file.frames) (made ++ more.0));
        more = file_frames (format.Pcap reader.header.nanos) (written_frames still more.0);
        splits =
            ap (λ (fs : List CapturedFrame). file_octets (format.Pcap reader.header.nanos) (written_frames fs (made ++ more.0))) taken
            ∙ ap (λ (fs : List Frame). file_octets (format.Pcap reader.header.nanos) fs) (written_joined task.way plan task.doi done still made more.0 are)
            ∙ octets_joined reader.header.nanos (written_frames done made) (written_frames still more.0);
        outputs = refl;
        pauses = pauses_contain made more.0 event;
      }
