-- Packets that are denied leave nothing in an output.
use Rattle.std.proofs.Common.{◌≡◌, ℕ, zero, suc, Bool, true, false, List, [], ◌∷◌, slice_get, All, Some, refl, ap, ◌∙◌, arith}
use Rattle.std.specs.Prelude.{if◌then◌else◌}
use Rattle.std.specs.Option.{option_map}
use Rattle.std.proofs.lemmas.Bool.{false≢true}
use Rattle.std.proofs.lemmas.Option.{none-some, same_Some}
use Rattle.std.proofs.lemmas.List.Elements.{All-cons, All-weaker}
use Rattle.pcap_frames.specs.Record.{Frame}
use Rattle.captures.specs.declared.format.CaptureFormat.{CaptureFormat}
use Rattle.captures.specs.Frame.{CapturedFrame}
use Rattle.captures.specs.Written.{file_octets}
use Rattle.label_flow.specs.Pair.{PairState}
use Rattle.script_run.specs.flow_run.Run.{FlowRun, is_denied, kept_frames, output_capture}
use Rattle.script_run.specs.flow_run.Laws.{IsOfPassed, all_but, run_without}

abbrev left_by : CapturedFrame → PairState → Frame
left_by frame pair = record { head = frame.head; octets = pair.octets }

pub kept_passed : (frames : List CapturedFrame) (pairs : List PairState) → All (IsOfPassed frames pairs) (kept_frames frames pairs)
kept_passed [] pairs = λ k d less. absurd (omega (arith, less))
kept_passed (frame ∷ frames) [] = λ k d less. absurd (omega (arith, less))
kept_passed (frame ∷ frames) (pair ∷ pairs) =
    by_end (is_denied pair.walked.end) refl
    (All-weaker (IsOfPassed frames pairs) (IsOfPassed (frame ∷ frames) (pair ∷ pairs))
    (λ kept is. record { number = suc is.number; frame = is.frame; judged = is.judged; came = is.came; became = is.became; passed = is.passed; is = is.is }) (kept_frames frames pairs)
    (kept_passed frames pairs))
  where
    by_end : (b : Bool) → is_denied pair.walked.end ≡ b → All (IsOfPassed (frame ∷ frames) (pair ∷ pairs)) (kept_frames frames pairs)
        → All (IsOfPassed (frame ∷ frames) (pair ∷ pairs)) (if b then kept_frames frames pairs else left_by frame pair ∷ kept_frames frames pairs)
    by_end true e later = later
    by_end false e later =
        All-cons (IsOfPassed (frame ∷ frames) (pair ∷ pairs)) (left_by frame pair) (kept_frames frames pairs)
        (record { number = zero; frame = frame; judged = pair; came = refl; became = refl; passed = e; is = refl }) later

same_kept : (n : ℕ) (frames : List CapturedFrame) (pairs : List PairState) (denied : PairState) → slice_get pairs n ≡ Some denied → is_denied denied.walked.end ≡ true
    → kept_frames frames pairs ≡ kept_frames (all_but n frames) (all_but n pairs)
same_kept n frames [] denied found is = absurd (none-some _ found)
same_kept zero [] (pair ∷ pairs) denied found is = refl
same_kept (suc n) [] (pair ∷ pairs) denied found is = refl
same_kept zero (frame ∷ frames) (pair ∷ pairs) denied found is =
    by_end (is_denied pair.walked.end) (ap (λ (p : PairState). is_denied p.walked.end) (same_Some _ _ found) ∙ is)
  where
    by_end : (b : Bool) → b ≡ true → (if b then kept_frames frames pairs else left_by frame pair ∷ kept_frames frames pairs) ≡ kept_frames frames pairs
    by_end true e = refl
    by_end false e = absurd (false≢true e)
same_kept (suc n) (frame ∷ frames) (pair ∷ pairs) denied found is =
    ap (λ (kept : List Frame). if is_denied pair.walked.end then kept else left_by frame pair ∷ kept) (same_kept n frames pairs denied found is)

pub same_output : (run : FlowRun) (n : ℕ) (pair : PairState) → slice_get run.pairs n ≡ Some pair → is_denied pair.walked.end ≡ true → output_capture run ≡ output_capture (run_without n run)
same_output run n pair found is =
    ap (λ (kept : List Frame). option_map (λ (format : CaptureFormat). file_octets format kept) run.input.format) (same_kept n run.input.frames run.pairs pair found is)
