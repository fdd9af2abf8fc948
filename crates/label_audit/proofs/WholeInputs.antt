-- Captures that are whole, as those are of which status 0 is due.
use Rattle.std.proofs.Common.{◌≡◌, ◌≤◌, ℕ, Bool, true, false, List, length, Option, Some, None, Result, Ok, Err, refl, ap, ◌∙◌, arith}
use Rattle.std.specs.Prelude.{nat_lt, is_some, if◌then◌else◌}
use Rattle.std.specs.Option.{option_map}
use Rattle.std.proofs.lemmas.Bool.{ltb-false}
use Rattle.std.proofs.lemmas.List.{take_all}
use Rattle.captures.specs.CaptureFile.{CaptureFile, capture_file}
use Rattle.captures.specs.declared.fault.FileFault.{FileFault}
use Rattle.captures.specs.declared.format.CaptureFormat.{CaptureFormat}
use Rattle.call_report.specs.Event.{Event}
use Rattle.call_report.specs.Lines.Fixed.{packets_limit_line}
use Rattle.call_report.specs.Lines.Capture.{capture_line}
use Rattle.script_run.specs.flow_run.Input.{FlowInput, flow_input, input_by}
use Rattle.script_run.specs.Runs.{StatusOr}

pub record WholeInput (number most : ℕ) (held : Option (List ℕ)) (behind : Type 0) : Type 0 where
  pub file : List ℕ
  pub capture : CaptureFile
  pub there : held ≡ Some file
  pub read : capture_file file ≡ Ok capture
  pub fault : capture.fault ≡ None
  pub few : length capture.frames ≤ most
  pub event : (flow_input number most held).event ≡ None
  pub format : is_some (flow_input number most held).format ≡ true
  pub frames : (flow_input number most held).frames ≡ capture.frames
  pub rest : behind

no_event : (few : Event) (of : FileFault → Event) (format : CaptureFormat) (behind : Type 0) (more : Bool) (fault : Option FileFault) → few.status ≡ 7 → ((f : FileFault) → (of f).status ≡ 5)
    → StatusOr (if more then Some few else option_map of fault) (Some format) behind 0 → (more ≡ false) × (fault ≡ None) × ((if more then Some few else option_map of fault) ≡ None) × behind
no_event few of format behind true fault seven five h = absurd (omega (arith, h, seven))
no_event few of format behind false (Some f) seven five h = absurd (omega (arith, h, five f))
no_event few of format behind false None seven five h = (refl, refl, refl, h)

by_read : (number most : ℕ) (file : List ℕ) (read : Result CaptureFile FileFault) (behind : Type 0) → capture_file file ≡ read → StatusOr (input_by number most read).event (input_by number most read).format behind 0
    → WholeInput number most (Some file) behind
by_read number most file (Err fault) behind is h = absurd (omega (arith, h))
by_read number most file (Ok capture) behind is h =
    let few : Event = record { status = 7; line = packets_limit_line } in
    let of : FileFault → Event = λ f. record { status = 5; line = capture_line number f } in
    let told = no_event few of capture.format behind (nat_lt most (length capture.frames)) capture.fault refl (λ f. refl) h in
    let within : length capture.frames ≤ most = ltb-false most (length capture.frames) told.0 in
    let input_is : flow_input number most (Some file) ≡ input_by number most (Ok capture) = ap (input_by number most) is in
    record {
      file = file;
      capture = capture;
      there = refl;
      read = is;
      fault = told.1;
      few = within;
      event = ap (λ (i : FlowInput). i.event) input_is ∙ told.2;
      format = ap (λ (i : FlowInput). is_some i.format) input_is;
      frames = ap (λ (i : FlowInput). i.frames) input_is ∙ take_all most capture.frames within;
      rest = told.3;
    }

pub whole_input : (number most : ℕ) (held : Option (List ℕ)) (behind : Type 0) → StatusOr (flow_input number most held).event (flow_input number most held).format behind 0 → WholeInput number most held behind
whole_input number most None behind h = absurd h
whole_input number most (Some file) behind h = by_read number most file (capture_file file) behind refl h
