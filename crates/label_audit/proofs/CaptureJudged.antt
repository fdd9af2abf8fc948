-- A flow's capture, and its packets.
use Rattle.std.proofs.Common.{◌≡◌, ◌≤◌, ◌<◌, ℕ, zero, suc, List, [], ◌∷◌, map, length, get_or, Option, Some, None, Result, Ok, Err, refl, sym, ap, ◌∙◌, arith}
use Rattle.std.specs.Prelude.{Contains, slice_get}
use Rattle.std.specs.Option.{option_map_or}
use Rattle.std.proofs.lemmas.Option.{none-some, same_Some, slice_get_read}
use Rattle.net_io.specs.Depot.{DepotState, octets_of}
use Rattle.label_commands.specs.declared.flow_lines.flow.FlowLine.{FlowLine}
use Rattle.captures.specs.declared.fault.FileFault.{FileFault}
use Rattle.captures.specs.declared.reader.AnyFrames.{AnyFrames}
use Rattle.captures.specs.CaptureFile.{CaptureFile, capture_file}
use Rattle.captures.specs.Frame.{packet_in}
use Rattle.captures.specs.Reader.{FramesLeft, file_name_of, left_of, begun_file}
use Rattle.label_audit.specs.inside.Flow.{left_by, HasBegunReading, packets_of}
use Rattle.label_audit.proofs.Among.{is_behind}

-- the line of a flow
pub flow_here : {all flows : List FlowLine} (flow : ℕ) (line : FlowLine) → all ≡ flows → flow < length flows → line ≡ get_or all flow line → slice_get flows flow ≡ Some line
flow_here {all} {flows} flow line same within is = ap (λ xs. slice_get xs flow) (sym same) ∙ slice_get_read all (length all) flow line refl (omega (arith, within, ap length same)) is

pub input_named : (flows : List FlowLine) (i : ℕ) (line : FlowLine) → slice_get flows i ≡ Some line → Contains (map (λ (flow : FlowLine). flow.input) flows) line.input
input_named [] i line at = absurd (none-some line at)
input_named (flow ∷ flows) zero line at = (0, omega arith, ap (λ (f : FlowLine). f.input) (same_Some flow line at))
input_named (flow ∷ flows) (suc i) line at = is_behind flow.input line.input (map (λ (flow : FlowLine). flow.input) flows) (input_named flows i line at)

-- what is known of the capture of a flow
abbrev pub IsWhole : Option (List ℕ) → Type 0
IsWhole held = (file : List ℕ) × (capture : CaptureFile) × (held ≡ Some file) × (capture_file file ≡ Ok capture) × (capture.fault ≡ None) × (length capture.frames ≤ 1048576)

err_ok : (fault : FileFault) (capture : CaptureFile) → (let e : Result CaptureFile FileFault = Err fault in e ≡ Ok capture) → ⊥
err_ok fault capture is = absurd cc

ok_same : (a b : CaptureFile) → (let r : Result CaptureFile FileFault = Ok a in r ≡ Ok b) → a ≡ b
ok_same a b is = cc

pub one_capture : {held : Option (List ℕ)} {file file' : List ℕ} {a b : CaptureFile} → held ≡ Some file → held ≡ Some file' → capture_file file ≡ Ok a → capture_file file' ≡ Ok b → a ≡ b
one_capture {held} {file} {file'} {a} {b} there there' read read' = ok_same a b (sym read ∙ ap capture_file (same_Some file file' (sym there ∙ there')) ∙ read')

pub none_begun : (held : Option (List ℕ)) → IsWhole held → HasBegunReading held None → ⊥
none_begun held whole begun =
    let same : whole.0 ≡ begun.0 = same_Some whole.0 begun.0 (sym whole.2 ∙ begun.2) in
    err_ok begun.1 whole.1 (sym begun.3 ∙ ap capture_file (sym same) ∙ whole.3)

module _ (held : Option (List ℕ)) (reader : AnyFrames) (whole : IsWhole held) (begun : HasBegunReading held (Some reader)) where
  capture_is : whole.1 ≡ begun_file reader begun.0
  capture_is = one_capture whole.2 begun.1 whole.3 begun.2

  module _ (folder : DepotState) (name : List ℕ) (named : file_name_of reader ≡ name) (kept : folder.held name ≡ held) where
    left_is : left_by folder reader ≡ left_of reader begun.0
    left_is = ap (λ n. left_of reader (octets_of (folder.held n))) named ∙ ap (λ h. left_of reader (octets_of h)) (kept ∙ begun.1)

    pub no_fault : (left_by folder reader).fault ≡ None
    no_fault = ap (λ (l : FramesLeft). l.fault) left_is ∙ ap (λ (c : CaptureFile). c.fault) (sym capture_is) ∙ whole.4

    pub few_frames : length (left_by folder reader).frames ≤ 1048576
    few_frames = omega (arith, whole.5, ap (λ (l : FramesLeft). length l.frames) left_is, ap (λ (c : CaptureFile). length c.frames) capture_is)

    pub packets_left : option_map_or (λ (file : List ℕ). packets_of (capture_file file)) held [] ≡ map packet_in (left_by folder reader).frames
    packets_left =
        ap (λ (h : Option (List ℕ)). option_map_or (λ (file : List ℕ). packets_of (capture_file file)) h []) begun.1 ∙ ap packets_of begun.2 ∙ ap (λ (l : FramesLeft). map packet_in l.frames) (sym left_is)
