-- How far `show` has come in a capture: the lines of the frames so far, and what is left behind them.
use Rattle.std.proofs.Common.{◌≡◌, ℕ, ◌+◌, ◌-◌, ◌<◌, ◌≤◌, Bool, true, false, if◌then◌else◌, nat_lt, cond, List, [], ◌∷◌, ◌++◌, length, take, map, replicate, Option, Some, None, Result, Ok, Err, refl, sym, ap, subst, ◌∙◌, append_assoc, length-append, arith}
use Rattle.std.specs.Prelude.{Contains}
use Rattle.std.specs.List.{All, concat, range_with_len}
use Rattle.std.specs.Option.{option_map, option_map_or}
use Rattle.std.proofs.Math.Seq.{take-append-add}
use Rattle.std.proofs.lemmas.Bool.{lt-ltb, le-ltb}
use Rattle.std.proofs.lemmas.List.{append-nil, take_at, take_all, length-map, length-replicate, get_or-replicate}
use Rattle.std.proofs.lemmas.List.FromFn.{get_or-map-range_with_len, length-map-range_with_len}
use Rattle.pcap_frames.specs.declared.fault.CaptureKind.TheVariants.{Short}
use Rattle.pcap_frames.specs.Header.{capture_header}
use Rattle.pcap_frames.specs.Record.{Frame}
use Rattle.pcap_frames.specs.Capture.{capture_of}
use Rattle.pcap_frames.specs.Written.{IsWritableFrame, capture_head_octets, frames_octets, capture_octets}
use Rattle.pcap_frames.proofs.Law.{a_written_capture_reads_back}
use Rattle.pcapng_frames.specs.Capture.{is_pcapng}
use Rattle.captures.specs.declared.format.CaptureFormat.{CaptureFormat}
use Rattle.captures.specs.declared.format.CaptureFormat.TheVariants.{Pcap}
use Rattle.captures.specs.declared.fault.FileFault.{FileFault}
use Rattle.captures.specs.Frame.{CapturedFrame, packet_in}
use Rattle.captures.specs.CaptureFile.{CaptureFile, frame_of_record, by_pcap, capture_file}
use Rattle.captures.specs.Reader.{FramesLeft}
use Rattle.call_report.specs.Lines.Packet.{shown_line, shown_end_line, IsShown}
use Rattle.call_report.specs.Lines.Capture.{capture_line}
use Rattle.call_report.specs.Lines.Fixed.{packets_limit_line}
use Rattle.netlabel_run.specs.Show.{AreShown, starts_of, lines_report, CaptureReport, ShowReport, capture_status}
use Rattle.call_report.specs.Event.{Event, packets_limit, capture_event}
use Rattle.call_report.specs.Report.{Report, late_report}
use Rattle.netlabel_run.proofs.Answer.{some_lines, lines_join, concat-append}

-- a capture of which these frames come first
abbrev pub with_left : CaptureFormat → List CapturedFrame → FramesLeft → CaptureFile
with_left format frames left = record { format = format; frames = frames ++ left.frames; fault = left.fault }

-- n frames come first, whose lines are this text, and behind them what is left
pub record IsAmid (octets : List ℕ) (format : CaptureFormat) (left : FramesLeft) (n : ℕ) (text : List ℕ) : Type 0 where
  pub frames : List CapturedFrame
  pub lines : List (List ℕ)
  pub count : length frames ≡ n
  pub are : AreShown 1 frames lines
  pub is : text ≡ concat lines
  pub all : capture_file octets ≡ Ok (with_left format frames left)

pub amid_start : (octets : List ℕ) (format : CaptureFormat) (left : FramesLeft) → capture_file octets ≡ Ok (with_left format [] left) → IsAmid octets format left 0 []
amid_start octets format left all = record { frames = []; lines = []; count = refl; are = tt; is = refl; all = all }

-- ---- one frame on

-- what is left where this frame comes next
abbrev pub with_frame : CapturedFrame → FramesLeft → FramesLeft
with_frame frame left = record { frames = frame ∷ left.frames; fault = left.fault }

-- the same of the frames so far
front_more : (format : CaptureFormat) (frames : List CapturedFrame) (frame : CapturedFrame) (left : FramesLeft)
    → with_left format frames (with_frame frame left) ≡ with_left format (frames ++ frame ∷ []) left
front_more format frames frame left =
    ap (λ fs. let all : CaptureFile = record { format = format; frames = fs; fault = left.fault } in all) (sym (append_assoc frames (frame ∷ []) left.frames))

pub amid_next : (octets : List ℕ) (format : CaptureFormat) (left left' : FramesLeft) (n : ℕ) (text s : List ℕ) (frame : CapturedFrame) → IsAmid octets format left n text
    → left ≡ with_frame frame left' → IsShown (packet_in frame) s → IsAmid octets format left' (n + 1) (text ++ shown_line (n + 1) s)
amid_next octets format left left' n text s frame amid goes shown =
    let line = shown_line (n + 1) s in
    let first : 1 + length amid.frames ≡ n + 1 = omega (arith, amid.count) in
    let one : AreShown (1 + length amid.frames) (frame ∷ []) (line ∷ []) = (s, shown, ap (λ k. shown_line k s) (sym first), tt) in
    record {
      frames = amid.frames ++ frame ∷ [];
      lines = amid.lines ++ line ∷ [];
      count = omega (arith, amid.count, length-append amid.frames (frame ∷ []));
      are = lines_join 1 amid.frames (frame ∷ []) amid.lines (line ∷ []) amid.are one;
      is = ap (λ t. t ++ line) amid.is ∙ ap (λ t. concat amid.lines ++ t) (sym (append-nil line)) ∙ sym (concat-append amid.lines (line ∷ []));
      all = amid.all ∙ ap (λ (l : FramesLeft). Ok (with_left format amid.frames l)) goes ∙ ap Ok (front_more format amid.frames frame left');
    }

-- ---- the report, where the capture ends

-- the frames that are read, and the event, of a capture
pub record Ends (octets : List ℕ) (frames : List CapturedFrame) (event : Option Event) : Type 0 where
  pub capture : CaptureFile
  pub is : capture_file octets ≡ Ok capture
  pub read : take packets_limit capture.frames ≡ frames
  pub event_is : capture_event 1 packets_limit capture ≡ event

pub ends_report : (octets : List ℕ) (frames : List CapturedFrame) (lines : List (List ℕ)) (event : Option Event) → Ends octets frames event → AreShown 1 frames lines
    → CaptureReport (capture_file octets) (lines_report lines event)
ends_report octets frames lines event ends are =
    let here : AreShown 1 (take packets_limit ends.capture.frames) lines = subst (λ (fs : List CapturedFrame). AreShown 1 fs lines) (sym ends.read) are in
    subst (λ (r : Result CaptureFile FileFault). CaptureReport r (lines_report lines event)) (sym ends.is) (lines, here, ap (lines_report lines) (sym ends.event_is))

pub ends_status : (octets : List ℕ) (frames : List CapturedFrame) (event : Option Event) → Ends octets frames event
    → option_map_or (λ (e : Event). e.status) event 0 ≡ capture_status (capture_file octets)
ends_status octets frames event ends =
    ap (λ e. option_map_or (λ (x : Event). x.status) e 0) (sym ends.event_is) ∙ ap capture_status (sym ends.is)

-- nothing more, or a fault: so many frames at the most
quiet_event : (most n : ℕ) (capture : CaptureFile) → length capture.frames ≡ n → n ≤ most
    → capture_event 1 most capture ≡ option_map (λ fault. record { status = 5; line = capture_line 1 fault }) capture.fault
quiet_event most n capture count few = rw (le-ltb most (length capture.frames) (omega (arith, count, few))) refl

taken_all : (most : ℕ) (frames : List CapturedFrame) → length frames ≤ most → take most (frames ++ []) ≡ frames
taken_all most frames few = ap (take most) (append-nil frames) ∙ take_all most frames few

full_event : (most : ℕ) (capture : CaptureFile) → most < length capture.frames → capture_event 1 most capture ≡ Some (record { status = 7; line = packets_limit_line })
full_event most capture more = rw (lt-ltb most (length capture.frames) more) refl

-- some report of the capture begins so
pub record HasFront (octets text : List ℕ) : Type 0 where
  pub report : Report
  pub has : CaptureReport (capture_file octets) report
  pub rest : List ℕ
  pub body : report.body ≡ text ++ rest

module _ (octets : List ℕ) (format : CaptureFormat) (left : FramesLeft) (n : ℕ) (text : List ℕ) (amid : IsAmid octets format left n text) (few : n ≤ packets_limit) where
  -- where nothing is left, or a fault, no frame is left
  at_last : (fault : Option FileFault) → left ≡ record { frames = []; fault = fault } → Ends octets amid.frames (option_map (λ f. record { status = 5; line = capture_line 1 f }) fault)
  at_last fault none =
      let capture = with_left format amid.frames (record { frames = []; fault = fault }) in
      let count : length capture.frames ≡ n = omega (arith, amid.count, length-append {A = CapturedFrame} amid.frames []) in
      record {
        capture = capture;
        is = amid.all ∙ ap (λ (l : FramesLeft). Ok (with_left format amid.frames l)) none;
        read = taken_all packets_limit amid.frames (omega (arith, amid.count, few));
        event_is = quiet_event packets_limit n capture count few;
      }

  pub ends_whole : left ≡ record { frames = []; fault = None } → Ends octets amid.frames None
  ends_whole none = at_last None none

  pub ends_broken : (fault : FileFault) → left ≡ record { frames = []; fault = Some fault } → Ends octets amid.frames (Some (record { status = 5; line = capture_line 1 fault }))
  ends_broken fault none = at_last (Some fault) none

  pub ends_full : (frame : CapturedFrame) (left' : FramesLeft) → n ≡ packets_limit → left ≡ with_frame frame left' → Ends octets amid.frames (Some (record { status = 7; line = packets_limit_line }))
  ends_full frame left' full goes =
      let capture = with_left format amid.frames (with_frame frame left') in
      record {
        capture = capture;
        is = amid.all ∙ ap (λ (l : FramesLeft). Ok (with_left format amid.frames l)) goes;
        read = take_at amid.frames (frame ∷ left'.frames) packets_limit (amid.count ∙ full);
        event_is = full_event packets_limit capture (omega (arith, amid.count, full, length-append amid.frames (frame ∷ left'.frames)));
      }

  -- ---- the report, on the way

  body_front : (more : List (List ℕ)) (event : Option Event) → (rest : List ℕ) × ((lines_report (amid.lines ++ more) event).body ≡ text ++ rest)
  body_front more None =
      let end = shown_end_line (length (amid.lines ++ more)) in
      (concat more ++ end, ap (λ t. t ++ end) (concat-append amid.lines more) ∙ append_assoc (concat amid.lines) (concat more) end ∙ ap (λ t. t ++ (concat more ++ end)) (sym amid.is))
  body_front more (Some event) = (concat more, concat-append amid.lines more ∙ ap (λ t. t ++ concat more) (sym amid.is))

  -- the frames that are still to be read
  still : List CapturedFrame
  still = take (packets_limit - n) left.frames

  taken_more : take packets_limit (amid.frames ++ left.frames) ≡ amid.frames ++ still
  unfolding still
  taken_more =
      let split : length amid.frames + (packets_limit - n) ≡ packets_limit = omega (arith, amid.count, few) in
      ap (λ k. take k (amid.frames ++ left.frames)) (sym split) ∙ take-append-add amid.frames left.frames (packets_limit - n)

  on_the_way : Ends octets (amid.frames ++ still) (capture_event 1 packets_limit (with_left format amid.frames left))
  on_the_way = record { capture = with_left format amid.frames left; is = amid.all; read = taken_more; event_is = refl }

  all_lines : (more : List (List ℕ)) × AreShown 1 (amid.frames ++ still) (amid.lines ++ more)
  all_lines =
      let more = some_lines (1 + length amid.frames) still in
      (more.0, lines_join 1 amid.frames still amid.lines more.0 amid.are more.1)

  pub has_front : HasFront octets text
  has_front =
      let event = capture_event 1 packets_limit (with_left format amid.frames left) in
      let front = body_front all_lines.0 event in
      record {
        report = lines_report (amid.lines ++ all_lines.0) event;
        has = ends_report octets (amid.frames ++ still) (amid.lines ++ all_lines.0) event on_the_way all_lines.1;
        rest = front.0;
        body = front.1;
      }

  starts_contain : (more : List (List ℕ)) → Contains (starts_of (amid.lines ++ more)) text
  starts_contain more =
      let lines = amid.lines ++ more in
      let f = λ (k : ℕ). concat (take k lines) in
      let size : length (map f (range_with_len 0 (length lines + 1))) ≡ length lines + 1 = length-map-range_with_len f 0 (length lines + 1) in
      let within : length amid.lines < length lines + 1 = omega (arith, length-append amid.lines more) in (
        length amid.lines,
        omega (arith, size, within),
        get_or-map-range_with_len f 0 (length lines + 1) (length amid.lines) (length amid.lines) text within (omega arith)
            ∙ ap concat (take_at amid.lines more (length amid.lines) refl) ∙ sym amid.is,
      )

  pauses_contain : (more : List (List ℕ)) (event : Option Event) → Contains (lines_report (amid.lines ++ more) event).pauses text
  pauses_contain more None = starts_contain more
  pauses_contain more (Some event) = starts_contain more

  pub front_pauses : Contains has_front.report.pauses text
  unfolding has_front
  front_pauses = pauses_contain all_lines.0 (capture_event 1 packets_limit (with_left format amid.frames left))

-- ---- every capture has a report, and nothing may stand in front of its first line

read_report : (read : Result CaptureFile FileFault) → (report : Report) × CaptureReport read report
read_report (Err fault) = (late_report [] (capture_line 1 fault), refl)
read_report (Ok capture) =
    let lines = some_lines 1 (take packets_limit capture.frames) in
    (lines_report lines.0 (capture_event 1 packets_limit capture), (lines.0, lines.1, refl))

pub some_report : (file : Option (List ℕ)) → (report : Report) × ShowReport file report
some_report None = (late_report [] [], refl)
some_report (Some octets) = read_report (capture_file octets)

starts_empty : (lines : List (List ℕ)) → Contains (starts_of lines) []
starts_empty lines =
    let f = λ (k : ℕ). concat (take k lines) in
    let size : length (map f (range_with_len 0 (length lines + 1))) ≡ length lines + 1 = length-map-range_with_len f 0 (length lines + 1) in
    let none : List ℕ = [] in
    (0, omega (arith, size), get_or-map-range_with_len f 0 (length lines + 1) 0 0 none (omega arith) (omega arith))

lines_empty : (lines : List (List ℕ)) (event : Option Event) → Contains (lines_report lines event).pauses []
lines_empty lines None = starts_empty lines
lines_empty lines (Some event) = starts_empty lines

late_empty : (body last : List ℕ) → Contains (late_report body last).pauses []
late_empty body last = (0, omega arith, refl)

read_empty : (read : Result CaptureFile FileFault) (report : Report) → CaptureReport read report → Contains report.pauses []
read_empty (Err fault) report has = subst (λ (r : Report). Contains r.pauses []) (sym has) (late_empty [] (capture_line 1 fault))
read_empty (Ok capture) report has = subst (λ (r : Report). Contains r.pauses []) (sym has.2) (lines_empty has.0 (capture_event 1 packets_limit capture))

pub first_pause : (file : Option (List ℕ)) (report : Report) → ShowReport file report → Contains report.pauses []
first_pause None report has = subst (λ (r : Report). Contains r.pauses []) (sym has) (late_empty [] [])
first_pause (Some octets) report has = read_empty (capture_file octets) report has

-- ---- captures that end in each way

no_header : capture_of [] ≡ Err (record { octet = 0; kind = Short })
unfolding capture_header
no_header = refl

pub empty_is_broken : 5 ≡ capture_status (capture_file [])
empty_is_broken = ap (λ read. capture_status (by_pcap read)) (sym no_header)

some_frame : Frame
some_frame = record { head = record { seconds = 0; fraction = 0 }; octets = [] }

many : ℕ → List Frame
many n = replicate n some_frame

length-many : (n : ℕ) → length (many n) ≡ n
unfolding many
length-many n = length-replicate n some_frame

many_fit : (n : ℕ) → All IsWritableFrame (many n)
unfolding many some_frame
many_fit n k d within =
    subst IsWritableFrame (sym (get_or-replicate n k some_frame d (omega (arith, within, length-replicate n some_frame))))
    (record { seconds = omega arith; fraction = omega arith; octets = omega arith })

-- a capture of so many frames
pub capture_with : ℕ → List ℕ
capture_with n = capture_octets false (many n)

abbrev many_read : ℕ → CaptureFile
many_read n = record { format = Pcap false; frames = map (frame_of_record 101) (many n); fault = None }

not_pcapng : (octets : List ℕ) → is_pcapng (capture_head_octets false ++ octets) ≡ false
unfolding capture_head_octets
not_pcapng octets = refl

otherwise : {A : Type 0} (x y : A) (b : Bool) → b ≡ false → (if b then x else y) ≡ y
otherwise x y true is = absurd (let no = is in cc)
otherwise x y false is = refl

reads_many : (n : ℕ) → capture_file (capture_with n) ≡ Ok (many_read n)
unfolding capture_with
reads_many n =
    otherwise _ _ (is_pcapng (capture_octets false (many n))) (not_pcapng (frames_octets (many n)))
    ∙ ap by_pcap (a_written_capture_reads_back false (many n) (many_fit n)).0

event_status : (most n : ℕ) (capture : CaptureFile) → length capture.frames ≡ n → capture.fault ≡ None → capture_event 1 most capture ≡ cond (nat_lt most n) (Some (record { status = 7; line = packets_limit_line })) None
event_status most n capture count whole = rw (count, whole) refl

with_status : (n : ℕ) → option_map_or (λ (e : Event). e.status) (cond (nat_lt packets_limit n) (Some (record { status = 7; line = packets_limit_line })) None) 0 ≡ capture_status (capture_file (capture_with n))
with_status n =
    let count : length (many_read n).frames ≡ n = length-map (many n) (frame_of_record 101) ∙ length-many n in
    ap (λ e. option_map_or (λ (x : Event). x.status) e 0) (sym (event_status packets_limit n (many_read n) count refl)) ∙ ap capture_status (sym (reads_many n))

pub whole_status : 0 ≡ capture_status (capture_file (capture_with 0))
whole_status = with_status 0

pub full_status : 7 ≡ capture_status (capture_file (capture_with 1048577))
full_status = with_status 1048577
