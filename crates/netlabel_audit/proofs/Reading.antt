-- How far a capture was read of which so many frames may be read, and how it ends.
use Rattle.std.proofs.Common.{◌≡◌, ◌≢◌, ℕ, ◌+◌, ◌-◌, ◌≤◌, is_some, List, [], ◌∷◌, ◌++◌, length, Option, Some, None, Ok, Err, refl, sym, ap, subst, ◌∙◌, append_assoc, length-append, arith}
use Rattle.std.specs.Prelude.{IsTrue}
use Rattle.std.specs.Option.{option_map}
use Rattle.std.proofs.lemmas.Bool.{lt-ltb, le-ltb}
use Rattle.std.proofs.lemmas.List.{take_all}
use Rattle.net_io.specs.Depot.{DepotState, octets_of, OnlyReads}
use Rattle.captures.specs.declared.packet_in.PacketIn.{PacketIn}
use Rattle.pcap_frames.specs.declared.record.FrameHead.{FrameHead}
use Rattle.captures.specs.declared.format.CaptureFormat.{CaptureFormat}
use Rattle.captures.specs.declared.fault.FileFault.{FileFault}
use Rattle.captures.specs.declared.fault.FileFault.TheVariants.{Pcap, Pcapng}
use Rattle.captures.specs.declared.fault.ReadStop.{ReadStop}
use Rattle.captures.specs.declared.fault.ReadStop.TheVariants as read
use Rattle.captures.specs.declared.reader.AnyFrames.{AnyFrames}
use Rattle.captures.specs.Frame.{CapturedFrame}
use Rattle.captures.specs.CaptureFile.{CaptureFile, capture_file}
use Rattle.captures.specs.Reader.{FramesLeft, left_of, format_of, file_name_of, IsFileBegun, IsNextFrame}
use Rattle.call_report.specs.Event.{Event, records_event}
use Rattle.call_report.specs.Lines.Capture.{capture_line}
use Rattle.call_report.specs.Lines.Fixed.{packets_limit_line}
use Rattle.script_run.specs.flow_run.Input.{FlowInput, flow_input, input_by}
use Rattle.netlabel_audit.specs.declared.stop.AuditStop.TheVariants as stop
use Rattle.netlabel_audit.specs.inside.Finding.{stop_of_read, event_of, IsReadWhole}

-- a capture whose first frames are these
abbrev pub capture_with : List CapturedFrame → CaptureFormat → FramesLeft → CaptureFile
capture_with done format left = record { format = format; frames = done ++ left.frames; fault = left.fault }

-- Of a capture, of which so many frames may be read, some were read, and so many may be read of what is left.
pub record IsAmid (most : ℕ) (held : Option (List ℕ)) (reader : AnyFrames) (left : ℕ) : Type 0 where
  pub octets : List ℕ
  pub is : held ≡ Some octets
  pub done : List CapturedFrame
  pub count : length done + left ≡ most
  pub all : capture_file octets ≡ Ok (capture_with done (format_of reader) (left_of reader octets))

pub amid_start : (most : ℕ) (held : Option (List ℕ)) (reader : AnyFrames) → IsFileBegun (Ok reader) held → IsAmid most held reader most
amid_start most held reader begun = record { octets = begun.0; is = begun.1; done = []; count = omega arith; all = begun.2 }

-- the fault of a capture's beginning is its event
pub unbegun : (number most : ℕ) (held : Option (List ℕ)) (why : ReadStop) → IsFileBegun (Err why) held
    → (event : Event) → event_of (stop_of_read number why) ≡ Some event → (flow_input number most held).event ≡ Some event
unbegun number most held (read.Capture broken) begun event told =
    ap (λ (i : FlowInput). i.event) (ap (flow_input number most) begun.1 ∙ ap (input_by number most) begun.2) ∙ told
unbegun number most held (read.Ng broken) begun event told =
    ap (λ (i : FlowInput). i.event) (ap (flow_input number most) begun.1 ∙ ap (input_by number most) begun.2) ∙ told
unbegun number most held read.ReadFault begun event told = absurd (let no : None ≡ Some event = told in cc)
unbegun number most held read.OutOfMemory begun event told = absurd (let no : None ≡ Some event = told in cc)

module _ (most : ℕ) (held : Option (List ℕ)) (reader : AnyFrames) (left : ℕ) (amid : IsAmid most held reader left) where
  -- the file as it is now
  pub octets_now : (name : List ℕ) (now : List ℕ → Option (List ℕ)) → file_name_of reader ≡ name → now name ≡ held → octets_of (now (file_name_of reader)) ≡ amid.octets
  octets_now name now named same = ap octets_of (ap now named ∙ same ∙ amid.is)

  pub amid_next : left ≢ 0 → (reader' : AnyFrames) (frame : CapturedFrame)
      → left_of reader amid.octets ≡ record { frames = frame ∷ (left_of reader' amid.octets).frames; fault = (left_of reader' amid.octets).fault }
      → format_of reader' ≡ format_of reader → IsAmid most held reader' (left - 1)
  amid_next some reader' frame goes same =
      let behind = left_of reader' amid.octets in
      let front = amid.done ++ frame ∷ [] in
      record {
        octets = amid.octets;
        is = amid.is;
        done = front;
        count = omega (arith, some, amid.count, length-append amid.done (frame ∷ []));
        all = amid.all
            ∙ ap (λ (l : FramesLeft). Ok (capture_with amid.done (format_of reader) l)) goes
            ∙ ap (λ (fs : List CapturedFrame). let capture : CaptureFile = record { format = format_of reader; frames = fs; fault = behind.fault } in Ok capture) (sym (append_assoc amid.done (frame ∷ []) behind.frames))
            ∙ ap (λ (f : CaptureFormat). Ok (capture_with front f behind)) (sym same);
      }

  -- by what is left of it
  input_with : (number : ℕ) (last : FramesLeft) → left_of reader amid.octets ≡ last
      → flow_input number most held ≡ input_by number most (Ok (capture_with amid.done (format_of reader) last))
  input_with number last is =
      ap (flow_input number most) amid.is ∙ ap (input_by number most) amid.all
      ∙ ap (λ (l : FramesLeft). input_by number most (Ok (capture_with amid.done (format_of reader) l))) is

  few : length (amid.done ++ []) ≤ most
  few = omega (arith, amid.count, length-append {A = CapturedFrame} amid.done [])

  -- no frame is left, and perhaps a fault
  no_more : (number : ℕ) (fault : Option FileFault) → records_event number most (amid.done ++ []) fault ≡ option_map (λ f. record { status = 5; line = capture_line number f }) fault
  no_more number fault = rw (le-ltb most (length (amid.done ++ [])) few) refl

  pub read_whole : (number : ℕ) → left_of reader amid.octets ≡ record { frames = []; fault = None } → IsReadWhole number most held left
  read_whole number none =
      let last : FramesLeft = record { frames = []; fault = None } in
      let input = input_with number last none in
      let frames : length (flow_input number most held).frames ≡ length (amid.done ++ []) =
      ap (λ (i : FlowInput). length i.frames) input ∙ ap length (take_all most (amid.done ++ []) few) in
      record {
        event = ap (λ (i : FlowInput). i.event) input ∙ no_more number None;
        format = ap (λ (i : FlowInput). is_some i.format) input;
        count = omega (arith, frames, amid.count, length-append {A = CapturedFrame} amid.done []);
      }

  broken_at : (number : ℕ) (fault : FileFault) → left_of reader amid.octets ≡ record { frames = []; fault = Some fault }
      → (flow_input number most held).event ≡ Some (record { status = 5; line = capture_line number fault })
  broken_at number fault none =
      let last : FramesLeft = record { frames = []; fault = Some fault } in
      ap (λ (i : FlowInput). i.event) (input_with number last none) ∙ no_more number (Some fault)

  -- one frame more than may be read
  pub full_at : (number : ℕ) (frame : CapturedFrame) (behind : FramesLeft) → left ≡ 0 → left_of reader amid.octets ≡ record { frames = frame ∷ behind.frames; fault = behind.fault }
      → (event : Event) → event_of stop.TooMany ≡ Some event → (flow_input number most held).event ≡ Some event
  full_at number frame behind full goes event told =
      let last : FramesLeft = record { frames = frame ∷ behind.frames; fault = behind.fault } in
      let more : records_event number most (amid.done ++ frame ∷ behind.frames) behind.fault ≡ Some (record { status = 7; line = packets_limit_line }) =
      rw (lt-ltb most (length (amid.done ++ frame ∷ behind.frames)) (omega (arith, amid.count, full, length-append amid.done (frame ∷ behind.frames)))) refl in
      ap (λ (i : FlowInput). i.event) (input_with number last goes) ∙ more ∙ told

  pub stopped_at : (number : ℕ) (why : ReadStop) (packet : PacketIn) (behind : FramesLeft) → IsNextFrame (Err why) packet (left_of reader amid.octets) behind
      → (event : Event) → event_of (stop_of_read number why) ≡ Some event → (flow_input number most held).event ≡ Some event
  stopped_at number (read.Capture broken) packet behind is event told = broken_at number (Pcap broken) is ∙ told
  stopped_at number (read.Ng broken) packet behind is event told = broken_at number (Pcapng broken) is ∙ told
  stopped_at number read.ReadFault packet behind is event told = absurd (let no : None ≡ Some event = told in cc)
  stopped_at number read.OutOfMemory packet behind is event told = absurd (let no : None ≡ Some event = told in cc)

-- a further frame was read
pub reads_further : (name : List ℕ) (reader : AnyFrames) (a b c : DepotState) (head : Option FrameHead) → OnlyReads {T = ℕ} stop.Unread (Ok 0) name a b → file_name_of reader ≡ name
    → OnlyReads {T = Option FrameHead} read.ReadFault (Ok head) (file_name_of reader) b c → OnlyReads {T = ℕ} stop.Unread (Ok 0) name a c
reads_further name reader a b c head first named next = record {
  told = next.told ∙ first.told;
  kept = λ told other. next.kept (subst IsTrue (sym first.told) told) other ∙ first.kept told other;
  reads = record {
    no_less = λ other. omega (arith, next.reads.ok other, first.reads.ok other);
    ok = λ other. next.reads.ok other ∙ first.reads.ok other;
    still = λ _ other. next.reads.ok other ∙ first.reads.ok other;
    cause = λ e. absurd cc;
  };
  creates = λ other. next.creates other ∙ first.creates other;
  appends = λ other. next.appends other ∙ first.appends other;
}

-- reads that were stopped, under the name that the stop has here
pub stops_as : {T U : Type 0} (number : ℕ) (why : ReadStop) (name : List ℕ) (old new : DepotState)
    → OnlyReads {T = T} read.ReadFault (Err why) name old new → OnlyReads {T = U} stop.Unread (Err (stop_of_read number why)) name old new
stops_as {T} {U} number (read.Capture broken) name old new r = record {
  told = r.told;
  kept = r.kept;
  creates = r.creates;
  appends = r.appends;
  reads = record { no_less = r.reads.no_less; ok = tt; still = λ _. r.reads.still (λ e. absurd cc); cause = λ e. absurd cc };
}
stops_as {T} {U} number (read.Ng broken) name old new r = record {
  told = r.told;
  kept = r.kept;
  creates = r.creates;
  appends = r.appends;
  reads = record { no_less = r.reads.no_less; ok = tt; still = λ _. r.reads.still (λ e. absurd cc); cause = λ e. absurd cc };
}
stops_as {T} {U} number read.ReadFault name old new r = record {
  told = r.told;
  kept = r.kept;
  creates = r.creates;
  appends = r.appends;
  reads = record { no_less = r.reads.no_less; ok = tt; still = λ other. absurd (other refl); cause = λ e. r.reads.cause refl };
}
stops_as {T} {U} number read.OutOfMemory name old new r = record {
  told = r.told;
  kept = r.kept;
  creates = r.creates;
  appends = r.appends;
  reads = record { no_less = r.reads.no_less; ok = tt; still = λ _. r.reads.still (λ e. absurd cc); cause = λ e. absurd cc };
}
