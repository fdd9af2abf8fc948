-- What a fetch, and what an accepted packet, make of what a flow has done so far.
use Rattle.std.proofs.Common.{◌≡◌, ◌≢◌, ◌<◌, ◌≤◌, ◌⊎◌, ℕ, suc, get_or, ◌+◌, Bool, true, false, cond, IsTrue, All, List, [], ◌∷◌, ◌++◌, length, drop, map, Option, Some, None, Err, refl, sym, ap, subst, ◌∙◌, append_assoc, length-append, arith, le_refl, inl, inr}
use Rattle.std.proofs.lemmas.List.{append-nil, drop-drop, map-append, length-map}
use Rattle.std.proofs.Math.Seq.{drop-cons}
use Rattle.net_io.specs.Depot.{DepotState, octets_of}
use Rattle.net_io.specs.Sink.{SinkState}
use Rattle.net_io.specs.Faults.{Rose, Counts, SameCounts}
use Rattle.net_io.specs.declared.fault.IoFault.{IoFault}
use Rattle.net_io.specs.declared.fault.IoFault.TheVariants as io
use Rattle.label_commands.specs.declared.flow_lines.flow.FlowLine.{FlowLine}
use Rattle.pcap_frames.specs.declared.record.FrameHead.{FrameHead}
use Rattle.pcap_frames.specs.Record.{Frame}
use Rattle.captures.specs.declared.packet_in.PacketIn.{PacketIn}
use Rattle.label_flow.specs.declared.packet_walk.walked.Walked.{Walked}
use Rattle.captures.specs.declared.format.CaptureFormat.{CaptureFormat}
use Rattle.captures.specs.declared.reader.AnyFrames.{AnyFrames}
use Rattle.captures.specs.Frame.{CapturedFrame}
use Rattle.captures.specs.Reader.{file_name_of, format_of, IsReadable}
use Rattle.captures.proofs.Law.{frames_of_a_file_are_written_in_their_order}
use Rattle.captures.specs.Written.{file_frame, file_frames, IsTime}
use Rattle.label_flow.specs.Pair.{PairState, pair}
use Rattle.label_flow.specs.Schedule.{versions_in}
use Rattle.call_report.specs.Lines.Flow.{walked_line}
use Rattle.call_report.specs.Event.{packets_limit}
use Rattle.call_report.specs.Outside.{NoWriteFailed}
use Rattle.call_report.specs.Printing.{HandsOn}
use Rattle.call_report.proofs.Law.{nothing_is_handed_on}
use Rattle.script_run.specs.declared.flow_run.end.FlowStop.{FlowStop}
use Rattle.script_run.specs.declared.flow_run.end.FlowStop.TheVariants as the_stop
use Rattle.script_run.specs.declared.flow_run.source.Source.{Source}
use Rattle.script_run.specs.declared.flow_run.source.Behind.{Behind}
use Rattle.script_run.specs.declared.flow_run.source.Behind.TheVariants.{Whole, Broken, TooMany, Failed, NoMemory}
use Rattle.script_run.specs.flow_run.Run.{is_denied, passed_in, denied_in, walked_lines}
use Rattle.script_run.specs.flow_run.Ends.{IsHandedOn}
use Rattle.script_run.specs.flow_run.inside.Output.{IsAppended, IsThere, AppendsMove, HasAppended, frame_of}
use Rattle.script_run.specs.flow_run.inside.Source.{IsSame, HasMoved, HasStepped, ReadsMove, pending, frames_left, heads_left, file_of, due_in, IsFed, IsAhead, StandsBy}
use Rattle.script_run.specs.flow_run.inside.Taken.{Moment, Outlets, outlets_at, IsPrintedTo, print_stop, HasHanded, kept_by, IsMoved, outside_of, HasTaken, IsGoing}
use Rattle.script_run.specs.flow_run.inside.Flown.{IsFresh}
use Rattle.script_run.proofs.flow_run.Outputs.{appended_more, appended_cut, appended_stops}
use Rattle.script_run.proofs.flow_run.Prints.{cut_off, print_fails, print_goes, lines_more}
use Rattle.script_run.proofs.flow_run.Reading.{reads_more, same_more, stands_same, readable_kept}
use Rattle.script_run.proofs.flow_run.Ahead.{same_ahead}

-- ---- what may follow

reads_after : (behind behind' : Option Behind) (name : List ℕ) (a b c : List ℕ → ℕ) → behind' ≡ behind → ReadsMove behind name a b → SameCounts b c → ReadsMove behind' name a c
reads_after behind behind' name a b c same moved more = subst (λ (x : Option Behind). ReadsMove x name a c) (sym same) (by_case behind moved)
  where
    by_case : (behind : Option Behind) → ReadsMove behind name a b → ReadsMove behind name a c
    by_case None moved = λ other. more other ∙ moved other
    by_case (Some Whole) moved = λ other. more other ∙ moved other
    by_case (Some (Broken fault)) moved = λ other. more other ∙ moved other
    by_case (Some TooMany) moved = λ other. more other ∙ moved other
    by_case (Some Failed) (inl rose) = inl (omega (arith, rose, more name))
    by_case (Some Failed) (inr end) = inr (more name ∙ end)
    by_case (Some NoMemory) moved = λ other. more other ∙ moved other

rose_same : (a b c : ℕ) → b ≡ a → Rose b c → Rose a c
rose_same a b c same rose = subst (λ (n : ℕ). Rose n c) same rose

-- a stop of a read, or for want of memory
lines_stop : (behind : Option Behind) (text waits waits' : List ℕ) (a b : SinkState) → IsHandedOn text waits waits' a b → IsPrintedTo (pending behind) text waits waits' a b
lines_stop None text waits waits' a b hands = hands
lines_stop (Some Whole) text waits waits' a b hands = hands
lines_stop (Some (Broken fault)) text waits waits' a b hands = hands
lines_stop (Some TooMany) text waits waits' a b hands = hands
lines_stop (Some Failed) text waits waits' a b hands = hands
lines_stop (Some NoMemory) text waits waits' a b hands = cut_off text waits waits' a b hands

stop_failed : (behind : Option Behind) → pending behind ≡ Some the_stop.Read → behind ≡ Some Failed
stop_failed None is = absurd cc
stop_failed (Some Whole) is = absurd cc
stop_failed (Some (Broken fault)) is = absurd cc
stop_failed (Some TooMany) is = absurd cc
stop_failed (Some Failed) is = refl
stop_failed (Some NoMemory) is = absurd cc

-- where nothing stopped it, numbers that didn't move since
moved_stop : (flow : FlowLine) (behind : Option Behind) (was now : Moment) → IsMoved flow None (outside_of was) (outside_of now) → IsMoved flow (pending behind) (outside_of was) (outside_of now)
moved_stop flow None was now moved = moved
moved_stop flow (Some Whole) was now moved = moved
moved_stop flow (Some (Broken fault)) was now moved = moved
moved_stop flow (Some TooMany) was now moved = moved
moved_stop flow (Some Failed) was now moved = moved
moved_stop flow (Some NoMemory) was now moved = moved

-- ---- one pair more

kept_none : (heads : List FrameHead) → kept_by heads [] ≡ []
kept_none [] = refl
kept_none (head ∷ heads) = refl

cond_append : (t : Bool) (frame : Frame) (frames more : List Frame) → cond t frames (frame ∷ frames) ++ more ≡ cond t (frames ++ more) (frame ∷ (frames ++ more))
cond_append true frame frames more = refl
cond_append false frame frames more = refl

kept_more : (heads : List FrameHead) (pairs : List PairState) (p : PairState) → kept_by heads (pairs ++ p ∷ []) ≡ kept_by heads pairs ++ kept_by (drop (length pairs) heads) (p ∷ [])
kept_more heads [] p = ap (λ fs. fs ++ kept_by heads (p ∷ [])) (sym (kept_none heads))
kept_more [] (q ∷ pairs) p = refl
kept_more (head ∷ heads) (q ∷ pairs) p =
    let frame : Frame = record { head = head; octets = q.octets } in
    ap (λ fs. cond (is_denied q.walked.end) fs (frame ∷ fs)) (kept_more heads pairs p)
    ∙ sym (cond_append (is_denied q.walked.end) frame (kept_by heads pairs) (kept_by (drop (length pairs) heads) (p ∷ [])))

kept_one : (t : Bool) (format : CaptureFormat) (head : FrameHead) (rest : List Frame) (octets : List ℕ) → rest ≡ []
    → file_frames format (cond t rest (record { head = head; octets = octets } ∷ rest)) ≡ cond t [] (file_frame format head octets)
kept_one true format head rest octets none = ap (file_frames format) none
kept_one false format head rest octets none = ap (λ fs. file_frame format head octets ++ file_frames format fs) none ∙ append-nil (file_frame format head octets)

kept_frame : (format : CaptureFormat) (head : FrameHead) (heads : List FrameHead) (walked : Walked) (packet : List ℕ)
    → file_frames format (kept_by (head ∷ heads) (pair walked packet ∷ [])) ≡ frame_of format head walked.end packet
kept_frame format head heads walked packet = kept_one (is_denied walked.end) format head (kept_by heads []) packet (kept_none heads)

passed_append : (pairs : List PairState) (p : PairState) → passed_in (pairs ++ p ∷ []) ≡ passed_in pairs + cond (is_denied p.walked.end) 0 1
passed_append [] p = omega arith
passed_append (q ∷ pairs) p = omega (arith, passed_append pairs p)

denied_append : (pairs : List PairState) (p : PairState) → denied_in (pairs ++ p ∷ []) ≡ denied_in pairs + cond (is_denied p.walked.end) 1 0
denied_append [] p = omega arith
denied_append (q ∷ pairs) p = omega (arith, denied_append pairs p)

one_counts : (t : Bool) → cond t 0 1 + cond t 1 0 ≡ 1
one_counts true = refl
one_counts false = refl

-- ---- the stop of an append, or of a print

printed_by : (stop : Option FlowStop) (output : Option (List ℕ)) (a b : List ℕ → ℕ) → AppendsMove stop output a b → (text waits still : List ℕ) (s t : SinkState)
    → IsHandedOn text waits still s t → IsPrintedTo stop text waits still s t
printed_by None output a b moved text waits still s t hands = hands
printed_by (Some the_stop.Read) output a b moved text waits still s t hands = hands
printed_by (Some the_stop.Create) output a b moved text waits still s t hands = hands
printed_by (Some the_stop.Append) output a b moved text waits still s t hands = hands
printed_by (Some the_stop.Print) output a b moved text waits still s t hands = absurd moved
printed_by (Some the_stop.OutOfMemory) output a b moved text waits still s t hands = cut_off text waits still s t hands

no_read : (stop : Option FlowStop) (output : Option (List ℕ)) (a b : List ℕ → ℕ) → AppendsMove stop output a b → stop ≡ Some the_stop.Read → ⊥
no_read stop output a b moved is = subst (λ (s : Option FlowStop). AppendsMove s output a b) is moved

print_not_read : (fault : IoFault) → (let one : Option FlowStop = Some (print_stop fault) in one ≡ Some the_stop.Read) → ⊥
print_not_read io.Failed is = absurd cc
print_not_read io.OutOfMemory is = absurd cc

still_unwritten : (was now new : Moment) → NoWriteFailed (outside_of was) (outside_of now) → SameCounts now.folder.appends new.folder.appends → new.stream.faults ≡ now.stream.faults
    → NoWriteFailed (outside_of was) (outside_of new)
still_unwritten was now new before more faults = record { writes = faults ∙ before.writes; appends = λ name. more name ∙ before.appends name }

moved_more : (flow : FlowLine) (stop : Option FlowStop) (was now new : Moment) → IsMoved flow None (outside_of was) (outside_of now)
    → AppendsMove stop flow.output now.folder.appends new.folder.appends → new.stream.faults ≡ now.stream.faults → IsMoved flow stop (outside_of was) (outside_of new)
moved_more flow None was now new before more faults = still_unwritten was now new before more faults
moved_more flow (Some the_stop.Read) was now new before more faults = absurd more
moved_more flow (Some the_stop.Create) was now new before more faults = absurd more
moved_more flow (Some the_stop.Append) was now new before more faults = (more.0, more.1, rose_same _ _ _ (before.appends more.0) more.2)
moved_more flow (Some the_stop.Print) was now new before more faults = absurd more
moved_more flow (Some the_stop.OutOfMemory) was now new before more faults = still_unwritten was now new before more faults

moved_print : (flow : FlowLine) (fault : IoFault) (was now new : Moment) → IsMoved flow None (outside_of was) (outside_of now)
    → Counts {T = Unit {0}} io.Failed (Err fault) now.stream.faults new.stream.faults → new.folder ≡ now.folder → IsMoved flow (Some (print_stop fault)) (outside_of was) (outside_of new)
moved_print flow io.Failed was now new before counts folder =
    (rose_same _ _ _ before.writes (counts.cause refl), λ name. ap (λ (d : DepotState). d.appends name) folder ∙ before.appends name)
moved_print flow io.OutOfMemory was now new before counts folder =
    still_unwritten was now new before (λ name. ap (λ (d : DepotState). d.appends name) folder) (counts.still (λ failed. absurd cc))

module _ (number : ℕ) (names : List (List ℕ)) (flow : FlowLine) (was now : Moment) (pairs : List PairState) (taken : HasTaken number names flow was now pairs) where
  module _ (none : now.stop ≡ None) where
    lines_none : IsHandedOn (walked_lines number (length was.seen + 1) names flow.hops pairs) was.lines now.lines was.stream now.stream
    lines_none = subst (λ (s : Option FlowStop). IsPrintedTo s (walked_lines number (length was.seen + 1) names flow.hops pairs) was.lines now.lines was.stream now.stream) none taken.lines

    moved_none : IsMoved flow None (outside_of was) (outside_of now)
    moved_none = subst (λ (s : Option FlowStop). IsMoved flow s (outside_of was) (outside_of now)) none taken.moved

    text_of : List PairState → List ℕ
    text_of ps = was.octets ++ file_frames (format_of was.source.reader) (kept_by (heads_left was.source (file_of was.folder was.source)) ps)

    output_none : IsTrue was.folder.tells → (name : List ℕ) → flow.output ≡ Some name → IsAppended None (text_of pairs) now.octets (was.folder.held name) (now.folder.held name)
    unfolding text_of
    output_none told name is = subst (λ (s : Option FlowStop). IsAppended s (text_of pairs) now.octets (was.folder.held name) (now.folder.held name)) none (taken.output told name is)

    -- ---- a fetch

    same_then : (new : Moment) → HasMoved now.source new.source now.folder new.folder → (IsTrue now.folder.tells → (name : List ℕ) → new.folder.held name ≡ now.folder.held name)
    same_then new (inl one) told name = one.1.kept told name
    same_then new (inr stays) told name = ap (λ (d : DepotState). d.held name) stays.1

    reads_then : (new : Moment) → file_name_of now.source.reader ≡ flow.input → HasMoved now.source new.source now.folder new.folder → ReadsMove new.source.behind flow.input was.folder.reads new.folder.reads
    reads_then new input (inl one) =
        reads_more new.source.behind flow.input was.folder.reads now.folder.reads new.folder.reads
        (subst (λ (b : Option Behind). ReadsMove b flow.input was.folder.reads now.folder.reads) one.0 taken.reads)
        (subst (λ (n : List ℕ). ReadsMove new.source.behind n now.folder.reads new.folder.reads) input one.1.reads)
    reads_then new input (inr stays) =
        reads_after now.source.behind new.source.behind flow.input was.folder.reads now.folder.reads new.folder.reads stays.0 taken.reads (λ name. ap (λ (d : DepotState). d.reads name) stays.1)

    appends_then : (new : Moment) → HasMoved now.source new.source now.folder new.folder → SameCounts now.folder.appends new.folder.appends
    appends_then new (inl one) = one.1.appends
    appends_then new (inr stays) = λ name. ap (λ (d : DepotState). d.appends name) stays.1

    creates_then : (new : Moment) → HasMoved now.source new.source now.folder new.folder → SameCounts now.folder.creates new.folder.creates
    creates_then new (inl one) = one.1.creates
    creates_then new (inr stays) = λ name. ap (λ (d : DepotState). d.creates name) stays.1

    told_then : (new : Moment) → HasMoved now.source new.source now.folder new.folder → new.folder.tells ≡ now.folder.tells
    told_then new (inl one) = one.1.told
    told_then new (inr stays) = ap (λ (d : DepotState). d.tells) stays.1

    -- the file of the input is what it was
    file_now : flow.output ≢ Some flow.input → file_name_of was.source.reader ≡ flow.input → IsTrue was.folder.tells → file_of now.folder now.source ≡ file_of was.folder was.source
    file_now apart input told =
        ap (λ n. octets_of (now.folder.held n)) taken.source.name
        ∙ ap (λ n. octets_of (now.folder.held n)) input
        ∙ ap octets_of (taken.others told flow.input apart)
        ∙ ap (λ n. octets_of (was.folder.held n)) (sym input)

    -- nothing but the folder, the source and the stop has changed
    pub taken_fetched : (new : Moment) → file_name_of now.source.reader ≡ flow.input → flow.output ≢ Some flow.input
        → new.stream ≡ now.stream → new.lines ≡ now.lines → new.octets ≡ now.octets → new.seen ≡ now.seen → new.passed ≡ now.passed → new.denied ≡ now.denied
        → HasStepped now.source new.source now.folder new.folder → (new.stop ≡ None) ⊎ (new.stop ≡ pending new.source.behind) → HasTaken number names flow was new pairs
    unfolding text_of
    taken_fetched new input apart stream lines octets seen passed denied stepped stop =
        let moved = stepped.moved in
        let text = walked_lines number (length was.seen + 1) names flow.hops pairs in
        let was_input : file_name_of was.source.reader ≡ flow.input = sym taken.source.name ∙ input in
        let handed : IsHandedOn text was.lines new.lines was.stream new.stream =
        subst (λ (w : List ℕ). IsHandedOn text was.lines w was.stream new.stream) (sym lines) (subst (λ (s : SinkState). IsHandedOn text was.lines now.lines was.stream s) (sym stream) lines_none) in
        let still_moved : IsMoved flow None (outside_of was) (outside_of new) =
        still_unwritten was now new moved_none (appends_then new moved) (ap (λ (s : SinkState). s.faults) stream) in
        record {
          folder_told = told_then new moved ∙ taken.folder_told;
          stream_told = ap (λ (s : SinkState). s.tells) stream ∙ taken.stream_told;
          lines = elim stop [
            | inl none' ↦ subst (λ (s : Option FlowStop). IsPrintedTo s text was.lines new.lines was.stream new.stream) (sym none') handed
            | inr at ↦ subst (λ (s : Option FlowStop). IsPrintedTo s text was.lines new.lines was.stream new.stream) (sym at) (lines_stop new.source.behind text was.lines new.lines was.stream new.stream handed)
          ];
          seen = seen ∙ taken.seen;
          passed = passed ∙ taken.passed;
          denied = denied ∙ taken.denied;
          source = same_more was.source now.source new.source taken.source stepped.same;
          heads = λ told.
              let told' : IsTrue now.folder.tells = subst IsTrue (sym taken.folder_told) told in
              subst (λ (f : List ℕ). heads_left new.source f ≡ heads_left now.source f) (file_now apart was_input told) (stepped.heads told') ∙ taken.heads told;
          output = λ told name is.
              let told' : IsTrue now.folder.tells = subst IsTrue (sym taken.folder_told) told in
              let one : IsAppended None (text_of pairs) new.octets (was.folder.held name) (new.folder.held name) =
              subst (λ (h : Option (List ℕ)). IsAppended None (text_of pairs) new.octets (was.folder.held name) h) (sym (same_then new moved told' name))
              (subst (λ (w : List ℕ). IsAppended None (text_of pairs) w (was.folder.held name) (now.folder.held name)) (sym octets) (output_none told name is)) in
              appended_stops new.stop (text_of pairs) new.octets (was.folder.held name) (new.folder.held name) one;
          others = λ told name other.
              let told' : IsTrue now.folder.tells = subst IsTrue (sym taken.folder_told) told in
              same_then new moved told' name ∙ taken.others told name other;
          reads = reads_then new input moved;
          failed = λ is. elim stop [
            | inl none' ↦ absurd (let no_stop : None ≡ Some the_stop.Read = sym none' ∙ is in cc)
            | inr at ↦ stop_failed new.source.behind (sym at ∙ is)
          ];
          creates = λ name. creates_then new moved name ∙ taken.creates name;
          still = λ no_output name. appends_then new moved name ∙ taken.still no_output name;
          moved = elim stop [
            | inl none' ↦ subst (λ (s : Option FlowStop). IsMoved flow s (outside_of was) (outside_of new)) (sym none') still_moved
            | inr at ↦ subst (λ (s : Option FlowStop). IsMoved flow s (outside_of was) (outside_of new)) (sym at) (moved_stop flow new.source.behind was new still_moved)
          ];
          faults = omega (arith, taken.faults, ap (λ (s : SinkState). s.faults) stream);
        }

    -- ---- memory runs out for the versions of a packet

    pub taken_unkept : (new : Moment) → new.folder ≡ now.folder → new.stream ≡ now.stream → new.lines ≡ now.lines → new.octets ≡ now.octets → new.seen ≡ now.seen
        → new.passed ≡ now.passed → new.denied ≡ now.denied → new.source ≡ now.source → new.stop ≡ Some the_stop.OutOfMemory → HasTaken number names flow was new pairs
    unfolding text_of
    taken_unkept new folder stream lines octets seen passed denied source stop =
        let text = walked_lines number (length was.seen + 1) names flow.hops pairs in
        let handed : IsHandedOn text was.lines new.lines was.stream new.stream =
        subst (λ (w : List ℕ). IsHandedOn text was.lines w was.stream new.stream) (sym lines) (subst (λ (s : SinkState). IsHandedOn text was.lines now.lines was.stream s) (sym stream) lines_none) in
        record {
          folder_told = ap (λ (d : DepotState). d.tells) folder ∙ taken.folder_told;
          stream_told = ap (λ (s : SinkState). s.tells) stream ∙ taken.stream_told;
          lines = subst (λ (s : Option FlowStop). IsPrintedTo s text was.lines new.lines was.stream new.stream) (sym stop) (cut_off text was.lines new.lines was.stream new.stream handed);
          seen = seen ∙ taken.seen;
          passed = passed ∙ taken.passed;
          denied = denied ∙ taken.denied;
          source = subst (λ (s : Source). IsSame was.source s) (sym source) taken.source;
          heads = λ told. ap (λ (s : Source). heads_left s (file_of was.folder was.source)) source ∙ taken.heads told;
          output = λ told name is.
              let one : IsAppended None (text_of pairs) new.octets (was.folder.held name) (new.folder.held name) =
              subst (λ (d : DepotState). IsAppended None (text_of pairs) new.octets (was.folder.held name) (d.held name)) (sym folder)
              (subst (λ (w : List ℕ). IsAppended None (text_of pairs) w (was.folder.held name) (now.folder.held name)) (sym octets) (output_none told name is)) in
              appended_stops new.stop (text_of pairs) new.octets (was.folder.held name) (new.folder.held name) one;
          others = λ told name other. ap (λ (d : DepotState). d.held name) folder ∙ taken.others told name other;
          reads = reads_after now.source.behind new.source.behind flow.input was.folder.reads now.folder.reads new.folder.reads (ap (λ (s : Source). s.behind) source) taken.reads
              (λ name. ap (λ (d : DepotState). d.reads name) folder);
          failed = λ is. absurd (let no_stop : Some the_stop.OutOfMemory ≡ Some the_stop.Read = sym stop ∙ is in cc);
          creates = λ name. ap (λ (d : DepotState). d.creates name) folder ∙ taken.creates name;
          still = λ no_output name. ap (λ (d : DepotState). d.appends name) folder ∙ taken.still no_output name;
          moved = subst (λ (s : Option FlowStop). IsMoved flow s (outside_of was) (outside_of new)) (sym stop)
              (still_unwritten was now new moved_none (λ name. ap (λ (d : DepotState). d.appends name) folder) (ap (λ (s : SinkState). s.faults) stream));
          faults = omega (arith, taken.faults, ap (λ (s : SinkState). s.faults) stream);
        }

    -- ---- a packet's line and frame

    -- the source uses up one time
    module _ (walked : Walked) (packet : List ℕ) (format : CaptureFormat) (head : FrameHead) (new : Moment) (place : ℕ) (formed : format ≡ format_of now.source.reader)
        (seen : new.seen ≡ now.seen ++ walked.versions ∷ []) (at : place ≡ length new.seen)
        (passed : new.passed ≡ now.passed + (cond (is_denied walked.end) 0 1)) (denied : new.denied ≡ now.denied + (cond (is_denied walked.end) 1 0))
        (same : IsSame now.source new.source) (behind : new.source.behind ≡ now.source.behind)
        (heads : (file : List ℕ) → heads_left now.source file ≡ head ∷ heads_left new.source file) where
      p : PairState
      p = pair walked packet

      file : List ℕ
      file = file_of was.folder was.source

      line : List ℕ
      line = walked_line number place names flow.hops walked

      versions_more : new.seen ≡ was.seen ++ versions_in (pairs ++ p ∷ [])
      unfolding p
      versions_more =
          seen
          ∙ ap (λ s. s ++ walked.versions ∷ []) taken.seen
          ∙ append_assoc was.seen (versions_in pairs) (walked.versions ∷ [])
          ∙ ap (λ s. was.seen ++ s) (sym (map-append (λ (q : PairState). q.walked.versions) pairs (p ∷ [])))

      place_is : place ≡ (length was.seen + 1) + length pairs
      place_is = omega (arith, at, ap length seen, ap length taken.seen, length-append now.seen (walked.versions ∷ []), length-append was.seen (versions_in pairs), length-map pairs (λ (q : PairState). q.walked.versions))

      text_more : walked_lines number (length was.seen + 1) names flow.hops (pairs ++ p ∷ []) ≡ walked_lines number (length was.seen + 1) names flow.hops pairs ++ line
      unfolding p line
      text_more =
          lines_more number (length was.seen + 1) names flow.hops pairs p
          ∙ ap (λ n. walked_lines number (length was.seen + 1) names flow.hops pairs ++ walked_line number n names flow.hops walked) (sym place_is)

      heads_now : IsTrue was.folder.tells → drop (length pairs) (heads_left was.source file) ≡ head ∷ heads_left new.source file
      unfolding file
      heads_now told = sym (taken.heads told) ∙ heads (file_of was.folder was.source)

      heads_more : IsTrue was.folder.tells → heads_left new.source file ≡ drop (length (pairs ++ p ∷ [])) (heads_left was.source file)
      heads_more told =
          let count : 1 + length pairs ≡ length (pairs ++ p ∷ []) = omega (arith, length-append pairs (p ∷ [])) in
          let one = drop-drop 1 (length pairs) (heads_left was.source file) in
          sym (ap (drop 1) (heads_now told)) ∙ one ∙ ap (λ n. drop n (heads_left was.source file)) (let turn : length pairs + 1 ≡ length (pairs ++ p ∷ []) = omega (arith, count) in turn)

      frames_more : IsTrue was.folder.tells → text_of (pairs ++ p ∷ []) ≡ text_of pairs ++ frame_of format head walked.end packet
      unfolding text_of file p
      frames_more told =
          let before = heads_left was.source (file_of was.folder was.source) in
          let first = format_of was.source.reader in
          ap (λ fs. was.octets ++ file_frames first fs) (kept_more before pairs p)
          ∙ ap (λ t. was.octets ++ t) (frames_of_a_file_are_written_in_their_order first (kept_by before pairs) (kept_by (drop (length pairs) before) (p ∷ [])))
          ∙ ap (λ hs. was.octets ++ (file_frames first (kept_by before pairs) ++ file_frames first (kept_by hs (p ∷ [])))) (heads_now told)
          ∙ ap (λ t. was.octets ++ (file_frames first (kept_by before pairs) ++ t)) (kept_frame first head (heads_left new.source (file_of was.folder was.source)) walked packet)
          ∙ ap (λ (f : CaptureFormat). was.octets ++ (file_frames first (kept_by before pairs) ++ frame_of f head walked.end packet)) (sym (formed ∙ taken.source.format))
          ∙ sym (append_assoc was.octets (file_frames first (kept_by before pairs)) (frame_of format head walked.end packet))

      passed_more : new.passed ≡ was.passed + passed_in (pairs ++ p ∷ [])
      unfolding p
      passed_more = omega (arith, passed, taken.passed, passed_append pairs (pair walked packet))

      denied_more : new.denied ≡ was.denied + denied_in (pairs ++ p ∷ [])
      unfolding p
      denied_more = omega (arith, denied, taken.denied, denied_append pairs (pair walked packet))

      handed_text : (still : List ℕ) (b : SinkState) → IsPrintedTo new.stop (walked_lines number (length was.seen + 1) names flow.hops pairs ++ line) was.lines still was.stream b
          → IsPrintedTo new.stop (walked_lines number (length was.seen + 1) names flow.hops (pairs ++ p ∷ [])) was.lines still was.stream b
      handed_text still b printed = subst (λ (t : List ℕ). IsPrintedTo new.stop t was.lines still was.stream b) (sym text_more) printed

      -- the line was printed
      pub taken_handed : IsHandedOn (walked_line number place names flow.hops walked) now.lines new.lines now.stream new.stream
          → HasAppended new.stop flow.output (frame_of format head walked.end packet) now.octets new.octets now.folder new.folder → HasTaken number names flow was new (pairs ++ pair walked packet ∷ [])
      unfolding p line text_of file
      taken_handed hands appended =
          let ready : IsTrue was.folder.tells → IsTrue now.folder.tells = λ told. subst IsTrue (sym taken.folder_told) told in
          record {
            folder_told = appended.told ∙ taken.folder_told;
            stream_told = hands.told ∙ taken.stream_told;
            lines = handed_text new.lines new.stream
                (printed_by new.stop flow.output now.folder.appends new.folder.appends appended.moved _ was.lines new.lines was.stream new.stream
                (print_goes _ _ was.lines now.lines new.lines was.stream now.stream new.stream lines_none hands));
            seen = versions_more;
            passed = passed_more;
            denied = denied_more;
            source = same_more was.source now.source new.source taken.source same;
            heads = heads_more;
            output = λ told name is.
                subst (λ (t : List ℕ). IsAppended new.stop t new.octets (was.folder.held name) (new.folder.held name)) (sym (frames_more told))
                (appended_more new.stop (text_of pairs) (frame_of format head walked.end packet) now.octets new.octets _ _ _ (output_none told name is) (appended.here (ready told) name is));
            others = λ told name other. appended.others (ready told) name other ∙ taken.others told name other;
            reads = reads_after now.source.behind new.source.behind flow.input was.folder.reads now.folder.reads new.folder.reads behind taken.reads appended.reads;
            failed = λ is. absurd (no_read new.stop flow.output now.folder.appends new.folder.appends appended.moved is);
            creates = λ name. appended.creates name ∙ taken.creates name;
            still = λ no_output name. appended.still no_output name ∙ taken.still no_output name;
            moved = moved_more flow new.stop was now new moved_none appended.moved hands.counts.ok;
            faults = omega (arith, taken.faults, hands.counts.no_less);
          }

      -- the print has failed
      pub taken_unprinted : (fault : IoFault) → new.stop ≡ Some (print_stop fault)
          → HandsOn {T = Unit {0}} (walked_line number place names flow.hops walked) now.lines new.lines (Err fault) now.stream new.stream
          → new.folder ≡ now.folder → new.octets ≡ now.octets → HasTaken number names flow was new (pairs ++ pair walked packet ∷ [])
      unfolding p line text_of file
      taken_unprinted fault stop hands folder octets = record {
        folder_told = ap (λ (d : DepotState). d.tells) folder ∙ taken.folder_told;
        stream_told = hands.told ∙ taken.stream_told;
        lines = handed_text new.lines new.stream
            (subst (λ (s : Option FlowStop). IsPrintedTo s (walked_lines number (length was.seen + 1) names flow.hops pairs ++ line) was.lines new.lines was.stream new.stream) (sym stop)
            (print_fails fault (walked_lines number (length was.seen + 1) names flow.hops pairs) line was.lines now.lines new.lines was.stream now.stream new.stream lines_none hands));
        seen = versions_more;
        passed = passed_more;
        denied = denied_more;
        source = same_more was.source now.source new.source taken.source same;
        heads = heads_more;
        output = λ told name is.
            let one = appended_cut (print_stop fault) (text_of pairs) (frame_of format head walked.end packet) now.octets new.octets _ _ (output_none told name is) in
            let there = subst (λ (d : DepotState). IsAppended (Some (print_stop fault)) (text_of pairs ++ frame_of format head walked.end packet) new.octets (was.folder.held name) (d.held name)) (sym folder) one in
            let stopped = subst (λ (s : Option FlowStop). IsAppended s (text_of pairs ++ frame_of format head walked.end packet) new.octets (was.folder.held name) (new.folder.held name)) (sym stop) there in
            subst (λ (t : List ℕ). IsAppended new.stop t new.octets (was.folder.held name) (new.folder.held name)) (sym (frames_more told)) stopped;
        others = λ told name other. ap (λ (d : DepotState). d.held name) folder ∙ taken.others told name other;
        reads = reads_after now.source.behind new.source.behind flow.input was.folder.reads now.folder.reads new.folder.reads behind taken.reads (λ name. ap (λ (d : DepotState). d.reads name) folder);
        failed = λ is. absurd (print_not_read fault (sym stop ∙ is));
        creates = λ name. ap (λ (d : DepotState). d.creates name) folder ∙ taken.creates name;
        still = λ no_output name. ap (λ (d : DepotState). d.appends name) folder ∙ taken.still no_output name;
        moved = subst (λ (s : Option FlowStop). IsMoved flow s (outside_of was) (outside_of new)) (sym stop) (moved_print flow fault was now new moved_none hands.counts folder);
        faults = omega (arith, taken.faults, hands.counts.no_less);
      }

      handed_more : HasHanded new.stop (walked_line number place names flow.hops walked) flow.output (frame_of format head walked.end packet) (outlets_at now) (outlets_at new)
          → HasTaken number names flow was new (pairs ++ pair walked packet ∷ [])
      handed_more (inl done) = taken_handed done.0 done.1
      handed_more (inr failed) = taken_unprinted failed.0 failed.1 failed.2 failed.3 failed.4

      pub taken_more : (stop : Option FlowStop) → new.stop ≡ stop
          → HasHanded stop (walked_line number place names flow.hops walked) flow.output (frame_of format head walked.end packet) (outlets_at now) (outlets_at new)
          → HasTaken number names flow was new (pairs ++ pair walked packet ∷ [])
      taken_more stop is handed =
          handed_more (subst (λ (s : Option FlowStop). HasHanded s (walked_line number place names flow.hops walked) flow.output (frame_of format head walked.end packet)
          (outlets_at now) (outlets_at new)) (sym is) handed)

-- ---- what a feed needs, behind a packet

module _ (stop : Option FlowStop) (text : List ℕ) (output : Option (List ℕ)) (frame : List ℕ) (was now : Outlets) where
  handed_told : HasHanded stop text output frame was now → now.folder.tells ≡ was.folder.tells
  handed_told (inl done) = done.1.told
  handed_told (inr failed) = ap (λ (d : DepotState). d.tells) failed.3

  handed_others : HasHanded stop text output frame was now → IsTrue was.folder.tells → (name : List ℕ) → output ≢ Some name → now.folder.held name ≡ was.folder.held name
  handed_others (inl done) told name other = done.1.others told name other
  handed_others (inr failed) told name other = ap (λ (d : DepotState). d.held name) failed.3

  handed_there : HasHanded stop text output frame was now → IsThere output was.folder → IsThere output now.folder
  handed_there (inl done) there =
      λ told name is.
      let here = done.1.here (subst IsTrue done.1.told told) name is in
      (here.held ++ here.sent, here.now)
  handed_there (inr failed) there = subst (λ (d : DepotState). IsThere output d) (sym failed.3) there

pub fed_kept : (a b : DepotState) (s s' : Source) → b.tells ≡ a.tells → (IsTrue a.tells → b.held (file_name_of s.reader) ≡ a.held (file_name_of s.reader))
    → s'.reader ≡ s.reader → s'.most ≡ s.most → s'.read ≡ s.read → s'.behind ≡ s.behind → s'.heads.items ≡ s.heads.items → s'.fetched.items ≡ s.fetched.items → IsFed a s → IsFed b s'
fed_kept a b s s' told held reader most read behind heads fetched fed = record {
  ready = subst (λ (r : AnyFrames). IsReadable b r) (sym reader) (readable_kept a b s.reader told held fed.ready);
  stands = λ told'.
      let before = subst IsTrue told told' in
      let here = ap (λ (r : AnyFrames). octets_of (b.held (file_name_of r))) reader ∙ ap octets_of (held before) in
      subst (λ (f : List ℕ). StandsBy s'.behind s' f) (sym here)
      (subst (λ (x : Option Behind). StandsBy x s' (file_of a s)) (sym behind) (stands_same s.behind s s' (file_of a s) reader most read (fed.stands before)));
  within = subst (λ n. s'.read ≤ n) (sym most) (subst (λ n. n ≤ s.most) (sym read) fed.within);
  times = subst (λ (r : AnyFrames). All (IsTime (format_of r)) s'.heads.items) (sym reader)
      (subst (λ (hs : List FrameHead). All (IsTime (format_of s.reader)) hs) (sym heads) fed.times);
  fetched = subst (λ (r : AnyFrames). All (IsTime (format_of r)) s'.fetched.items) (sym reader)
      (subst (λ (hs : List FrameHead). All (IsTime (format_of s.reader)) hs) (sym fetched) fed.fetched);
}

module _ (flow : FlowLine) (now new : Moment) (stop : Option FlowStop) (text frame : List ℕ) (going : IsGoing flow now)
    (handed : HasHanded stop text flow.output frame (outlets_at now) (outlets_at new)) (reader : new.source.reader ≡ now.source.reader) where
  fed_handed : IsFed now.folder now.source → new.source.most ≡ now.source.most → new.source.read ≡ now.source.read → new.source.behind ≡ now.source.behind → new.source.heads.items ≡ now.source.heads.items
      → new.source.fetched.items ≡ now.source.fetched.items → IsFed new.folder new.source
  fed_handed fed most read behind heads fetched =
      fed_kept now.folder new.folder now.source new.source (handed_told stop text flow.output frame (outlets_at now) (outlets_at new) handed)
      (λ told. handed_others stop text flow.output frame (outlets_at now) (outlets_at new) handed told (file_name_of now.source.reader) (λ is. going.apart (is ∙ ap Some going.input)))
      reader most read behind heads fetched fed

  going_handed : new.source.most ≡ now.source.most → new.source.read ≡ now.source.read → new.source.heads.items ≡ now.source.heads.items → new.source.fetched.items ≡ now.source.fetched.items
      → new.source.at ≡ now.source.at + 1 → 0 < due_in now.source → (versions : List ℕ) (denied : Bool) → new.seen ≡ now.seen ++ versions ∷ []
      → new.passed ≡ now.passed + cond denied 0 1 → new.denied ≡ now.denied + cond denied 1 0 → IsGoing flow new
  going_handed most read heads fetched at due versions denied seen passed more = record {
    input = ap file_name_of reader ∙ going.input;
    apart = going.apart;
    present = handed_there stop text flow.output frame (outlets_at now) (outlets_at new) handed going.present;
    counts = omega (arith, going.counts, ap length seen, length-append now.seen (versions ∷ []), passed, more, one_counts denied);
    accepted =
        omega (arith, going.accepted, ap length seen, length-append now.seen (versions ∷ []), read, ap length heads, ap length fetched, at, due);
    few = omega (arith, going.few, most);
  }

pub ready_handed : (flow : FlowLine) (now new : Moment) (next : List PacketIn) (stop : Option FlowStop) (text frame : List ℕ) (versions : List ℕ) (denied : Bool)
    → IsFed now.folder now.source × IsGoing flow now × IsAhead now.source next
    → new.source.reader ≡ now.source.reader → new.source.most ≡ now.source.most → new.source.read ≡ now.source.read → new.source.behind ≡ now.source.behind
    → new.source.heads.items ≡ now.source.heads.items → new.source.fetched.items ≡ now.source.fetched.items → new.source.at ≡ now.source.at + 1 → 0 < due_in now.source
    → new.seen ≡ now.seen ++ versions ∷ [] → new.passed ≡ now.passed + cond denied 0 1 → new.denied ≡ now.denied + cond denied 1 0
    → HasHanded stop text flow.output frame (outlets_at now) (outlets_at new) → IsFed new.folder new.source × IsGoing flow new × IsAhead new.source next
ready_handed flow now new next stop text frame versions denied ready reader most read behind heads fetched at due seen passed more handed = (
  fed_handed flow now new stop text frame ready.1 handed reader ready.0 most read behind heads fetched,
  going_handed flow now new stop text frame ready.1 handed reader most read heads fetched at due versions denied seen passed more,
  same_ahead now.source new.source next heads ready.2,
)

-- ---- what a feed needs, behind a fetch

there_moved : (output : Option (List ℕ)) (a b : DepotState) (old new : Source) → HasMoved old new a b → IsThere output a → IsThere output b
there_moved output a b old new (inl one) there =
    λ told name is.
    let told' = subst IsTrue one.1.told told in
    let held = there told' name is in
    (held.0, one.1.kept told' name ∙ held.1)
there_moved output a b old new (inr stays) there = subst (λ (d : DepotState). IsThere output d) (sym stays.1) there

pub going_stepped : (flow : FlowLine) (now new : Moment) → IsGoing flow now → HasStepped now.source new.source now.folder new.folder → new.seen ≡ now.seen → new.passed ≡ now.passed
    → new.denied ≡ now.denied → IsGoing flow new
going_stepped flow now new going stepped seen passed denied = record {
  input = stepped.same.name ∙ going.input;
  apart = going.apart;
  present = there_moved flow.output now.folder new.folder now.source new.source stepped.moved going.present;
  counts = omega (arith, going.counts, ap length seen, passed, denied);
  accepted = omega (arith, going.accepted, stepped.counted, ap length seen);
  few = omega (arith, stepped.same.most, going.few);
}

-- at its start nothing was accepted
pub going_fresh : (flow : FlowLine) (most : ℕ) (now : Moment) → IsFresh flow.input most now.source → most ≤ packets_limit → flow.output ≢ Some flow.input → IsThere flow.output now.folder
    → now.seen ≡ [] → now.passed ≡ 0 → now.denied ≡ 0 → IsGoing flow now
going_fresh flow most now fresh few apart present seen passed denied = record {
  input = fresh.name;
  apart = apart;
  present = present;
  counts = omega (arith, ap length seen, passed, denied);
  accepted = omega (arith, ap length seen, ap length fresh.heads, ap length fresh.fetched);
  few = omega (arith, fresh.most_is, few);
}

-- there is room for one more packet where one is to be accepted
pub room_accepted : (flow : FlowLine) (now : Moment) → IsFed now.folder now.source → IsGoing flow now → 0 < due_in now.source → length now.seen < 1048576
room_accepted flow now fed going due = omega (arith, fed.within, going.accepted, going.few, due)

-- the first time that isn't used yet
pub head_first : (source : Source) (d : FrameHead) (file : List ℕ) → source.at < length source.fetched.items → d ≡ get_or source.fetched.items source.at d
    → heads_left source file ≡ d ∷ heads_left (record source { at = source.at + 1 }) file
head_first source d file less first =
    let one : suc source.at ≡ source.at + 1 = omega arith in
    let left = map (λ (f : CapturedFrame). f.head) (frames_left source file) in
    ap (λ hs. (hs ++ source.heads.items) ++ left) (drop-cons source.fetched.items source.at d less)
    ∙ ap (λ n. ((get_or source.fetched.items source.at d ∷ drop n source.fetched.items) ++ source.heads.items) ++ left) one
    ∙ ap (λ x. x ∷ heads_left (record source { at = source.at + 1 }) file) (sym first)

-- ---- the beginning, and the end

pub taken_begins : (number : ℕ) (names : List (List ℕ)) (flow : FlowLine) (was : Moment) → was.stop ≡ None → was.source.behind ≡ None → IsThere flow.output was.folder → HasTaken number names flow was was []
taken_begins number names flow was none fetched there = record {
  folder_told = refl;
  stream_told = refl;
  lines = subst (λ (s : Option FlowStop). IsPrintedTo s [] was.lines was.lines was.stream was.stream) (sym none)
      (subst (λ (w : List ℕ). IsHandedOn [] was.lines w was.stream was.stream) (append-nil was.lines) (nothing_is_handed_on [] was.lines tt was.stream));
  seen = sym (append-nil was.seen);
  passed = omega arith;
  denied = omega arith;
  source = record { name = refl; format = refl; most = refl };
  heads = λ told. refl;
  output = λ told name is.
      let held = there told name is in
      record {
        held = held.0;
        sent = [];
        rest = was.octets;
        was = held.1;
        now = held.1 ∙ ap Some (sym (append-nil held.0));
        all = sym (append-nil was.octets) ∙ ap (λ fs. was.octets ++ file_frames (format_of was.source.reader) fs) (sym (kept_none (heads_left was.source (file_of was.folder was.source))));
        left = λ _. refl;
      };
  others = λ told name other. refl;
  reads = subst (λ (b : Option Behind). ReadsMove b flow.input was.folder.reads was.folder.reads) (sym fetched) (λ name. refl);
  failed = λ is. absurd (let no_stop : None ≡ Some the_stop.Read = sym none ∙ is in cc);
  creates = λ name. refl;
  still = λ no_output name. refl;
  moved = subst (λ (s : Option FlowStop). IsMoved flow s (outside_of was) (outside_of was)) (sym none) (record { writes = refl; appends = λ name. refl });
  faults = le_refl _;
}

-- the same by the name of the stop
pub taken_at : (number : ℕ) (names : List (List ℕ)) (flow : FlowLine) (was now : Moment) (stop : Option FlowStop) (pairs : List PairState) → now.stop ≡ stop
    → HasTaken number names flow was now pairs → HasTaken number names flow was (record now { stop = stop }) pairs
taken_at number names flow was now stop pairs is taken =
    let text = walked_lines number (length was.seen + 1) names flow.hops pairs in
    record {
      folder_told = taken.folder_told;
      stream_told = taken.stream_told;
      lines = subst (λ (s : Option FlowStop). IsPrintedTo s text was.lines now.lines was.stream now.stream) is taken.lines;
      seen = taken.seen;
      passed = taken.passed;
      denied = taken.denied;
      source = taken.source;
      heads = taken.heads;
      output = λ told name at.
          let octets = was.octets ++ file_frames (format_of was.source.reader) (kept_by (heads_left was.source (file_of was.folder was.source)) pairs) in
          subst (λ (s : Option FlowStop). IsAppended s octets now.octets (was.folder.held name) (now.folder.held name)) is (taken.output told name at);
      others = taken.others;
      reads = taken.reads;
      failed = λ at. taken.failed (is ∙ at);
      creates = taken.creates;
      still = taken.still;
      moved = subst (λ (s : Option FlowStop). IsMoved flow s (outside_of was) (outside_of now)) is taken.moved;
      faults = taken.faults;
    }

-- memory ran out behind what was done
pub taken_out : (number : ℕ) (names : List (List ℕ)) (flow : FlowLine) (was now : Moment) (pairs : List PairState) → HasTaken number names flow was now pairs → now.stop ≡ None
    → HasTaken number names flow was (record now { stop = Some the_stop.OutOfMemory }) pairs
taken_out number names flow was now pairs taken none =
    taken_unkept number names flow was now pairs taken none (record now { stop = Some the_stop.OutOfMemory }) refl refl refl refl refl refl refl refl refl

-- where the end is known, memory may still run out
pub taken_ends : (number : ℕ) (names : List (List ℕ)) (flow : FlowLine) (was now : Moment) (stop : Option FlowStop) (pairs : List PairState)
    → (stop ≡ None) ⊎ (stop ≡ Some the_stop.OutOfMemory) → now.stop ≡ None → HasTaken number names flow was now pairs → HasTaken number names flow was (record now { stop = stop }) pairs
taken_ends number names flow was now stop pairs (inl none) before taken = taken_at number names flow was now stop pairs (before ∙ sym none) taken
taken_ends number names flow was now stop pairs (inr out) before taken =
    subst (λ (x : Option FlowStop). HasTaken number names flow was (record now { stop = x }) pairs) (sym out) (taken_out number names flow was now pairs taken before)

-- what waits is appended
pub taken_appended : (number : ℕ) (names : List (List ℕ)) (flow : FlowLine) (was now : Moment) (folder' : DepotState) (octets' : List ℕ) (stop : Option FlowStop) (pairs : List PairState)
    → HasTaken number names flow was now pairs → now.stop ≡ None → HasAppended stop flow.output [] now.octets octets' now.folder folder'
    → HasTaken number names flow was (record now { folder = folder'; octets = octets'; stop = stop }) pairs
taken_appended number names flow was now folder' octets' stop pairs taken none appended =
    let ready : IsTrue was.folder.tells → IsTrue now.folder.tells = λ told. subst IsTrue (sym taken.folder_told) told in
    let text = was.octets ++ file_frames (format_of was.source.reader) (kept_by (heads_left was.source (file_of was.folder was.source)) pairs) in
    record {
      folder_told = appended.told ∙ taken.folder_told;
      stream_told = taken.stream_told;
      lines = printed_by stop flow.output now.folder.appends folder'.appends appended.moved (walked_lines number (length was.seen + 1) names flow.hops pairs) was.lines now.lines was.stream now.stream
          (lines_none number names flow was now pairs taken none);
      seen = taken.seen;
      passed = taken.passed;
      denied = taken.denied;
      source = taken.source;
      heads = taken.heads;
      output = λ told name is.
          subst (λ (t : List ℕ). IsAppended stop t octets' (was.folder.held name) (folder'.held name)) (append-nil text)
          (appended_more stop text [] now.octets octets' (was.folder.held name) (now.folder.held name) (folder'.held name)
          (subst (λ (s : Option FlowStop). IsAppended s text now.octets (was.folder.held name) (now.folder.held name)) none (taken.output told name is)) (appended.here (ready told) name is));
      others = λ told name other. appended.others (ready told) name other ∙ taken.others told name other;
      reads = reads_after now.source.behind now.source.behind flow.input was.folder.reads now.folder.reads folder'.reads refl taken.reads appended.reads;
      failed = λ is. absurd (no_read stop flow.output now.folder.appends folder'.appends appended.moved is);
      creates = λ name. appended.creates name ∙ taken.creates name;
      still = λ no_output name. appended.still no_output name ∙ taken.still no_output name;
      moved = moved_more flow stop was now (record now { folder = folder'; octets = octets'; stop = stop }) (moved_none number names flow was now pairs taken none) appended.moved refl;
      faults = taken.faults;
    }
