-- How a flow ends: at once, or with what it has done from its beginning on.
use Rattle.std.proofs.Common.{cond, ◌≡◌, ◌≢◌, ◌≤◌, ◌⊎◌, ℕ, ◌+◌, ◌-◌, true, false, nat_eq, IsTrue, List, [], ◌∷◌, ◌++◌, length, take, drop, map, Option, Some, None, Result, Ok, Err, refl, sym, ap, subst, ◌∙◌, append_assoc, arith, inl, inr}
use Rattle.std.proofs.lemmas.Bool.Decides.{nat_tests}
use Rattle.std.proofs.lemmas.List.{append-nil, length-map, take_at}
use Rattle.std.specs.Option.{option_map}
use Rattle.net_io.specs.Depot.{DepotState, octets_of, OnlyReads}
use Rattle.net_io.specs.Sink.{SinkState, WritesPrefix}
use Rattle.net_io.specs.Faults.{Rose, SameCounts}
use Rattle.label_commands.specs.declared.flow_lines.flow.FlowLine.{FlowLine}
use Rattle.label_commands.specs.declared.flow_lines.hop.Hop.{Hop}
use Rattle.pcap_frames.specs.Record.{Frame}
use Rattle.captures.specs.declared.packet_in.PacketIn.{PacketIn}
use Rattle.captures.specs.declared.format.CaptureFormat.{CaptureFormat}
use Rattle.captures.specs.declared.fault.FileFault.{FileFault}
use Rattle.captures.specs.declared.fault.FileFault.TheVariants as file_fault
use Rattle.captures.specs.declared.fault.ReadStop.{ReadStop}
use Rattle.captures.specs.declared.fault.ReadStop.TheVariants as read_stop
use Rattle.captures.specs.declared.reader.AnyFrames.{AnyFrames}
use Rattle.captures.specs.Frame.{CapturedFrame, packet_in}
use Rattle.captures.specs.CaptureFile.{CaptureFile, capture_file}
use Rattle.captures.specs.Reader.{file_name_of, format_of, left_of, begun_file, IsFileBegun}
use Rattle.captures.specs.Written.{file_frames, file_octets}
use Rattle.shared_tables.specs.Plan.{PlanState}
use Rattle.label_flow.specs.Pair.{PairState}
use Rattle.label_flow.specs.Feed.{AreBegun, AreWhole}
use Rattle.label_flow.specs.Walked.{AreWalked}
use Rattle.label_flow.specs.Schedule.{AreLawful, versions_in}
use Rattle.call_report.specs.Lines.Capture.{capture_line}
use Rattle.call_report.specs.Lines.Flow.{flow_line, flow_end_line}
use Rattle.call_report.specs.Event.{capture_event}
use Rattle.call_report.specs.Outside.{Outside, NoneFailed, NoWriteFailed}
use Rattle.call_report.specs.Output.{Output, IsBegun, IsMade}
use Rattle.call_report.specs.Printing.{Breaks}
use Rattle.call_report.proofs.Law.{nothing_is_handed_on}
use Rattle.script_run.specs.declared.flow_run.end.FlowPlace.{FlowPlace}
use Rattle.script_run.specs.declared.flow_run.end.FlowEnd.{FlowEnd}
use Rattle.script_run.specs.declared.flow_run.end.FlowEnd.TheVariants.{GoesOn, Broken, TooMany, Stopped}
use Rattle.script_run.specs.declared.flow_run.end.FlowStop.{FlowStop}
use Rattle.script_run.specs.declared.flow_run.end.FlowStop.TheVariants as the_stop
use Rattle.script_run.specs.declared.flow_run.source.Source.{Source}
use Rattle.script_run.specs.declared.flow_run.source.Behind.{Behind}
use Rattle.script_run.specs.declared.flow_run.source.Behind.TheVariants as the_behind
use Rattle.script_run.specs.flow_run.Input.{FlowInput, input_by, flow_input}
use Rattle.script_run.specs.flow_run.Run.{FlowRun, is_judged, is_denied, walked_lines, run_text, run_end, kept_frames, passed_in, denied_in}
use Rattle.script_run.specs.flow_run.Ends.{IsHandedOn, IsPrinted, IsEnd, HasEnded, HasMade, HasReadInput, IsCause, IsRunOf, FlowEnds}
use Rattle.script_run.specs.flow_run.inside.Output.{IsAppended, HasHead}
use Rattle.script_run.specs.flow_run.inside.Source.{frames_left, packets_left, heads_left, file_of, StandsBy, IsAtEnd, event_of, is_end, ReadsMove, IsFed}
use Rattle.script_run.specs.flow_run.inside.Taken.{Moment, IsPrintedTo, kept_by, IsMoved, outside_of, HasTaken}
use Rattle.script_run.specs.flow_run.inside.Flown.{IsStart, EndsBehind, IsFresh, HasRead, HasCreated, CreatesMove, HasFlown, WaitsFor, IsBehind, stop_of, end_at}
use Rattle.script_run.proofs.flow_run.Prints.{cut_off, print_goes}
use Rattle.script_run.proofs.flow_run.Reading.{reads_more, open_left}
use Rattle.script_run.proofs.flow_run.Steps.{fed_kept}

-- ---- a flow that ends before a packet

abbrev early_run : ℕ → ℕ → FlowLine → Option (List ℕ) → FlowRun
early_run number most flow held = record { number = number; flow = flow; input = flow_input number most held; pairs = [] }

abbrev broken_input : ℕ → FileFault → FlowInput
broken_input number fault = record { format = None; frames = []; event = Some (record { status = 5; line = capture_line number fault }) }

-- the file is there, and this is what it holds
abbrev Holds : Option (List ℕ) → Result CaptureFile FileFault → Type 0
Holds held read = (file : List ℕ) × (held ≡ Some file) × (capture_file file ≡ read)

input_of : (number most : ℕ) (held : Option (List ℕ)) (read : Result CaptureFile FileFault) → Holds held read → flow_input number most held ≡ input_by number most read
input_of number most held read holds = ap (flow_input number most) holds.1 ∙ ap (input_by number most) holds.2

broken_ends : (number most : ℕ) (flow : FlowLine) (held : Option (List ℕ)) (fault : FileFault) → Holds held (Err fault) → IsEnd (Broken fault) (early_run number most flow held)
broken_ends number most flow held fault holds =
    subst (λ (input : FlowInput). IsEnd (Broken fault) (record { number = number; flow = flow; input = input; pairs = [] })) (sym (input_of number most held (Err fault) holds)) (refl, refl)

no_output : (number : ℕ) (flow : FlowLine) (fault : FileFault) (output : Output) (name : Option (List ℕ)) (old new : List ℕ → Option (List ℕ)) → ((n : List ℕ) → new n ≡ old n)
    → option_map (λ (n : List ℕ). (let one : Output = record { name = n; octets = None } in one)) name ≡ Some output → IsMade output old new
no_output number flow fault output None old new kept is = absurd cc
no_output number flow fault output (Some name) old new kept is =
    let one : Output = record { name = name; octets = None } in
    let same : one ≡ output = cc in
    subst (λ (o : Output). IsMade o old new) same (λ octets some. absurd (let no_octets : None ≡ Some octets = some in cc), λ _. kept name)

broken_made : (number most : ℕ) (flow : FlowLine) (held : Option (List ℕ)) (fault : FileFault) (old new : List ℕ → Option (List ℕ)) → Holds held (Err fault)
    → ((n : List ℕ) → new n ≡ old n) → HasMade (early_run number most flow held) (Broken fault) old new
broken_made number most flow held fault old new holds kept =
    subst (λ (input : FlowInput). HasMade (record { number = number; flow = flow; input = input; pairs = [] }) (Broken fault) old new) (sym (input_of number most held (Err fault) holds))
    (record {
      begun = λ output at. inl (kept output.name);
      made = λ ended output at. no_output number flow fault output flow.output old new kept at;
      others = λ name other. kept name;
    })

module _ (plan : PlanState) (names : List (List ℕ)) (workers number most upto : ℕ) (flow : FlowLine) (before after : Outside) (waits waits' : List ℕ) (low : flow.before ≤ upto) where
  first_run : FlowRun
  first_run = early_run number most flow (before.folder.held flow.input)

  early : (end : FlowEnd) → (IsTrue before.folder.tells → IsEnd end first_run) → (IsTrue before.folder.tells → IsPrinted names first_run end waits waits' before.stream after.stream)
      → (IsTrue before.folder.tells → HasMade first_run end before.folder.held after.folder.held) → IsCause flow end before after
      → (flow.output ≡ None → SameCounts before.folder.creates after.folder.creates × SameCounts before.folder.appends after.folder.appends)
      → before.stream.faults ≤ after.stream.faults → after.folder.tells ≡ before.folder.tells → after.stream.tells ≡ before.stream.tells
      → FlowEnds plan names workers number most upto flow before after waits waits' [] end
  unfolding first_run
  early end ends printed made cause still faults folder_told stream_told = record {
    runs = λ told. record {
      run = early_run number most flow (before.folder.held flow.input);
      numbered = refl;
      flow_is = refl;
      input = refl;
      is = record { walked = tt; versions = refl };
      lawful = record { count = refl; walks = λ k less. tt; rises = λ k less. low };
      ends = ends told;
      printed = printed told;
      made = made told;
    };
    cause = cause;
    still = still;
    faults = faults;
    folder_told = folder_told;
    stream_told = stream_told;
  }

  line_waits : waits' ≡ waits ++ flow_line number flow.input → after.stream ≡ before.stream → IsHandedOn (run_text names first_run) waits waits' before.stream after.stream
  unfolding first_run
  line_waits is same =
      let text = flow_line number flow.input ++ [] in
      subst (λ (s : SinkState). IsHandedOn text waits waits' before.stream s) (sym same)
      (subst (λ (w : List ℕ). IsHandedOn text waits w before.stream before.stream) (ap (λ t. waits ++ t) (append-nil (flow_line number flow.input)) ∙ sym is)
      (nothing_is_handed_on text waits tt before.stream))

  unmade : (why : FlowStop) → ((name : List ℕ) → after.folder.held name ≡ before.folder.held name) → HasMade first_run (Stopped why) before.folder.held after.folder.held
  unmade why kept = record { begun = λ output is. inl (kept output.name); made = λ ended. absurd ended; others = λ name other. kept name }

  faults_same : after.stream ≡ before.stream → before.stream.faults ≤ after.stream.faults
  faults_same same = omega (arith, ap (λ (s : SinkState). s.faults) same)

  -- memory ran out: nothing has failed but a read of the input
  abbrev RanShort : Type 0
  RanShort = NoWriteFailed before after × HasReadInput flow before after

  ran_short : after.folder ≡ before.folder → after.stream ≡ before.stream → RanShort
  ran_short folder stream = (
    record { writes = ap (λ (s : SinkState). s.faults) stream; appends = λ name. ap (λ (d : DepotState). d.appends name) folder },
    record { reads = inl (λ name. ap (λ (d : DepotState). d.reads name) folder); creates = λ name. ap (λ (d : DepotState). d.creates name) folder },
  )

  -- memory runs out for its line
  pub ends_lineless : after.folder ≡ before.folder → after.stream ≡ before.stream → FlowEnds plan names workers number most upto flow before after waits waits' [] (Stopped the_stop.OutOfMemory)
  ends_lineless folder stream =
      early (Stopped the_stop.OutOfMemory) (λ told. tt)
      (λ told. record {
        told = ap (λ (s : SinkState). s.tells) stream;
        faults = ap (λ (s : SinkState). s.faults) stream;
        prefix = λ t. record { count = 0; within = omega arith; written = ap (λ (s : SinkState). s.written) stream ∙ sym (append-nil before.stream.written) };
      })
      (λ told. unmade the_stop.OutOfMemory (λ name. ap (λ (d : DepotState). d.held name) folder))
      (ran_short folder stream) (λ none. (λ name. ap (λ (d : DepotState). d.creates name) folder, λ name. ap (λ (d : DepotState). d.appends name) folder))
      (faults_same stream) (ap (λ (d : DepotState). d.tells) folder) (ap (λ (s : SinkState). s.tells) stream)

  module _ (waits_are : waits' ≡ waits ++ flow_line number flow.input) (stream : after.stream ≡ before.stream) (folder_told : after.folder.tells ≡ before.folder.tells)
      (kept : IsTrue before.folder.tells → (name : List ℕ) → after.folder.held name ≡ before.folder.held name)
      (still : flow.output ≡ None → SameCounts before.folder.creates after.folder.creates × SameCounts before.folder.appends after.folder.appends) where
    -- a read of the beginning has failed
    pub ends_unread : Rose (before.folder.reads flow.input) (after.folder.reads flow.input) → NoWriteFailed before after → FlowEnds plan names workers number most upto flow before after waits waits' [] (Stopped the_stop.Read)
    ends_unread rose unwritten =
        early (Stopped the_stop.Read) (λ told. tt) (λ told. line_waits waits_are stream) (λ told. unmade the_stop.Read (kept told)) (rose, unwritten) still
        (faults_same stream) folder_told (ap (λ (s : SinkState). s.tells) stream)

    -- the output can't be made
    pub ends_unmade : (name : List ℕ) → flow.output ≡ Some name → Rose (before.folder.creates name) (after.folder.creates name) → NoWriteFailed before after
        → FlowEnds plan names workers number most upto flow before after waits waits' [] (Stopped the_stop.Create)
    ends_unmade name is rose unwritten =
        early (Stopped the_stop.Create) (λ told. tt) (λ told. line_waits waits_are stream) (λ told. unmade the_stop.Create (kept told)) (name, is, rose, unwritten) still
        (faults_same stream) folder_told (ap (λ (s : SinkState). s.tells) stream)

    -- memory runs out behind its line
    pub ends_early : RanShort → FlowEnds plan names workers number most upto flow before after waits waits' [] (Stopped the_stop.OutOfMemory)
    ends_early short =
        early (Stopped the_stop.OutOfMemory) (λ told. tt) (λ told. cut_off _ _ _ _ _ (line_waits waits_are stream)) (λ told. unmade the_stop.OutOfMemory (kept told)) short still
        (faults_same stream) folder_told (ap (λ (s : SinkState). s.tells) stream)

    -- the beginning is broken
    pub ends_broken : (fault : FileFault) → (IsTrue before.folder.tells → Holds (before.folder.held flow.input) (Err fault)) → NoneFailed before after
        → FlowEnds plan names workers number most upto flow before after waits waits' [] (Broken fault)
    unfolding first_run
    ends_broken fault holds none =
        early (Broken fault) (λ told. broken_ends number most flow (before.folder.held flow.input) fault (holds told))
        (λ told. line_waits waits_are stream)
        (λ told. broken_made number most flow (before.folder.held flow.input) fault before.folder.held after.folder.held (holds told) (kept told))
        none still (faults_same stream) folder_told (ap (λ (s : SinkState). s.tells) stream)

-- ---- a flow that has run

-- the input that was begun
begun_holds : (reader : AnyFrames) (held : Option (List ℕ)) → IsFileBegun (Ok reader) held → Holds held (Ok (begun_file reader (octets_of held)))
begun_holds reader held begun = (begun.0, begun.1, begun.2 ∙ ap (λ (f : List ℕ). Ok (begun_file reader f)) (sym (ap octets_of begun.1)))

held_file : (held : Option (List ℕ)) (capture : CaptureFile) → Holds held (Ok capture) → capture_file (octets_of held) ≡ Ok capture
held_file held capture holds = ap (λ (h : Option (List ℕ)). capture_file (octets_of h)) holds.1 ∙ holds.2

walked_front : (plan : PlanState) (hops : List Hop) (packets rest : List PacketIn) (pairs : List PairState) → AreWalked plan hops packets pairs → AreWalked plan hops (packets ++ rest) pairs
walked_front plan hops packets rest [] walked = tt
walked_front plan hops [] rest (pair ∷ pairs) walked = absurd walked
walked_front plan hops (packet ∷ packets) rest (pair ∷ pairs) walked = (walked.0, walked_front plan hops packets rest pairs walked.1)

kept_same : (frames : List CapturedFrame) (pairs : List PairState) → kept_by (map (λ (f : CapturedFrame). f.head) frames) pairs ≡ kept_frames frames pairs
kept_same [] pairs = refl
kept_same (frame ∷ frames) [] = refl
kept_same (frame ∷ frames) (pair ∷ pairs) =
    let kept : Frame = record { head = frame.head; octets = pair.octets } in
    ap (λ fs. cond (is_denied pair.walked.end) fs (kept ∷ fs)) (kept_same frames pairs)

same_count : (a b : ℕ) → a ≡ b → nat_eq a b ≡ true
same_count a b same = grind (arith, nat_tests, same)

at_end : (behind : Behind) (source : Source) (file : List ℕ) → is_end (Some behind) ≡ true → StandsBy (Some behind) source file → IsAtEnd source file behind
at_end the_behind.Whole source file end stands = stands
at_end (the_behind.Broken fault) source file end stands = stands
at_end the_behind.TooMany source file end stands = stands
at_end the_behind.Failed source file end stands = absurd cc
at_end the_behind.NoMemory source file end stands = absurd cc

-- a line in front
printed_front : (stop : Option FlowStop) (line text waits mid still : List ℕ) (a b : SinkState) → mid ≡ waits ++ line → IsPrintedTo stop text mid still a b → IsPrintedTo stop (line ++ text) waits still a b
printed_front stop line text waits mid still a b is printed =
    by_case stop (subst (λ (w : List ℕ). IsPrintedTo stop text w still a b) is printed)
  where
    joined : waits ++ (line ++ text) ≡ (waits ++ line) ++ text
    joined = sym (append_assoc waits line text)

    hands : IsHandedOn text (waits ++ line) still a b → IsHandedOn (line ++ text) waits still a b
    hands h = print_goes line text waits (waits ++ line) still a a b (nothing_is_handed_on line waits tt a) h

    by_case : (stop : Option FlowStop) → IsPrintedTo stop text (waits ++ line) still a b → IsPrintedTo stop (line ++ text) waits still a b
    by_case None h = hands h
    by_case (Some the_stop.Read) h = hands h
    by_case (Some the_stop.Create) h = hands h
    by_case (Some the_stop.Append) h = hands h
    by_case (Some the_stop.Print) h = (h.0, h.1, subst (λ (t : List ℕ). Breaks t a b) (sym joined) h.2)
    by_case (Some the_stop.OutOfMemory) h = record { told = h.told; faults = h.faults; prefix = λ told. subst (λ (t : List ℕ). WritesPrefix t a.written b.written) (sym joined) (h.prefix told) }

-- the end's line behind, or what waits
printed_end : (names : List (List ℕ)) (run : FlowRun) (end : FlowEnd) (now : Moment) (waits waits' : List ℕ) (a b : SinkState)
    → IsPrintedTo (stop_of end) (run_text names run) waits now.lines a b → WaitsFor run.number end now waits'
    → length now.seen ≡ length run.pairs → now.passed ≡ passed_in run.pairs → now.denied ≡ denied_in run.pairs → IsPrinted names run end waits waits' a b
printed_end names run GoesOn now waits waits' a b printed are seen passed denied =
    let is : waits' ≡ now.lines ++ run_end run =
    are
    ∙ ap (λ n. now.lines ++ flow_end_line run.number n now.passed now.denied) seen
    ∙ ap (λ n. now.lines ++ flow_end_line run.number (length run.pairs) n now.denied) passed
    ∙ ap (λ n. now.lines ++ flow_end_line run.number (length run.pairs) (passed_in run.pairs) n) denied in
    print_goes (run_text names run) (run_end run) waits now.lines waits' a b b printed
    (subst (λ (w : List ℕ). IsHandedOn (run_end run) now.lines w b b) (sym is) (nothing_is_handed_on (run_end run) now.lines tt b))
printed_end names run (Broken fault) now waits waits' a b printed are seen passed denied = subst (λ (w : List ℕ). IsHandedOn (run_text names run) waits w a b) (sym are) printed
printed_end names run TooMany now waits waits' a b printed are seen passed denied = subst (λ (w : List ℕ). IsHandedOn (run_text names run) waits w a b) (sym are) printed
printed_end names run (Stopped the_stop.Read) now waits waits' a b printed are seen passed denied = subst (λ (w : List ℕ). IsHandedOn (run_text names run) waits w a b) (sym are) printed
printed_end names run (Stopped the_stop.Create) now waits waits' a b printed are seen passed denied = subst (λ (w : List ℕ). IsHandedOn (run_text names run) waits w a b) (sym are) printed
printed_end names run (Stopped the_stop.Append) now waits waits' a b printed are seen passed denied = subst (λ (w : List ℕ). IsHandedOn (run_text names run) waits w a b) (sym are) printed
printed_end names run (Stopped the_stop.Print) now waits waits' a b printed are seen passed denied = printed
printed_end names run (Stopped the_stop.OutOfMemory) now waits waits' a b printed are seen passed denied = printed

-- which event ends it
end_event : (run : FlowRun) (end : FlowEnd) (format : CaptureFormat) (behind : Option Behind) → run.input.format ≡ Some format → (HasEnded end → is_judged run ≡ true)
    → IsBehind end behind → ((b : Behind) → behind ≡ Some b → is_end (Some b) ≡ true → run.input.event ≡ event_of run.number b) → IsEnd end run
end_event run GoesOn format behind has judged is event =
    rw (judged tt, has, event the_behind.Whole is refl) refl
end_event run (Broken fault) format behind has judged is event = (judged tt, event (the_behind.Broken fault) is refl)
end_event run TooMany format behind has judged is event = (judged tt, event the_behind.TooMany is refl)
end_event run (Stopped why) format behind has judged is event = tt

stop_ended : (end : FlowEnd) → HasEnded end → stop_of end ≡ None
stop_ended GoesOn ended = refl
stop_ended (Broken fault) ended = refl
stop_ended TooMany ended = refl
stop_ended (Stopped why) ended = absurd ended

output_named : (octets : Option (List ℕ)) (o : Option (List ℕ)) (output : Output) → option_map (λ (name : List ℕ). (let one : Output = record { name = name; octets = octets } in one)) o ≡ Some output
    → (name : List ℕ) × (o ≡ Some name) × (let one : Output = record { name = name; octets = octets } in output ≡ one)
output_named octets None output is = absurd cc
output_named octets (Some name) output is = (name, refl, (let one : Output = record { name = name; octets = octets } in let same : output ≡ one = cc in same))

sent_all : (stop : Option FlowStop) (text waits : List ℕ) (new : Option (List ℕ)) (appended : IsAppended stop text waits (Some []) new) → new ≡ Some appended.sent
sent_all stop text waits new appended =
    let none : appended.held ≡ [] = let eq = appended.was in cc in
    appended.now ∙ ap (λ h. Some (h ++ appended.sent)) none

begun_by : (stop : Option FlowStop) (text waits name : List ℕ) (old new : List ℕ → Option (List ℕ)) → IsAppended stop text waits (Some []) (new name)
    → IsBegun (record { name = name; octets = Some text }) old new
begun_by stop text waits name old new appended =
    let front : appended.sent ≡ take (length appended.sent) text =
    sym (ap (take (length appended.sent)) (sym appended.all) ∙ take_at appended.sent appended.rest (length appended.sent) refl) in
    inr (text, length appended.sent, refl, sent_all stop text waits (new name) appended ∙ ap Some front)

made_by : (stop : Option FlowStop) (text waits name : List ℕ) (old new : List ℕ → Option (List ℕ)) → stop ≡ None → waits ≡ [] → IsAppended stop text waits (Some []) (new name)
    → IsMade (record { name = name; octets = Some text }) old new
made_by stop text waits name old new none empty appended =
    let all : appended.sent ≡ text = sym (append-nil appended.sent) ∙ ap (λ r. appended.sent ++ r) (sym (appended.left none ∙ empty)) ∙ appended.all in (
      λ octets is. sent_all stop text waits (new name) appended ∙ ap Some all ∙ is,
      λ absent. absurd (let no_text : Some text ≡ None = absent in cc),
    )

unwritten_outside : (was now before after : Outside) → SameCounts before.folder.appends was.folder.appends → was.stream.faults ≡ before.stream.faults
    → SameCounts now.folder.appends after.folder.appends → after.stream.faults ≡ now.stream.faults → NoWriteFailed was now → NoWriteFailed before after
unwritten_outside was now before after a f a' f' none = record { writes = f' ∙ none.writes ∙ f; appends = λ name. a' name ∙ none.appends name ∙ a name }

moved_outside : (flow : FlowLine) (stop : Option FlowStop) (was now before after : Outside) → SameCounts before.folder.appends was.folder.appends → was.stream.faults ≡ before.stream.faults
    → SameCounts now.folder.appends after.folder.appends → after.stream.faults ≡ now.stream.faults → IsMoved flow stop was now → IsMoved flow stop before after
moved_outside flow None was now before after a f a' f' moved = unwritten_outside was now before after a f a' f' moved
moved_outside flow (Some the_stop.Read) was now before after a f a' f' moved = unwritten_outside was now before after a f a' f' moved
moved_outside flow (Some the_stop.Create) was now before after a f a' f' moved = absurd moved
moved_outside flow (Some the_stop.Append) was now before after a f a' f' moved =
    (moved.0, moved.1, subst (λ (n : ℕ). Rose n (after.folder.appends moved.0)) (a moved.0) (subst (λ (n : ℕ). Rose (was.folder.appends moved.0) n) (sym (a' moved.0)) moved.2))
moved_outside flow (Some the_stop.Print) was now before after a f a' f' moved = (
  subst (λ (n : ℕ). Rose n after.stream.faults) f (subst (λ (n : ℕ). Rose was.stream.faults n) (sym f') moved.0),
  λ name. a' name ∙ moved.1 name ∙ a name,
)
moved_outside flow (Some the_stop.OutOfMemory) was now before after a f a' f' moved = unwritten_outside was now before after a f a' f' moved

-- no read has failed, or one of this name
reads_or_rose : (behind : Option Behind) (name : List ℕ) (old new : List ℕ → ℕ) → ReadsMove behind name old new → SameCounts old new ⊎ Rose (old name) (new name)
reads_or_rose None name old new moved = inl moved
reads_or_rose (Some the_behind.Whole) name old new moved = inl moved
reads_or_rose (Some (the_behind.Broken fault)) name old new moved = inl moved
reads_or_rose (Some the_behind.TooMany) name old new moved = inl moved
reads_or_rose (Some the_behind.Failed) name old new moved = inr moved
reads_or_rose (Some the_behind.NoMemory) name old new moved = inl moved

-- none has where the input was read to its end, or to an event
ended_reads : (behind : Behind) (name : List ℕ) (old new : List ℕ → ℕ) → is_end (Some behind) ≡ true → ReadsMove (Some behind) name old new → SameCounts old new
ended_reads the_behind.Whole name old new ending moved = moved
ended_reads (the_behind.Broken fault) name old new ending moved = moved
ended_reads the_behind.TooMany name old new ending moved = moved
ended_reads the_behind.Failed name old new ending moved = absurd (let no : false ≡ true = ending in cc)
ended_reads the_behind.NoMemory name old new ending moved = moved

module _ (flow : FlowLine) (behind : Option Behind) (before after : Outside) (reads : ReadsMove behind flow.input before.folder.reads after.folder.reads)
    (creates : SameCounts before.folder.creates after.folder.creates) where
  -- nothing has failed up to this end of the input
  none_failed : (b : Behind) → is_end (Some b) ≡ true → behind ≡ Some b → NoWriteFailed before after → NoneFailed before after
  none_failed b ending is written = record {
    reads = ended_reads b flow.input before.folder.reads after.folder.reads ending (subst (λ (x : Option Behind). ReadsMove x flow.input before.folder.reads after.folder.reads) is reads);
    creates = creates;
    appends = written.appends;
    writes = written.writes;
  }

  has_read : HasReadInput flow before after
  has_read = record { reads = reads_or_rose behind flow.input before.folder.reads after.folder.reads reads; creates = creates }

  cause_of : (end : FlowEnd) → IsBehind end behind → (stop_of end ≡ Some the_stop.Read → behind ≡ Some the_behind.Failed) → IsMoved flow (stop_of end) before after → IsCause flow end before after
  cause_of GoesOn is failed moved = none_failed the_behind.Whole refl is moved
  cause_of (Broken fault) is failed moved = none_failed (the_behind.Broken fault) refl is moved
  cause_of TooMany is failed moved = none_failed the_behind.TooMany refl is moved
  cause_of (Stopped the_stop.Read) is failed moved = (subst (λ (b : Option Behind). ReadsMove b flow.input before.folder.reads after.folder.reads) (failed refl) reads, moved)
  cause_of (Stopped the_stop.Create) is failed moved = absurd moved
  cause_of (Stopped the_stop.Append) is failed moved = (moved.0, moved.1, moved.2, has_read)
  cause_of (Stopped the_stop.Print) is failed moved = (moved.0, moved.1, has_read)
  cause_of (Stopped the_stop.OutOfMemory) is failed moved = (moved, has_read)

module _ (plan : PlanState) (names : List (List ℕ)) (workers number most upto : ℕ) (flow : FlowLine) (before : Outside) (was : Moment) (after : Outside) (waits waits' : List ℕ)
    (seen : List (List ℕ)) (end : FlowEnd) (start : IsStart flow most before.folder was.folder was.source was.octets) (stream : was.stream ≡ before.stream)
    (lines : was.lines ≡ waits ++ flow_line number flow.input) (unseen : was.seen ≡ []) (passed : was.passed ≡ 0) (denied : was.denied ≡ 0) (apart : flow.output ≢ Some flow.input)
    (flown : HasFlown plan names workers number upto flow was after waits' seen end) where
  now : Moment
  now = flown.now

  taken : HasTaken number names flow was flown.now flown.pairs
  taken = flown.taken

  versions_are : seen ≡ versions_in flown.pairs
  versions_are = flown.seen_is ∙ flown.taken.seen ∙ ap (λ s. s ++ versions_in flown.pairs) unseen

  seen_count : length seen ≡ length flown.pairs
  seen_count = ap length versions_are ∙ length-map flown.pairs (λ (p : PairState). p.walked.versions)

  packets_count : length flown.pairs ≡ length flown.packets
  packets_count = sym (length-map flown.pairs (λ (p : PairState). p.walked.versions)) ∙ flown.lawful.count

  module _ (told : IsTrue before.folder.tells) where
    file : List ℕ
    file = octets_of (before.folder.held flow.input)

    told_was : IsTrue was.folder.tells
    told_was = subst IsTrue (sym start.told) told

    file_was : file_of was.folder was.source ≡ file
    unfolding file
    file_was = ap (λ n. octets_of (was.folder.held n)) start.fresh.name ∙ ap octets_of (start.others told flow.input apart)

    file_now : file_of flown.now.folder flown.now.source ≡ file
    file_now =
        ap (λ n. octets_of (flown.now.folder.held n)) (flown.taken.source.name ∙ start.fresh.name)
        ∙ ap octets_of (flown.taken.others told_was flow.input apart)
        ∙ ap (λ n. octets_of (was.folder.held n)) (sym start.fresh.name)
        ∙ file_was

    capture : CaptureFile
    capture = begun_file was.source.reader file

    holds : Holds (before.folder.held flow.input) (Ok capture)
    unfolding file capture
    holds = begun_holds was.source.reader (before.folder.held flow.input) (start.begun told)

    capture_is : capture_file file ≡ Ok capture
    unfolding file
    capture_is = held_file (before.folder.held flow.input) capture holds

    frames : List CapturedFrame
    frames = frames_left was.source file

    the_input : FlowInput
    the_input = record { format = Some (format_of was.source.reader); frames = frames; event = capture_event number most capture }

    input_is : the_input ≡ flow_input number most (before.folder.held flow.input)
    unfolding the_input frames file capture
    input_is =
        let count : was.source.most - was.source.read ≡ most = omega (arith, start.fresh.most_is, start.fresh.read) in
        let with_frames = λ (fs : List CapturedFrame). (let x : FlowInput = record { format = Some (format_of was.source.reader); frames = fs; event = capture_event number most capture } in x) in
        ap with_frames (open_left was.source file (ap is_end start.fresh.behind))
        ∙ ap (λ n. with_frames (take n (left_of was.source.reader file).frames)) count
        ∙ sym (input_of number most (before.folder.held flow.input) (Ok capture) holds)

    the_run : FlowRun
    the_run = record { number = number; flow = flow; input = the_input; pairs = flown.pairs }

    packets : List PacketIn
    packets = map packet_in frames

    left_is : packets_left was.folder.tells was.source (file_of was.folder was.source) ≡ Some packets
    unfolding packets frames
    left_is =
        ap (λ t. packets_left t was.source (file_of was.folder was.source)) told_was
        ∙ ap (λ (f : List ℕ). Some (map packet_in (frames_left was.source f))) file_was

    begun : (rest : List PacketIn) × (packets ≡ flown.packets ++ rest)
    begun = subst (λ (left : Option (List PacketIn)). AreBegun left flown.packets) left_is flown.begun

    whole : HasEnded end → packets ≡ flown.packets
    whole ended = subst (λ (left : Option (List PacketIn)). AreWhole left flown.packets) left_is (flown.all ended)

    judged : HasEnded end → is_judged the_run ≡ true
    unfolding the_run the_input packets frames
    judged ended =
        same_count (length flown.pairs) (length (frames_left was.source file))
        (packets_count ∙ sym (ap length (whole ended)) ∙ length-map (frames_left was.source file) packet_in)

    event_is : (b : Behind) → flown.now.source.behind ≡ Some b → is_end (Some b) ≡ true → capture_event number most capture ≡ event_of number b
    unfolding now
    event_is b is ending =
        let told_now : IsTrue flown.now.folder.tells = subst IsTrue (sym flown.taken.folder_told) told_was in
        let stands = subst (λ (x : Option Behind). StandsBy x flown.now.source (file_of flown.now.folder flown.now.source)) is (flown.fed.stands told_now) in
        let last = at_end b flown.now.source (file_of flown.now.folder flown.now.source) ending stands in
        let same : last.capture ≡ capture = let eq = sym last.is ∙ ap capture_file file_now ∙ capture_is in cc in
        ap (capture_event number most) (sym same) ∙ ap (λ m. capture_event number m last.capture) (sym (flown.taken.source.most ∙ start.fresh.most_is)) ∙ last.event number

    ends : IsEnd end the_run
    unfolding the_run the_input
    ends = end_event the_run end (format_of was.source.reader) flown.now.source.behind refl judged flown.behind event_is

    walked : AreWalked plan flow.hops packets flown.pairs
    walked = subst (λ (ps : List PacketIn). AreWalked plan flow.hops ps flown.pairs) (sym begun.1) (walked_front plan flow.hops flown.packets begun.0 flown.pairs flown.walked)

    lawful : AreLawful plan flow.hops workers flow.before upto (take (length seen) packets) seen
    lawful =
        let front : take (length seen) packets ≡ flown.packets =
        ap (take (length seen)) begun.1 ∙ take_at flown.packets begun.0 (length seen) (sym (seen_count ∙ packets_count)) in
        subst (λ (ps : List PacketIn). AreLawful plan flow.hops workers flow.before upto ps seen) (sym front)
        (subst (λ (s : List (List ℕ)). AreLawful plan flow.hops workers flow.before upto flown.packets s) (sym versions_are) flown.lawful)

    printed : IsPrinted names the_run end waits waits' before.stream after.stream
    unfolding the_run the_input
    printed =
        let text = walked_lines number 1 names flow.hops flown.pairs in
        let first : length was.seen + 1 ≡ 1 = omega (arith, ap length unseen) in
        let one : IsPrintedTo (stop_of end) text was.lines flown.now.lines was.stream flown.now.stream =
        subst (λ n. IsPrintedTo (stop_of end) (walked_lines number n names flow.hops flown.pairs) was.lines flown.now.lines was.stream flown.now.stream) first
        (subst (λ (s : Option FlowStop). IsPrintedTo s (walked_lines number (length was.seen + 1) names flow.hops flown.pairs) was.lines flown.now.lines was.stream flown.now.stream) flown.stop flown.taken.lines) in
        let all = printed_front (stop_of end) (flow_line number flow.input) text waits was.lines flown.now.lines was.stream flown.now.stream lines one in
        let there : IsPrintedTo (stop_of end) (run_text names the_run) waits flown.now.lines before.stream after.stream =
        subst (λ (s : SinkState). IsPrintedTo (stop_of end) (run_text names the_run) waits flown.now.lines s after.stream) stream
        (subst (λ (s : SinkState). IsPrintedTo (stop_of end) (run_text names the_run) waits flown.now.lines was.stream s) (sym flown.stream) all) in
        printed_end names the_run end flown.now waits waits' before.stream after.stream there flown.waits_are (ap length (sym flown.seen_is) ∙ seen_count)
        (omega (arith, flown.taken.passed, passed)) (omega (arith, flown.taken.denied, denied))

    heads_are : heads_left was.source (file_of was.folder was.source) ≡ map (λ (f : CapturedFrame). f.head) frames
    unfolding frames
    heads_are =
        let left = map (λ (f : CapturedFrame). f.head) (frames_left was.source (file_of was.folder was.source)) in
        ap (λ n. (drop n was.source.fetched.items ++ was.source.heads.items) ++ left) start.fresh.at
        ∙ ap (λ hs. (hs ++ was.source.heads.items) ++ left) start.fresh.fetched
        ∙ ap (λ hs. hs ++ left) start.fresh.heads
        ∙ ap (λ (f : List ℕ). map (λ (x : CapturedFrame). x.head) (frames_left was.source f)) file_was

    text : List ℕ
    text = file_octets (format_of was.source.reader) (kept_frames frames flown.pairs)

    appended : (name : List ℕ) → flow.output ≡ Some name → IsAppended (stop_of end) text flown.now.octets (Some []) (after.folder.held name)
    unfolding text
    appended name is =
        let kept = kept_by (heads_left was.source (file_of was.folder was.source)) flown.pairs in
        let format = format_of was.source.reader in
        let same : was.octets ++ file_frames format kept ≡ file_octets format (kept_frames frames flown.pairs) =
        ap (λ hs. was.octets ++ file_frames format (kept_by hs flown.pairs)) heads_are
        ∙ ap (λ fs. was.octets ++ file_frames format fs) (kept_same frames flown.pairs)
        ∙ ap (λ o. o ++ file_frames format (kept_frames frames flown.pairs)) (start.head name is) in
        subst (λ (s : Option FlowStop). IsAppended s (file_octets format (kept_frames frames flown.pairs)) flown.now.octets (Some []) (after.folder.held name)) flown.stop
        (subst (λ (t : List ℕ). IsAppended flown.now.stop t flown.now.octets (Some []) (after.folder.held name)) same
        (subst (λ (h : Option (List ℕ)). IsAppended flown.now.stop (was.octets ++ file_frames format kept) flown.now.octets h (after.folder.held name)) (start.here told name is)
        (subst (λ (d : DepotState). IsAppended flown.now.stop (was.octets ++ file_frames format kept) flown.now.octets (was.folder.held name) (d.held name)) (sym flown.folder)
        (flown.taken.output told_was name is))))

    made : HasMade the_run end before.folder.held after.folder.held
    unfolding the_run the_input text
    made = record {
      begun = λ output is.
          let at = output_named (Some text) flow.output output is in
          subst (λ (o : Output). IsBegun o before.folder.held after.folder.held) (sym at.2) (begun_by (stop_of end) text flown.now.octets at.0 before.folder.held after.folder.held (appended at.0 at.1));
      made = λ ended output is.
          let at = output_named (Some text) flow.output output is in
          subst (λ (o : Output). IsMade o before.folder.held after.folder.held) (sym at.2)
          (made_by (stop_of end) text flown.now.octets at.0 before.folder.held after.folder.held (stop_ended end ended) (flown.whole ended at.0 at.1) (appended at.0 at.1));
      others = λ name other. ap (λ (d : DepotState). d.held name) flown.folder ∙ flown.taken.others told_was name other ∙ start.others told name other;
    }

    is_run : IsRunOf plan names workers number most upto flow before after waits waits' seen end
    unfolding the_run the_input packets
    is_run = record {
      run = the_run;
      numbered = refl;
      flow_is = refl;
      input = input_is;
      is = record { walked = walked; versions = sym versions_are };
      lawful = lawful;
      ends = ends;
      printed = printed;
      made = made;
    }

  reads_are : ReadsMove flown.now.source.behind flow.input before.folder.reads after.folder.reads
  reads_are =
      subst (λ (d : DepotState). ReadsMove flown.now.source.behind flow.input before.folder.reads d.reads) (sym flown.folder)
      (reads_more flown.now.source.behind flow.input before.folder.reads was.folder.reads flown.now.folder.reads start.reads flown.taken.reads)

  creates_are : SameCounts before.folder.creates after.folder.creates
  creates_are name = ap (λ (d : DepotState). d.creates name) flown.folder ∙ flown.taken.creates name ∙ start.creates name

  moved_are : IsMoved flow (stop_of end) before after
  moved_are =
      moved_outside flow (stop_of end) (outside_of was) (outside_of flown.now) before after start.appends (ap (λ (s : SinkState). s.faults) stream)
      (λ name. ap (λ (d : DepotState). d.appends name) flown.folder) (ap (λ (s : SinkState). s.faults) flown.stream)
      (subst (λ (s : Option FlowStop). IsMoved flow s (outside_of was) (outside_of flown.now)) flown.stop flown.taken.moved)

  pub ends_run : FlowEnds plan names workers number most upto flow before after waits waits' seen end
  ends_run = record {
    runs = is_run;
    cause = cause_of flow flown.now.source.behind before after reads_are creates_are end flown.behind (λ is. flown.taken.failed (flown.stop ∙ is)) moved_are;
    still = λ none. (creates_are, λ name. ap (λ (d : DepotState). d.appends name) flown.folder ∙ flown.taken.still none name ∙ start.appends name);
    faults = omega (arith, flown.taken.faults, ap (λ (s : SinkState). s.faults) flown.stream, ap (λ (s : SinkState). s.faults) stream);
    folder_told = ap (λ (d : DepotState). d.tells) flown.folder ∙ flown.taken.folder_told ∙ start.told;
    stream_told = ap (λ (s : SinkState). s.tells) flown.stream ∙ flown.taken.stream_told ∙ ap (λ (s : SinkState). s.tells) stream;
  }

-- ---- the output, where it can't be made; and the start where it can

pub start_of : (flow : FlowLine) (most : ℕ) (before mid folder : DepotState) (source : Source) (octets : List ℕ) → flow.output ≢ Some flow.input → HasRead flow most before mid source
    → HasCreated None flow.output mid folder → HasHead flow.output (format_of source.reader) octets → IsStart flow most before folder source octets
start_of flow most before mid folder source octets apart read created head =
    let ready : IsTrue before.tells → IsTrue mid.tells = λ told. subst IsTrue (sym read.told) told in
    record {
      told = created.told ∙ read.told;
      fresh = read.fresh;
      begun = read.begun;
      here = λ told. created.here refl (ready told);
      others = λ told name other. created.others (ready told) name other ∙ read.kept told name;
      head = head;
      fed = fed_kept mid folder source source created.told (λ told. created.others told (file_name_of source.reader) (λ is. apart (is ∙ ap Some read.fresh.name))) refl refl refl refl refl refl read.fed;
      reads = λ name. created.reads name ∙ read.reads name;
      creates = λ name. created.moved name ∙ read.creates name;
      appends = λ name. created.appends name ∙ read.appends name;
    }

pub ends_uncreated : (plan : PlanState) (names : List (List ℕ)) (workers number most upto : ℕ) (flow : FlowLine) (before after : Outside) (waits waits' : List ℕ) (mid : DepotState) (source : Source)
    (why : FlowStop) → flow.before ≤ upto → waits' ≡ waits ++ flow_line number flow.input → after.stream ≡ before.stream → HasRead flow most before.folder mid source
    → HasCreated (Some why) flow.output mid after.folder → FlowEnds plan names workers number most upto flow before after waits waits' [] (Stopped why)
ends_uncreated plan names workers number most upto flow before after waits waits' mid source why low waits_are stream read created =
    by_case why created.moved
  where
    ready : IsTrue before.folder.tells → IsTrue mid.tells
    ready told = subst IsTrue (sym read.told) told

    kept : IsTrue before.folder.tells → (name : List ℕ) → after.folder.held name ≡ before.folder.held name
    kept told name = created.kept (λ none. let some : Some why ≡ None = none in cc) (ready told) name ∙ read.kept told name

    still : flow.output ≡ None → SameCounts before.folder.creates after.folder.creates × SameCounts before.folder.appends after.folder.appends
    still none = (λ name. created.still none name ∙ read.creates name, λ name. created.appends name ∙ read.appends name)

    unwritten : NoWriteFailed before after
    unwritten = record { writes = ap (λ (s : SinkState). s.faults) stream; appends = λ name. created.appends name ∙ read.appends name }

    by_case : (why : FlowStop) → CreatesMove (Some why) flow.output mid.creates after.folder.creates → FlowEnds plan names workers number most upto flow before after waits waits' [] (Stopped why)
    by_case the_stop.Read moved = absurd moved
    by_case the_stop.Create moved =
        ends_unmade plan names workers number most upto flow before after waits waits' low waits_are stream (created.told ∙ read.told) kept still moved.0 moved.1
        (subst (λ (n : ℕ). Rose n (after.folder.creates moved.0)) (read.creates moved.0) moved.2) unwritten
    by_case the_stop.Append moved = absurd moved
    by_case the_stop.Print moved = absurd moved
    by_case the_stop.OutOfMemory moved =
        ends_early plan names workers number most upto flow before after waits waits' low waits_are stream (created.told ∙ read.told) kept still (
          unwritten,
          record {
            reads = inl (λ name. created.reads name ∙ read.reads name);
            creates = λ name. moved name ∙ read.creates name;
          },
        )

-- ---- the beginning of the input

pub read_of : (flow : FlowLine) (most : ℕ) (before mid : DepotState) (source : Source) → IsFresh flow.input most source → IsFed mid source
    → (IsTrue before.tells → IsFileBegun (Ok source.reader) (before.held flow.input)) → OnlyReads {T = Source} read_stop.ReadFault (Ok source) flow.input before mid → HasRead flow most before mid source
read_of flow most before mid source fresh fed begun only = record {
  told = only.told;
  fresh = fresh;
  begun = begun;
  kept = only.kept;
  fed = fed;
  reads = only.reads.ok;
  creates = only.creates;
  appends = only.appends;
}

-- the beginning can't be read
ends_at_fault : (plan : PlanState) (names : List (List ℕ)) (workers number most upto : ℕ) (flow : FlowLine) (before after : Outside) (waits waits' : List ℕ)
    (stop : ReadStop) (fault : FileFault) → flow.before ≤ upto → waits' ≡ waits ++ flow_line number flow.input → after.stream ≡ before.stream
    → (IsTrue before.folder.tells → Holds (before.folder.held flow.input) (Err fault)) → stop ≢ read_stop.ReadFault
    → OnlyReads {T = Source} read_stop.ReadFault (Err stop) flow.input before.folder after.folder
    → FlowEnds plan names workers number most upto flow before after waits waits' [] (Broken fault)
ends_at_fault plan names workers number most upto flow before after waits waits' stop fault low waits_are stream holds other only =
    ends_broken plan names workers number most upto flow before after waits waits' low waits_are stream only.told only.kept (λ none. (only.creates, only.appends)) fault holds (record {
      reads = only.reads.still (λ failed. other (let one : stop ≡ read_stop.ReadFault = cc in one));
      creates = only.creates;
      appends = only.appends;
      writes = ap (λ (s : SinkState). s.faults) stream;
    })

pub ends_unbegun : (plan : PlanState) (names : List (List ℕ)) (workers number most upto : ℕ) (flow : FlowLine) (before after : Outside) (waits waits' : List ℕ)
    (stop : ReadStop) → flow.before ≤ upto → waits' ≡ waits ++ flow_line number flow.input → after.stream ≡ before.stream
    → (IsTrue before.folder.tells → IsFileBegun (Err stop) (before.folder.held flow.input))
    → OnlyReads {T = Source} read_stop.ReadFault (Err stop) flow.input before.folder after.folder
    → FlowEnds plan names workers number most upto flow before after waits waits' [] (end_at stop)
ends_unbegun plan names workers number most upto flow before after waits waits' (read_stop.Capture fault) low waits_are stream begun only =
    ends_at_fault plan names workers number most upto flow before after waits waits' (read_stop.Capture fault) (file_fault.Pcap fault) low waits_are stream begun (λ is. absurd cc) only
ends_unbegun plan names workers number most upto flow before after waits waits' (read_stop.Ng fault) low waits_are stream begun only =
    ends_at_fault plan names workers number most upto flow before after waits waits' (read_stop.Ng fault) (file_fault.Pcapng fault) low waits_are stream begun (λ is. absurd cc) only
ends_unbegun plan names workers number most upto flow before after waits waits' read_stop.ReadFault low waits_are stream begun only =
    ends_unread plan names workers number most upto flow before after waits waits' low waits_are stream only.told only.kept (λ none. (only.creates, only.appends)) (only.reads.cause refl)
    (record { writes = ap (λ (s : SinkState). s.faults) stream; appends = only.appends })
ends_unbegun plan names workers number most upto flow before after waits waits' read_stop.OutOfMemory low waits_are stream begun only =
    ends_early plan names workers number most upto flow before after waits waits' low waits_are stream only.told only.kept (λ none. (only.creates, only.appends)) (
      record { writes = ap (λ (s : SinkState). s.faults) stream; appends = only.appends },
      record {
        reads = inl (only.reads.still (λ failed. absurd cc));
        creates = only.creates;
      },
    )

-- a folder, a stream and a report that ended so
pub behind_so : (place : FlowPlace) (source : Source) (begun : DepotState) (printed : SinkState) (lines : List ℕ) (folder folder' : DepotState) (stream stream' : SinkState) (still still' : List ℕ)
    (seen : List (List ℕ)) (end : FlowEnd) → folder' ≡ folder → stream' ≡ stream → still' ≡ still
    → EndsBehind place source begun printed lines (record { folder = folder; stream = stream }) still seen end
    → EndsBehind place source begun printed lines (record { folder = folder'; stream = stream' }) still' seen end
behind_so place source begun printed lines folder folder' stream stream' still still' seen end same-folder same-stream same-waits ends =
    subst (λ (x : DepotState). EndsBehind place source begun printed lines (record { folder = x; stream = stream' }) still' seen end) (sym same-folder)
    (subst (λ (x : SinkState). EndsBehind place source begun printed lines (record { folder = folder; stream = x }) still' seen end) (sym same-stream)
    (subst (λ (x : List ℕ). EndsBehind place source begun printed lines (record { folder = folder; stream = stream }) x seen end) (sym same-waits) ends))
