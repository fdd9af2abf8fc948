-- The flows of a script while they run, over plain values: where the next one begins, and how the call ends at one.
use Rattle.std.proofs.Common.{◌≡◌, ◌≢◌, ◌≤◌, ℕ, suc, ◌+◌, ◌-◌, true, List, [], ◌∷◌, ◌++◌, get_or, length, take, Option, Some, None, refl, sym, ap, subst, ◌∙◌, arith, append_assoc, length-append, inl, inr}
use Rattle.std.specs.Prelude.{All, IsTrue, slice_get}
use Rattle.std.specs.List.{list_all}
use Rattle.std.proofs.lemmas.List.{append-nil, take_all, take_at, length-map}
use Rattle.std.proofs.lemmas.List.Elements.{All-nil, All-cons, All-head, All-tail, All-push, All-weaker}
use Rattle.std.proofs.lemmas.Option.{slice_get_within}
use Rattle.net_io.specs.Faults.{SameCounts}
use Rattle.net_io.specs.Sink.{SinkState}
use Rattle.label_commands.specs.declared.flow_lines.flow.FlowLine.{FlowLine}
use Rattle.label_commands.specs.declared.script.Script.{Script}
use Rattle.label_commands.specs.Script.{before}
use Rattle.label_commands.specs.Sound.{IsSoundScript}
use Rattle.label_flow.specs.Pair.{PairState}
use Rattle.label_flow.specs.Schedule.{AreLawful, versions_in}
use Rattle.call_report.specs.declared.status.Status.{Status}
use Rattle.call_report.specs.declared.status.Status.TheVariants.{Done, NoForm, WrongScript, ReadFault, WriteFault, WrongCapture, OutOfMemory, Limit}
use Rattle.call_report.specs.Report.{Folder, Versions}
use Rattle.call_report.specs.Event.{packets_limit}
use Rattle.call_report.specs.Output.{Output, IsBegun, IsMade}
use Rattle.call_report.specs.Outside.{Outside, NoneFailed}
use Rattle.call_report.specs.Printing.{IsUnderWay, Printed}
use Rattle.call_report.proofs.Law.{a_report_is_printed, a_report_takes_a_text}
use Rattle.script_run.specs.declared.flow_run.end.FlowEnd.{FlowEnd}
use Rattle.script_run.specs.flow_run.Input.{flow_input, packets_in}
use Rattle.script_run.specs.flow_run.Run.{FlowRun, goes_on, run_output}
use Rattle.script_run.specs.flow_run.Ends.{FlowEnds, IsRunOf, HasEnded}
use Rattle.label_flow.specs.flow_access.Valid.{plan_of}
use Rattle.script_run.specs.Runs.{AreRuns, IsLawfulRun}
use Rattle.script_run.specs.Report.{first_replies, turn_text, runs_outputs}
use Rattle.script_run.specs.Ends.{last_of, flow_in_hand, IsCauseOf, IsDue, due_body, due_line, IsPrintedSo, HasFinished, ScriptEnds}
use Rattle.script_run.proofs.Handing.{ways_join}
use Rattle.script_run.proofs.Names.{input_is_kept, output_is_kept}
use Rattle.script_run.proofs.Runs.{left_after, left_behind, as_many_runs, of_each_flow, one_more_run, all_on_behind, turns_text, turns_behind, in_hand, of_flow_in_hand, of_each_output, output_named}

all_front : {X : Type 0} (P : X → Type 0) (xs : List X) (x : X) → All P (xs ++ x ∷ []) → All P xs
all_front P [] x all = All-nil P
all_front P (y ∷ ys) x all = All-cons P y ys (All-head P y (ys ++ x ∷ []) all) (all_front P ys x (All-tail P y (ys ++ x ∷ []) all))

all_last : {X : Type 0} (P : X → Type 0) (xs : List X) (x : X) → All P (xs ++ x ∷ []) → P x
all_last P [] x all = All-head P x [] all
all_last P (y ∷ ys) x all = all_last P ys x (All-tail P y (ys ++ x ∷ []) all)

-- a run's output holds all that it is to hold, or so much of it as was appended
abbrev pub HasMadeAll : Folder → Folder → FlowRun → Type 0
HasMadeAll old new run = (output : Output) → run_output run ≡ Some output → IsMade output old new

abbrev pub HasBegun : Folder → Folder → FlowRun → Type 0
HasBegun old new run = (output : Output) → run_output run ≡ Some output → IsBegun output old new

-- where the folder tells: these flows have run to their ends, all of their text was handed on but for what waits, and their outputs are made
pub record HaveRun (script : Script) (workers : ℕ) (start now : Outside) (waits : List ℕ) (seen : Versions) : Type 0 where
  pub runs : List FlowRun
  pub are : AreRuns (plan_of script) start.folder.held 1 packets_limit script.flows seen runs
  pub on : list_all goes_on runs ≡ true
  pub lawful : All (IsLawfulRun script workers) runs
  pub way : IsUnderWay (first_replies script ++ turns_text script runs) waits start.stream now.stream
  pub made : All (HasMadeAll start.folder.held now.folder.held) runs
  pub others : (name : List ℕ) → All (λ run. run.flow.output ≢ Some name) runs → now.folder.held name ≡ start.folder.held name

-- Flows that have run, as many as have versions, and so many packets may still be read.
pub record AreUnderWay (script : Script) (workers : ℕ) (start now : Outside) (waits : List ℕ) (left : ℕ) (seen : Versions) : Type 0 where
  pub none : NoneFailed start now
  pub left_is : left ≡ left_after packets_limit seen
  pub folder_told : now.folder.tells ≡ start.folder.tells
  pub stream_told : now.stream.tells ≡ start.stream.tells
  pub runs : IsTrue start.folder.tells → HaveRun script workers start now waits seen

-- memory ran out, and nothing has failed
pub short_of_memory : (hand : Option FlowLine) (before after : Outside) → NoneFailed before after → IsCauseOf hand OutOfMemory before after
short_of_memory hand before after none = (record { writes = none.writes; appends = none.appends }, inl (record { reads = none.reads; creates = none.creates }))

pub none_failed : (a : Outside) → NoneFailed a a
none_failed a = record { reads = λ name. refl; creates = λ name. refl; appends = λ name. refl; writes = refl }

-- no flow has run
pub under_way_at_first : (script : Script) (workers : ℕ) (start now : Outside) (waits : List ℕ) → now.folder ≡ start.folder → IsUnderWay (first_replies script) waits start.stream now.stream
    → AreUnderWay script workers start now waits packets_limit []
under_way_at_first script workers start now waits same way = record {
  none = record {
    reads = λ name. ap (λ f. f.reads name) same;
    creates = λ name. ap (λ f. f.creates name) same;
    appends = λ name. ap (λ f. f.appends name) same;
    writes = way.faults;
  };
  left_is = refl;
  folder_told = ap (λ f. f.tells) same;
  stream_told = way.told;
  runs = λ told. record {
    runs = [];
    are = tt;
    on = refl;
    lawful = All-nil (IsLawfulRun script workers);
    way = subst (λ (t : List ℕ). IsUnderWay t waits start.stream now.stream) (sym (append-nil (first_replies script))) way;
    made = All-nil (HasMadeAll start.folder.held now.folder.held);
    others = λ name all. ap (λ f. f.held name) same;
  };
}

-- what is made has begun
pub made_has_begun : (old new : Folder) (output : Output) → IsMade output old new → IsBegun output old new
made_has_begun old new output made = by_octets output.octets refl where
  by_octets : (octets : Option (List ℕ)) → output.octets ≡ octets → IsBegun output old new
  by_octets None is = inl (made.1 is)
  by_octets (Some octets) is = inr (octets, length octets, is, made.0 octets is ∙ ap Some (sym (take_all (length octets) octets (omega arith))))

-- an output keeps where both folders hold the same of its name
made_kept : (old old' new new' : Folder) (output : Output) → old' output.name ≡ old output.name → new' output.name ≡ new output.name → IsMade output old new → IsMade output old' new'
made_kept old old' new new' output was is made = (λ octets holds. is ∙ made.0 octets holds, λ none. is ∙ made.1 none ∙ sym was)

begun_kept : (old old' new new' : Folder) (output : Output) → old' output.name ≡ old output.name → new' output.name ≡ new output.name → IsBegun output old new → IsBegun output old' new'
begun_kept old old' new new' output was is (inl same) = inl (is ∙ same ∙ sym was)
begun_kept old old' new new' output was is (inr part) = inr (part.0, part.1, part.2, is ∙ part.3)

-- ---- texts behind those of the flows that have run

module _ (script : Script) (runs : List FlowRun) where
  abbrev all : List ℕ
  all = first_replies script ++ turns_text script runs

  way_behind : (run : FlowRun) (waits still : List ℕ) (a b c : SinkState) → IsUnderWay all waits a b → IsUnderWay (waits ++ turn_text script run) still b c
      → IsUnderWay (first_replies script ++ turns_text script (runs ++ run ∷ [])) still a c
  way_behind run waits still a b c way next =
      subst (λ (t : List ℕ). IsUnderWay t still a c)
      (append_assoc (first_replies script) (turns_text script runs) (turn_text script run) ∙ ap (λ t. first_replies script ++ t) (sym (turns_behind script runs run)))
      (ways_join all (turn_text script run) waits still a b c way next)

  pub printed_further : (waits part : List ℕ) (a b c : SinkState) → IsUnderWay all waits a b → (line : List ℕ) (due status : Status) → Printed (waits ++ part) line due status b c
      → Printed (first_replies script ++ (turns_text script runs ++ part)) line due status a c
  printed_further waits part a b c way line due status printed =
      subst (λ (t : List ℕ). Printed t line due status a c) (append_assoc (first_replies script) (turns_text script runs) part)
      (a_report_is_printed (all ++ part) (waits ++ part) a b (a_report_takes_a_text all waits a b way part) line due status c printed)

  -- the same, as it is by a call that is to end so
  pub so_further : (waits part : List ℕ) (a b c : SinkState) → IsUnderWay all waits a b → (line : List ℕ) (due status : Status) → IsPrintedSo (waits ++ part) line due status b c
      → IsPrintedSo (first_replies script ++ (turns_text script runs ++ part)) line due status a c
  so_further waits part a b c way line WriteFault status printed = (printed.0, printed.1, printed_further waits part a b c way line WriteFault printed.0 printed.2)
  so_further waits part a b c way line Done status printed = printed_further waits part a b c way line Done status printed
  so_further waits part a b c way line NoForm status printed = printed_further waits part a b c way line NoForm status printed
  so_further waits part a b c way line WrongScript status printed = printed_further waits part a b c way line WrongScript status printed
  so_further waits part a b c way line ReadFault status printed = printed_further waits part a b c way line ReadFault status printed
  so_further waits part a b c way line WrongCapture status printed = printed_further waits part a b c way line WrongCapture status printed
  so_further waits part a b c way line OutOfMemory status printed = printed_further waits part a b c way line OutOfMemory status printed
  so_further waits part a b c way line Limit status printed = printed_further waits part a b c way line Limit status printed

module _
    (own : List ℕ) (script : Script) (sound : IsSoundScript own script) (workers : ℕ) (start now mid : Outside) (waits waits' : List ℕ) (left k : ℕ) (seen : Versions)
    (under : AreUnderWay script workers start now waits left seen) (count : length seen ≡ k) (flow : FlowLine) (at : slice_get script.flows k ≡ Some flow)
    (lists : List (List ℕ)) (end : FlowEnd)
    (ran : FlowEnds (plan_of script) script.nodes workers (k + 1) left (before script (k + 1)) flow now mid waits waits' lists end) where
  -- this flow stands behind those that have run
  here : slice_get script.flows (length seen) ≡ Some flow
  here = ap (slice_get script.flows) count ∙ at

  pub one_longer : length (seen ++ lists ∷ []) ≡ k + 1
  one_longer = length-append seen (lists ∷ []) ∙ ap (λ n. n + 1) count

  pub told_now : IsTrue start.folder.tells → IsTrue now.folder.tells
  told_now told = subst IsTrue (sym under.folder_told) told

  pub in_hand_here : flow_in_hand script (seen ++ lists ∷ []) ≡ Some flow
  in_hand_here =
      let longer : length (seen ++ lists ∷ []) ≡ suc k = omega (arith, one_longer) in
      ap (λ n. last_of (take n script.flows)) longer ∙ in_hand script.flows k flow at

  pub few_begun : length (seen ++ lists ∷ []) ≤ length script.flows
  few_begun = omega (arith, one_longer, slice_get_within script.flows k flow at)

  module _ (have : HaveRun script workers start now waits seen) (ir : IsRunOf (plan_of script) script.nodes workers (k + 1) left (before script (k + 1)) flow now mid waits waits' lists end) where
    -- no earlier flow makes what this one reads or makes
    no_input : All (λ (r : FlowRun). r.flow.output ≢ Some flow.input) have.runs
    no_input = of_each_flow (plan_of script) start.folder.held (λ (f : FlowLine). f.output ≢ Some flow.input) 1 packets_limit script.flows seen have.runs have.are
        (λ j f within there. input_is_kept own script.flows sound.apart k j flow f at there)

    earlier_names : (name : List ℕ) → flow.output ≡ Some name → All (λ (r : FlowRun). r.flow.output ≢ Some name) have.runs
    earlier_names name is = of_each_flow (plan_of script) start.folder.held (λ (f : FlowLine). f.output ≢ Some name) 1 packets_limit script.flows seen have.runs have.are
        (λ j f within there same. output_is_kept own script.flows sound.apart j k f flow name (omega (arith, within, count)) there at same is)

    -- nor does this one make what an earlier one has made
    kept_names : All (λ (r : FlowRun). (name : List ℕ) → r.flow.output ≡ Some name → flow.output ≢ Some name) have.runs
    kept_names = of_each_flow (plan_of script) start.folder.held (λ (f : FlowLine). (name : List ℕ) → f.output ≡ Some name → flow.output ≢ Some name) 1 packets_limit script.flows seen have.runs have.are
        (λ j f within there name is. output_is_kept own script.flows sound.apart j k f flow name (omega (arith, within, count)) there at is)

    pub more_runs : AreRuns (plan_of script) start.folder.held 1 packets_limit script.flows (seen ++ lists ∷ []) (have.runs ++ ir.run ∷ [])
    more_runs =
        let number : k + 1 ≡ 1 + length seen = omega (arith, count) in
        one_more_run (plan_of script) start.folder.held 1 packets_limit script.flows seen have.runs flow lists ir.run have.are have.on here (ir.numbered ∙ number) ir.flow_is
        (ir.input
        ∙ ap (flow_input (k + 1) left) (have.others flow.input no_input)
        ∙ ap (λ n. flow_input n left (start.folder.held flow.input)) number
        ∙ ap (λ n. flow_input (1 + length seen) n (start.folder.held flow.input)) under.left_is) ir.is

    lawful_here : IsLawfulRun script workers ir.run
    lawful_here =
        let many : length lists ≡ length ir.run.pairs = ap length (sym ir.is.versions) ∙ length-map ir.run.pairs (λ (p : PairState). p.walked.versions) in
        subst (λ (n : ℕ). AreLawful (plan_of script) ir.run.flow.hops workers ir.run.flow.before (before script n) (take (length ir.run.pairs) (packets_in ir.run.input)) (versions_in ir.run.pairs)) (sym ir.numbered)
        (subst (λ (f : FlowLine). AreLawful (plan_of script) f.hops workers f.before (before script (k + 1)) (take (length ir.run.pairs) (packets_in ir.run.input)) (versions_in ir.run.pairs)) (sym ir.flow_is)
        (subst (λ (v : List (List ℕ)). AreLawful (plan_of script) flow.hops workers flow.before (before script (k + 1)) (take (length ir.run.pairs) (packets_in ir.run.input)) v) (sym ir.is.versions)
        (subst (λ (n : ℕ). AreLawful (plan_of script) flow.hops workers flow.before (before script (k + 1)) (take n (packets_in ir.run.input)) lists) many ir.lawful)))

    pub more_lawful : All (IsLawfulRun script workers) (have.runs ++ ir.run ∷ [])
    more_lawful = All-push (IsLawfulRun script workers) have.runs ir.run have.lawful lawful_here

    -- the name of this flow's output held what it held at the start
    name_before : (output : Output) → run_output ir.run ≡ Some output → now.folder.held output.name ≡ start.folder.held output.name
    name_before output is = have.others output.name (earlier_names output.name (ap (λ (f : FlowLine). f.output) (sym ir.flow_is) ∙ output_named ir.run output is))

    -- what an earlier flow made is still there
    still_made : All (HasMadeAll start.folder.held mid.folder.held) have.runs
    still_made = λ i d within output is.
        let r = get_or have.runs i d in
        let other : ir.run.flow.output ≢ Some output.name = λ same. kept_names i d within output.name (output_named r output is) (ap (λ (f : FlowLine). f.output) (sym ir.flow_is) ∙ same) in
        made_kept start.folder.held start.folder.held now.folder.held mid.folder.held output refl (ir.made.others output.name other) (have.made i d within output is)

    -- so it is there of all but the last one
    pub earlier_made : All (λ (o : Output). IsMade o start.folder.held mid.folder.held) (runs_outputs (take (length (seen ++ lists ∷ []) - 1) (have.runs ++ ir.run ∷ [])))
    earlier_made =
        let many : length have.runs ≡ length (seen ++ lists ∷ []) - 1 = omega (arith, one_longer, count, as_many_runs (plan_of script) start.folder.held 1 packets_limit script.flows seen have.runs have.are) in
        subst (λ (rs : List FlowRun). All (λ (o : Output). IsMade o start.folder.held mid.folder.held) (runs_outputs rs)) (sym (take_at have.runs (ir.run ∷ []) (length (seen ++ lists ∷ []) - 1) many))
        (of_each_output (λ (o : Output). IsMade o start.folder.held mid.folder.held) have.runs still_made)

    pub more_begun : All (HasBegun start.folder.held mid.folder.held) (have.runs ++ ir.run ∷ [])
    more_begun =
        All-push (HasBegun start.folder.held mid.folder.held) have.runs ir.run
        (All-weaker (HasMadeAll start.folder.held mid.folder.held) (HasBegun start.folder.held mid.folder.held) (λ r made output is. made_has_begun start.folder.held mid.folder.held output (made output is)) have.runs still_made)
        (λ output is. begun_kept now.folder.held start.folder.held mid.folder.held mid.folder.held output (sym (name_before output is)) refl (ir.made.begun output is))

    pub more_made : HasEnded end → All (HasMadeAll start.folder.held mid.folder.held) (have.runs ++ ir.run ∷ [])
    more_made ended =
        All-push (HasMadeAll start.folder.held mid.folder.held) have.runs ir.run still_made
        (λ output is. made_kept now.folder.held start.folder.held mid.folder.held mid.folder.held output (sym (name_before output is)) refl (ir.made.made ended output is))

    pub more_others : (name : List ℕ) → All (λ run. run.flow.output ≢ Some name) (have.runs ++ ir.run ∷ []) → mid.folder.held name ≡ start.folder.held name
    more_others name all =
        let Other = λ (r : FlowRun). r.flow.output ≢ Some name in ir.made.others name (all_last Other have.runs ir.run all) ∙ have.others name (all_front Other have.runs ir.run all)

  -- the flow goes on, and all of its text was handed on: the next one begins
  pub goes_on_so : (c : SinkState) (still : List ℕ) → HasEnded end → NoneFailed now (record { folder = mid.folder; stream = c }) → c.tells ≡ mid.stream.tells
      → ((have : HaveRun script workers start now waits seen) (ir : IsRunOf (plan_of script) script.nodes workers (k + 1) left (before script (k + 1)) flow now mid waits waits' lists end)
      → (goes_on ir.run ≡ true) × IsUnderWay (waits ++ turn_text script ir.run) still now.stream c)
      → AreUnderWay script workers start (record { folder = mid.folder; stream = c }) still (left - length lists) (seen ++ lists ∷ [])
  goes_on_so c still ended none told goes = record {
    none = record {
      reads = λ name. none.reads name ∙ under.none.reads name;
      creates = λ name. none.creates name ∙ under.none.creates name;
      appends = λ name. none.appends name ∙ under.none.appends name;
      writes = none.writes ∙ under.none.writes;
    };
    left_is = ap (λ n. n - length lists) under.left_is ∙ sym (left_behind packets_limit seen lists);
    folder_told = ran.folder_told ∙ under.folder_told;
    stream_told = told ∙ ran.stream_told ∙ under.stream_told;
    runs = λ tells.
        let have = under.runs tells in
        let ir = ran.runs (told_now tells) in
        let on = goes have ir in
        record {
          runs = have.runs ++ ir.run ∷ [];
          are = more_runs have ir;
          on = all_on_behind have.runs ir.run have.on ∙ on.0;
          lawful = more_lawful have ir;
          way = way_behind script have.runs ir.run waits still start.stream now.stream c have.way on.1;
          made = more_made have ir ended;
          others = more_others have ir;
        };
  }

  -- how the call ends at this flow: the rest of its text, and what is due
  pub record EndsHere (have : HaveRun script workers start now waits seen) (ir : IsRunOf (plan_of script) script.nodes workers (k + 1) left (before script (k + 1)) flow now mid waits waits' lists end) (c : SinkState) (due status : Status) : Type 0 where
    pub part : List ℕ
    pub printed : IsPrintedSo (waits ++ part) (due_line script (have.runs ++ ir.run ∷ []) due) due status now.stream c
    pub body : first_replies script ++ (turns_text script have.runs ++ part) ≡ due_body script (have.runs ++ ir.run ∷ []) due
    pub is_due : IsDue script (have.runs ++ ir.run ∷ []) (Some flow) start (record { folder = mid.folder; stream = c }) due

  pub ends_here : (c : SinkState) (due status : Status) → (HasFinished due → HasEnded end) → (due ≢ WriteFault → SameCounts now.folder.appends mid.folder.appends) → c.tells ≡ mid.stream.tells
      → IsCauseOf (Some flow) status start (record { folder = mid.folder; stream = c })
      → ((have : HaveRun script workers start now waits seen) (ir : IsRunOf (plan_of script) script.nodes workers (k + 1) left (before script (k + 1)) flow now mid waits waits' lists end) → EndsHere have ir c due status)
      → ScriptEnds script workers start (record { folder = mid.folder; stream = c }) (seen ++ lists ∷ []) status
  ends_here c due status ended appends told cause ends = record {
    begun = few_begun;
    due = due;
    runs = λ tells.
        let have = under.runs tells in
        let ir = ran.runs (told_now tells) in
        let e = ends have ir in
        record {
          runs = have.runs ++ ir.run ∷ [];
          are = more_runs have ir;
          lawful = more_lawful have ir;
          is_due = subst (λ (f : Option FlowLine). IsDue script (have.runs ++ ir.run ∷ []) f start (record { folder = mid.folder; stream = c }) due) (sym in_hand_here) e.is_due;
          printed = subst (λ (t : List ℕ). IsPrintedSo t (due_line script (have.runs ++ ir.run ∷ []) due) due status start.stream c) e.body
              (so_further script have.runs waits e.part start.stream now.stream c have.way (due_line script (have.runs ++ ir.run ∷ []) due) due status e.printed);
          begun = of_each_output (λ (o : Output). IsBegun o start.folder.held mid.folder.held) (have.runs ++ ir.run ∷ []) (more_begun have ir);
          earlier = earlier_made have ir;
          made = λ finished. of_each_output (λ (o : Output). IsMade o start.folder.held mid.folder.held) (have.runs ++ ir.run ∷ []) (more_made have ir (ended finished));
          others = more_others have ir;
        };
    cause = subst (λ (f : Option FlowLine). IsCauseOf f status start (record { folder = mid.folder; stream = c })) (sym in_hand_here) cause;
    appends = λ other name. appends other name ∙ under.none.appends name;
    still = λ none.
        let longer : length (seen ++ lists ∷ []) ≡ suc k = omega (arith, one_longer) in
        let kept = ran.still (of_flow_in_hand (λ (f : FlowLine). f.output ≡ None) script.flows k flow at (subst (λ (n : ℕ). All (λ f. f.output ≡ None) (take n script.flows)) longer none)) in
        (λ name. kept.0 name ∙ under.none.creates name, λ name. kept.1 name ∙ under.none.appends name);
    folder_told = ran.folder_told ∙ under.folder_told;
    stream_told = told ∙ ran.stream_told ∙ under.stream_told;
  }
