-- How the flows of a script begin, and how the call ends in front of a flow or behind the last one.
use Rattle.std.proofs.Common.{◌≡◌, ◌<◌, ◌≤◌, ℕ, ◌-◌, Bool, true, cond, List, [], ◌++◌, get_or, length, take, Some, None, refl, sym, ap, subst, ◌∙◌, arith, append_assoc, inl}
use Rattle.std.specs.Prelude.{◌&&◌, ◌==◌, All, slice_get, unwrap_or, option_map}
use Rattle.std.specs.List.{list_all}
use Rattle.std.proofs.lemmas.Bool.{eq-eqb}
use Rattle.std.proofs.lemmas.Option.{slice_get_read}
use Rattle.std.proofs.lemmas.List.Elements.{All-nil, All-take, All-weaker}
use Rattle.net_io.specs.Faults.{Rose, SameCounts}
use Rattle.net_io.specs.Sink.{SinkState}
use Rattle.label_commands.specs.declared.script.Script.{Script}
use Rattle.label_commands.specs.Script.{before}
use Rattle.label_commands.specs.declared.flow_lines.flow.FlowLine.{FlowLine}
use Rattle.call_report.specs.Lines.Fixed.{done_line}
use Rattle.call_report.specs.declared.status.Status.{Status}
use Rattle.call_report.specs.declared.status.Status.TheVariants.{Done, OutOfMemory}
use Rattle.call_report.specs.Report.{Versions}
use Rattle.call_report.specs.Output.{Output, IsBegun, IsMade}
use Rattle.call_report.specs.Outside.{Outside, NoneFailed}
use Rattle.call_report.specs.Printing.{Printed}
use Rattle.script_run.specs.flow_run.Run.{FlowRun, goes_on}
use Rattle.label_flow.specs.flow_access.Valid.{plan_of}
use Rattle.script_run.specs.Runs.{IsLawfulRun, is_done}
use Rattle.script_run.specs.Report.{first_replies, runs_outputs}
use Rattle.script_run.specs.Ends.{flow_in_hand, IsCauseOf, ScriptEnds}
use Rattle.script_run.proofs.Handing.{printed_more, printed_on_the_way, ends_done}
use Rattle.script_run.proofs.Runs.{as_many_runs, turns_text, of_each_output}
use Rattle.script_run.proofs.Underway.{HaveRun, AreUnderWay, HasMadeAll, short_of_memory, made_has_begun, printed_further}

-- the call ends before any flow
pub ends_first : (script : Script) (workers : ℕ) (start after : Outside) (status : Status) → after.folder ≡ start.folder → Printed (first_replies script) [] OutOfMemory status start.stream after.stream
    → ScriptEnds script workers start after [] status
ends_first script workers start after status same printed = record {
  begun = omega arith;
  due = OutOfMemory;
  runs = λ told. record {
    runs = [];
    are = tt;
    lawful = All-nil (IsLawfulRun script workers);
    is_due = tt;
    printed = printed_more (first_replies script) (cond (is_done script []) done_line []) status start.stream after.stream printed;
    begun = All-nil (λ (o : Output). IsBegun o start.folder.held after.folder.held);
    earlier = All-nil (λ (o : Output). IsMade o start.folder.held after.folder.held);
    made = λ finished. absurd finished;
    others = λ name all. ap (λ f. f.held name) same;
  };
  cause = ends_done (λ s. IsCauseOf None s start after) (first_replies script) OutOfMemory status start.stream after.stream printed short short (λ rose. (inl (unappended, rose), inl (record { reads = unread; creates = uncreated })));
  appends = λ other. unappended;
  still = λ none. (uncreated, unappended);
  folder_told = ap (λ f. f.tells) same;
  stream_told = printed.told;
} where
  unread : SameCounts start.folder.reads after.folder.reads
  unread name = ap (λ f. f.reads name) same

  uncreated : SameCounts start.folder.creates after.folder.creates
  uncreated name = ap (λ f. f.creates name) same

  unappended : SameCounts start.folder.appends after.folder.appends
  unappended name = ap (λ f. f.appends name) same

  short : after.stream.faults ≡ start.stream.faults → IsCauseOf None OutOfMemory start after
  short still = short_of_memory None start after (record {
    reads = unread;
    creates = uncreated;
    appends = unappended;
    writes = still;
  })

module _ (script : Script) (workers : ℕ) (start now : Outside) (waits : List ℕ) (left : ℕ) (seen : Versions) (under : AreUnderWay script workers start now waits left seen) (few : length seen ≤ length script.flows) where
  abbrev rest_of : List FlowRun → List ℕ
  rest_of runs = cond (is_done script runs) done_line []

  -- all that the flows were to make is made, and so begun
  all_made : (have : HaveRun script workers start now waits seen) → All (λ (o : Output). IsMade o start.folder.held now.folder.held) (runs_outputs have.runs)
  all_made have = of_each_output (λ (o : Output). IsMade o start.folder.held now.folder.held) have.runs have.made

  -- so are those of all but the last one
  earlier_made : (have : HaveRun script workers start now waits seen) → All (λ (o : Output). IsMade o start.folder.held now.folder.held) (runs_outputs (take (length seen - 1) have.runs))
  earlier_made have = of_each_output (λ (o : Output). IsMade o start.folder.held now.folder.held) (take (length seen - 1) have.runs)
      (All-take (HasMadeAll start.folder.held now.folder.held) (length seen - 1) have.runs have.made)

  all_begun : (have : HaveRun script workers start now waits seen) → All (λ (o : Output). IsBegun o start.folder.held now.folder.held) (runs_outputs have.runs)
  all_begun have = All-weaker (λ (o : Output). IsMade o start.folder.held now.folder.held) (λ (o : Output). IsBegun o start.folder.held now.folder.held)
      (λ o made. made_has_begun start.folder.held now.folder.held o made) (runs_outputs have.runs) (all_made have)

  -- there is no memory for a further flow
  pub ends_between : ScriptEnds script workers start now seen OutOfMemory
  ends_between = record {
    begun = few;
    due = OutOfMemory;
    runs = λ told.
        let have = under.runs told in
        record {
          runs = have.runs;
          are = have.are;
          lawful = have.lawful;
          is_due = tt;
          printed = subst (λ (t : List ℕ). Printed t [] OutOfMemory OutOfMemory start.stream now.stream) (append_assoc (first_replies script) (turns_text script have.runs) (rest_of have.runs))
              (printed_on_the_way (first_replies script ++ turns_text script have.runs) waits (rest_of have.runs) OutOfMemory start.stream now.stream have.way);
          begun = all_begun have;
          earlier = earlier_made have;
          made = λ finished. absurd finished;
          others = have.others;
        };
    cause = short_of_memory (flow_in_hand script seen) start now under.none;
    appends = λ other. under.none.appends;
    still = λ none. (under.none.creates, under.none.appends);
    folder_told = under.folder_told;
    stream_told = under.stream_told;
  }

  -- all flows have run
  done_here : length seen ≡ length script.flows → (have : HaveRun script workers start now waits seen) → is_done script have.runs ≡ true
  done_here all have = both_true (length have.runs) (length script.flows) (list_all goes_on have.runs) (as_many_runs (plan_of script) start.folder.held 1 _ script.flows seen have.runs have.are ∙ all) have.on where
    both_true : (n m : ℕ) (b : Bool) → n ≡ m → b ≡ true → ((n == m) && b) ≡ true
    both_true n m b same on = ap (λ t. t && b) (eq-eqb n m same) ∙ on

  pub ends_behind : (c : SinkState) (status : Status) → length seen ≡ length script.flows → Printed (waits ++ done_line) [] Done status now.stream c → ScriptEnds script workers start (record { folder = now.folder; stream = c }) seen status
  ends_behind c status all printed =
      let after : Outside = record { folder = now.folder; stream = c } in
      record {
        begun = few;
        due = Done;
        runs = λ told.
            let have = under.runs told in
            let done = done_here all have in
            record {
              runs = have.runs;
              are = have.are;
              lawful = have.lawful;
              is_due = done;
              printed = subst (λ (t : List ℕ). Printed (first_replies script ++ (turns_text script have.runs ++ t)) [] Done status start.stream c) (ap (λ b. cond b done_line []) (sym done))
                  (printed_further script have.runs waits done_line start.stream now.stream c have.way [] Done status printed);
              begun = all_begun have;
              earlier = earlier_made have;
              made = λ finished. all_made have;
              others = have.others;
            };
        cause = ends_done (λ s. IsCauseOf (flow_in_hand script seen) s start after) (waits ++ done_line) Done status now.stream c printed none
            (λ same. short_of_memory (flow_in_hand script seen) start after (none same)) (λ rose. (inl (under.none.appends, subst (λ (n : ℕ). Rose n c.faults) under.none.writes rose), inl (record { reads = under.none.reads; creates = under.none.creates })));
        appends = λ other. under.none.appends;
        still = λ none. (under.none.creates, under.none.appends);
        folder_told = under.folder_told;
        stream_told = printed.told ∙ under.stream_told;
      } where
        none : c.faults ≡ now.stream.faults → NoneFailed start (record { folder = now.folder; stream = c })
        none same = record { reads = under.none.reads; creates = under.none.creates; appends = under.none.appends; writes = same ∙ under.none.writes }

-- the steps above a flow
pub above_is : (script : Script) (k : ℕ) (flow : FlowLine) → slice_get script.flows k ≡ Some flow → before script k ≡ flow.before
above_is script k flow at = ap (λ o. unwrap_or (option_map (λ (f : FlowLine). f.before) o) (length script.steps)) at

-- a flow of the list as it is lent
pub at_lent : (flows lent : List FlowLine) (k : ℕ) (flow : FlowLine) → lent ≡ flows → k < length lent → flow ≡ get_or lent k flow → slice_get flows k ≡ Some flow
at_lent flows lent k flow same within is = ap (λ (fs : List FlowLine). slice_get fs k) (sym same) ∙ slice_get_read lent (length lent) k flow refl within is
