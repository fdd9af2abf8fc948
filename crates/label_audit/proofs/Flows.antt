-- What is printed of a script's flows, and which flows have run so.
use Rattle.std.proofs.Common.{◌≡◌, ◌<◌, ◌≤◌, inl, inr, ℕ, suc, ◌+◌, ◌-◌, Bool, true, false, cond, List, [], ◌∷◌, ◌++◌, map, length, take, Option, Some, None, refl, sym, ap, ◌∙◌, subst, arith, append_assoc}
use Rattle.std.specs.Prelude.{All, is_some, not, ◌==◌, ◌&&◌, if◌then◌else◌, slice_get}
use Rattle.std.specs.List.{AllZip, list_all, concat}
use Rattle.std.proofs.lemmas.Bool.{false≢true}
use Rattle.std.proofs.lemmas.Bool.Decides.{nat_tests}
use Rattle.std.proofs.lemmas.List.{length-take, length-map}
use Rattle.std.proofs.lemmas.List.Elements.{All-nil, All-cons, All-head, All-tail}
use Rattle.std.proofs.lemmas.Slice.Zip.{AllZip-long}
use Rattle.label_commands.specs.declared.flow_lines.flow.FlowLine.{FlowLine}
use Rattle.label_commands.specs.declared.script.Script.{Script}
use Rattle.label_commands.specs.Script.{before}
use Rattle.captures.specs.declared.packet_in.PacketIn.{PacketIn}
use Rattle.label_flow.specs.Pair.{PairState}
use Rattle.label_flow.specs.Schedule.{AreLawful, IsSeen, versions_in}
use Rattle.captures.specs.Frame.{packet_in}
use Rattle.call_report.specs.Event.{Event}
use Rattle.call_report.specs.Report.{Folder, Versions}
use Rattle.call_report.specs.Lines.Fixed.{done_line}
use Rattle.call_report.specs.Lines.Flow.{flow_line}
use Rattle.label_flow.specs.flow_access.Valid.{plan_of}
use Rattle.script_run.specs.flow_run.Input.{FlowInput, flow_input, packets_in}
use Rattle.script_run.specs.flow_run.Run.{FlowRun, IsRun, denied_in, goes_on, is_judged, passed_in, run_end, walked_lines}
use Rattle.script_run.specs.Runs.{AreRuns, FlowsStatus, IsLawfulRun}
use Rattle.script_run.specs.Report.{replies_behind, turn_text}
use Rattle.label_audit.specs.inside.Awaited.{Awaited}
use Rattle.label_audit.specs.inside.Grammar.{BehindPackets, FlowsFrom, PacketsFrom, Site, end_text_of, nothing_counted, replies_of, site_of}
use Rattle.label_audit.specs.declared.flow.Counted.{Counted}
use Rattle.label_audit.proofs.WholeInputs.{WholeInput, whole_input}
use Rattle.label_audit.proofs.Rows.{RowsRise, picked_each, seen_each}
use Rattle.label_audit.proofs.Packets.{Tail, Walks, counted, counts, packets_printed, printed_packets}

-- ---- runs

both_true : (a b c : Bool) → b ≡ true → c ≡ true → (a && b && c) ≡ a
both_true true b c x y = rw (x, y) refl
both_true false b c x y = refl

-- a flow whose capture is whole goes on where all its packets are judged
pub on_when : (run : FlowRun) → run.input.event ≡ None → is_some run.input.format ≡ true → goes_on run ≡ is_judged run
on_when run event format = both_true (is_judged run) (is_some run.input.format) (not (is_some run.input.event)) format (ap (λ (e : Option Event). not (is_some e)) event)

pub eq_sides : (a b : ℕ) → (a == b) ≡ true → a ≡ b
eq_sides a b is = grind (arith, nat_tests)

not_eq : (a b : ℕ) → (a == b) ≡ false → a ≤ b → a < b
not_eq a b is few = grind (arith, nat_tests)

suc_same : (a b : ℕ) → (suc a == suc b) ≡ (a == b)
suc_same a b = by (a == b) refl where
  by : (t : Bool) → (a == b) ≡ t → (suc a == suc b) ≡ t
  by true is = grind (arith, nat_tests)
  by false is = grind (arith, nat_tests)

abbrev done_if : Bool → List ℕ
done_if done = if done then done_line else []

module _ (script : Script) (w : ℕ) (held : Folder) (some : 0 < w) where
  abbrev pub turns : List FlowRun → List ℕ
  turns runs = concat (map (turn_text script) runs)

  abbrev pub are_done : List FlowLine → List FlowRun → Bool
  are_done flows runs = (length runs == length flows) && list_all goes_on runs

  abbrev pub text_of : List FlowLine → List FlowRun → List ℕ
  text_of flows runs = turns runs ++ done_if (are_done flows runs)

  -- what stands behind a flow's packets
  abbrev Behind : ℕ → ℕ → FlowLine → List FlowLine → Counted → Awaited
  Behind number most flow flows = BehindPackets script number flow (λ packets b u. FlowsFrom script w held (number + 1) (most - packets) flows b u)

  rises_of : (flow : FlowLine) (number : ℕ) (packets : List PacketIn) (pairs : List PairState) → AreLawful (plan_of script) flow.hops w flow.before (before script number) packets (versions_in pairs)
      → RowsRise w (before script number) 0 (λ k. flow.before) (versions_in pairs)
  rises_of flow number packets pairs lawful = lawful.rises

  as_many : (run : FlowRun) (lists : List (List ℕ)) → IsRun (plan_of script) run lists → length run.pairs ≤ length run.input.frames
  as_many run lists is =
      let n = length run.pairs in
      let long = AllZip-long _ (take n (packets_in run.input)) run.pairs is.walked in
      omega (arith, long, length-take n (packets_in run.input), length-map run.input.frames packet_in)

  -- a flow in whose report the flows behind stand
  abbrev Flow : FlowRun → ℕ → ℕ → FlowLine → List FlowLine → Bool → List ℕ → Type 0
  Flow run number most flow flows all tail = Tail (site_of script w number flow) (Behind number most flow flows) some nothing_counted (packets_in run.input) run.pairs all tail

  -- what stands behind the packets of a run
  abbrev tail_of : FlowRun → List ℕ → List ℕ
  tail_of run more = cond (goes_on run) (run_end run ++ replies_behind script run) [] ++ more

  turned_text : (run : FlowRun) (more : List ℕ) → turn_text script run ++ more ≡ flow_line run.number run.flow.input ++ (walked_lines run.number 1 script.nodes run.flow.hops run.pairs ++ tail_of run more)
  turned_text run more =
      let line = flow_line run.number run.flow.input in
      let lines = walked_lines run.number 1 script.nodes run.flow.hops run.pairs in
      let last = cond (goes_on run) (run_end run ++ replies_behind script run) [] in
      append_assoc (line ++ lines) last more ∙ append_assoc line lines (last ++ more)

  counted_all : (run : FlowRun) → counted nothing_counted run.pairs ≡ record { packets = length run.pairs; passed = passed_in run.pairs; denied = denied_in run.pairs }
  counted_all run =
      let a : 0 + length run.pairs ≡ length run.pairs = omega arith in
      let b : 0 + passed_in run.pairs ≡ passed_in run.pairs = omega arith in
      let c : 0 + denied_in run.pairs ≡ denied_in run.pairs = omega arith in
      counts nothing_counted run.pairs ∙ rw (a, b, c) refl

  -- one run, and the runs behind it
  module _ (most : ℕ) (flows : List FlowLine) (run : FlowRun) (runs : List FlowRun) (all : Bool) where
    abbrev site : Site
    site = site_of script w run.number run.flow

    abbrev After : Counted → Awaited
    After = Behind run.number most run.flow flows

    end_is : run_end run ≡ end_text_of run.number (counted nothing_counted run.pairs)
    end_is = rw (counted_all run) refl

    -- behind its last packet stand its end, the replies, and the flows behind
    ended : (more : List ℕ) → length run.pairs ≡ length (packets_in run.input) → FlowsFrom script w held (run.number + 1) (most - length run.pairs) flows all more
        → Tail site After some nothing_counted (packets_in run.input) run.pairs all ((run_end run ++ replies_behind script run) ++ more)
    ended more same from =
        let few : most - length run.pairs ≡ most - (counted nothing_counted run.pairs).packets = ap (λ (c : Counted). most - c.packets) (sym (counted_all run)) in
        inr (
          same,
          (
            replies_behind script run ++ more,
            append_assoc (run_end run) (replies_behind script run) more ∙ ap (λ t. t ++ (replies_behind script run ++ more)) end_is,
            (more, refl, subst (λ (n : ℕ). FlowsFrom script w held (run.number + 1) n flows all more) few from),
          ),
        )

    done_on : goes_on run ≡ true → are_done (run.flow ∷ flows) (run ∷ runs) ≡ are_done flows runs
    done_on on = rw (on, suc_same (length runs) (length flows)) refl

    done_off : goes_on run ≡ false → are_done (run.flow ∷ flows) (run ∷ runs) ≡ false
    done_off off = by (suc (length runs) == suc (length flows)) (list_all goes_on runs) where
      by : (a b : Bool) → (a && (goes_on run && b)) ≡ false
      by a b = rw off (none a)
        where
          none : (a : Bool) → (a && false) ≡ false
          none true = refl
          none false = refl

    tail_on : (more : List ℕ) → goes_on run ≡ true → tail_of run more ≡ (run_end run ++ replies_behind script run) ++ more
    tail_on more on = ap (λ (b : Bool). cond b (run_end run ++ replies_behind script run) [] ++ more) on

    tail_off : (more : List ℕ) → goes_on run ≡ false → tail_of run more ≡ more
    tail_off more off = ap (λ (b : Bool). cond b (run_end run ++ replies_behind script run) [] ++ more) off

    -- the text of a run and those behind it
    text_is : text_of (run.flow ∷ flows) (run ∷ runs)
        ≡ flow_line run.number run.flow.input ++ (walked_lines run.number 1 script.nodes run.flow.hops run.pairs ++ tail_of run (turns runs ++ done_if (are_done (run.flow ∷ flows) (run ∷ runs))))
    text_is =
        let more = done_if (are_done (run.flow ∷ flows) (run ∷ runs)) in
        append_assoc (turn_text script run) (turns runs) more ∙ turned_text run (turns runs ++ more)

    module _ (lists : List (List ℕ)) (is : IsRun (plan_of script) run lists) (lawful : IsLawfulRun script w run) (input_is : run.input ≡ flow_input run.number most (held run.flow.input)) where
      run_printed : (tail : List ℕ) → tail_of run (turns runs ++ done_if (are_done (run.flow ∷ flows) (run ∷ runs))) ≡ tail → Tail site After some nothing_counted (packets_in run.input) run.pairs all tail
          → FlowsFrom script w held run.number most (run.flow ∷ flows) all (text_of (run.flow ∷ flows) (run ∷ runs))
      run_printed tail same behind =
          let lines = walked_lines run.number 1 script.nodes run.flow.hops run.pairs in
          let from = packets_printed site After some nothing_counted (λ k. run.flow.before) (packets_in run.input) run.pairs all tail is.walked (rises_of run.flow run.number _ run.pairs lawful) behind in
          inr (
            lines ++ tail,
            text_is ∙ ap (λ t. flow_line run.number run.flow.input ++ (lines ++ t)) same,
            subst (λ (i : FlowInput). PacketsFrom site After nothing_counted (λ k. run.flow.before) (packets_in i) all (lines ++ tail)) input_is from,
          )

      turn_by : (on : Bool) → goes_on run ≡ on → run.input.event ≡ None → is_some run.input.format ≡ true → (on ≡ true → FlowsFrom script w held (run.number + 1) (most - length run.pairs) flows all (text_of flows runs)) → (on ≡ false → runs ≡ [])
          → (all ≡ true → are_done (run.flow ∷ flows) (run ∷ runs) ≡ true) → FlowsFrom script w held run.number most (run.flow ∷ flows) all (text_of (run.flow ∷ flows) (run ∷ runs))
      turn_by true on event format rest last done =
          let judged : length run.pairs ≡ length run.input.frames = eq_sides (length run.pairs) (length run.input.frames) (sym (on_when run event format) ∙ on) in
          run_printed ((run_end run ++ replies_behind script run) ++ text_of flows runs)
          (tail_on (turns runs ++ done_if (are_done (run.flow ∷ flows) (run ∷ runs))) on ∙ ap (λ (b : Bool). (run_end run ++ replies_behind script run) ++ (turns runs ++ done_if b)) (done_on on))
          (ended (text_of flows runs) (omega (arith, judged, length-map run.input.frames packet_in)) (rest refl))
      turn_by false off event format rest last done =
          let few = not_eq (length run.pairs) (length run.input.frames) (sym (on_when run event format) ∙ off) (as_many run lists is) in
          let none : turns runs ++ done_if (are_done (run.flow ∷ flows) (run ∷ runs)) ≡ [] = ap (λ (b : Bool). turns runs ++ done_if b) (done_off off) ∙ ap (λ (rs : List FlowRun). turns rs ++ []) (last refl) in
          run_printed [] (tail_off (turns runs ++ done_if (are_done (run.flow ∷ flows) (run ∷ runs))) off ∙ none) (inl (omega (arith, few, length-map run.input.frames packet_in), not_all all done, refl))
        where
          not_all : (all : Bool) → (all ≡ true → are_done (run.flow ∷ flows) (run ∷ runs) ≡ true) → all ≡ false
          not_all true done = absurd (false≢true (sym (done_off off) ∙ done refl))
          not_all false done = refl

  not_done_yet : (flow : FlowLine) (flows : List FlowLine) → are_done (flow ∷ flows) [] ≡ false
  not_done_yet flow flows = ap (λ (b : Bool). b && true) (let no : (0 == suc (length flows)) ≡ false = grind (arith, nat_tests) in no)

  runs_none : (number most : ℕ) (flows : List FlowLine) (seen : Versions) (runs : List FlowRun) → AreRuns (plan_of script) held number most flows seen runs → (0 < length seen → ⊥) → runs ≡ []
  runs_none number most flows [] [] are none = refl
  runs_none number most [] [] (run ∷ runs) are none = absurd are
  runs_none number most (flow ∷ flows) [] (run ∷ runs) are none = absurd are
  runs_none number most flows (lists ∷ seen) runs are none = absurd (none (omega arith))

  pub flows_printed : (number most : ℕ) (flows : List FlowLine) (seen : Versions) (runs : List FlowRun) (all : Bool) → FlowsStatus held number most flows 0 → AreRuns (plan_of script) held number most flows seen runs → All (IsLawfulRun script w) runs
      → (all ≡ true → are_done flows runs ≡ true) → FlowsFrom script w held number most flows all (text_of flows runs)
  flows_printed number most [] [] [] all whole are lawful done = refl
  flows_printed number most [] [] (run ∷ runs) all whole are lawful done = absurd are
  flows_printed number most [] (lists ∷ seen) runs all whole are lawful done = absurd are
  flows_printed number most (flow ∷ flows) [] [] all whole are lawful done = inl (not_all all done, ap done_if (not_done_yet flow flows)) where
    not_all : (all : Bool) → (all ≡ true → are_done (flow ∷ flows) [] ≡ true) → all ≡ false
    not_all true done = absurd (false≢true (sym (not_done_yet flow flows) ∙ done refl))
    not_all false done = refl
  flows_printed number most (flow ∷ flows) [] (run ∷ runs) all whole are lawful done = absurd are
  flows_printed number most (flow ∷ flows) (lists ∷ seen) [] all whole are lawful done = absurd are
  flows_printed number most (flow ∷ flows) (lists ∷ seen) (run ∷ runs) all whole are lawful done =
      let input = flow_input number most (held flow.input) in
      let told = whole_input number most (held flow.input) (FlowsStatus held (number + 1) (most - length input.frames) flows 0) whole in
      let input_is : run.input ≡ flow_input run.number most (held run.flow.input) = are.2 ∙ ap (λ (n : ℕ). flow_input n most (held flow.input)) (sym are.0) ∙ ap (λ (f : FlowLine). flow_input run.number most (held f.input)) (sym are.1) in
      let event : run.input.event ≡ None = ap (λ (i : FlowInput). i.event) are.2 ∙ told.event in
      let format : is_some run.input.format ≡ true = ap (λ (i : FlowInput). is_some i.format) are.2 ∙ told.format in
      let many : length lists ≡ length run.pairs = ap length (sym are.3.versions) ∙ length-map run.pairs (λ (pair : PairState). pair.walked.versions) in
      let judged : goes_on run ≡ true → length run.pairs ≡ length input.frames = λ on. eq_sides (length run.pairs) (length run.input.frames) (sym (on_when run event format) ∙ on) ∙ ap (λ (i : FlowInput). length i.frames) are.2 in
      let rest : goes_on run ≡ true → FlowsFrom script w held (run.number + 1) (most - length run.pairs) flows all (text_of flows runs) = λ on.
      let same : most - length input.frames ≡ most - length lists = ap (λ (n : ℕ). most - n) (sym (judged on) ∙ sym many) in
      let behind = flows_printed (number + 1) (most - length lists) flows seen runs all (subst (λ (n : ℕ). FlowsStatus held (number + 1) n flows 0) same told.rest) are.5 (All-tail (IsLawfulRun script w) run runs lawful)
      (λ yes. sym (done_on most flows run runs all on) ∙ ap (λ (f : FlowLine). are_done (f ∷ flows) (run ∷ runs)) are.1 ∙ done yes) in
      subst (λ (n : ℕ). FlowsFrom script w held (n + 1) (most - length run.pairs) flows all (text_of flows runs)) (sym are.0) (subst (λ (n : ℕ). FlowsFrom script w held (number + 1) (most - n) flows all (text_of flows runs)) many behind) in
      let turn = turn_by most flows run runs all lists are.3 (All-head (IsLawfulRun script w) run runs lawful) input_is (goes_on run) refl event format rest
      (λ off. runs_none (number + 1) (most - length lists) flows seen runs are.5 (λ more. false≢true (sym off ∙ are.4 more)))
      (λ yes. ap (λ (f : FlowLine). are_done (f ∷ flows) (run ∷ runs)) are.1 ∙ done yes) in
      subst (λ (f : FlowLine). FlowsFrom script w held number most (f ∷ flows) all (text_of (flow ∷ flows) (run ∷ runs))) are.1
      (subst (λ (n : ℕ). FlowsFrom script w held n most (run.flow ∷ flows) all (text_of (flow ∷ flows) (run ∷ runs))) are.0 turn)

  -- ---- flows that have run, by what was printed

  -- versions don't fall from the steps above a flow to those above the next one
  abbrev pub Ordered : ℕ → List FlowLine → Type 0
  Ordered number flows = (j : ℕ) (flow : FlowLine) → slice_get flows j ≡ Some flow → flow.before ≤ before script (number + j)

  pub record HaveRun (number most : ℕ) (flows : List FlowLine) (all : Bool) (text : List ℕ) : Type 0 where
    pub seen : Versions
    pub runs : List FlowRun
    pub are : AreRuns (plan_of script) held number most flows seen runs
    pub lawful : All (IsLawfulRun script w) runs
    pub done : all ≡ true → are_done flows runs ≡ true
    pub is : text ≡ text_of flows runs

  no_runs : (number most : ℕ) (flows : List FlowLine) → AreRuns (plan_of script) held number most flows [] []
  no_runs number most [] = tt
  no_runs number most (flow ∷ flows) = tt

  module _ (number most : ℕ) (flow : FlowLine) (flows : List FlowLine) (all : Bool) (pairs : List PairState) (whole : WholeInput number most (held flow.input) (FlowsStatus held (number + 1) (most - length (flow_input number most (held flow.input)).frames) flows 0))
      (walked : AllZip (Walks (site_of script w number flow) (Behind number most flow flows) some) (take (length pairs) (packets_in (flow_input number most (held flow.input)))) pairs)
      (rises : RowsRise w (before script number) 0 (λ k. flow.before) (versions_in pairs)) where
    abbrev run_of : FlowRun
    run_of = record { number = number; flow = flow; input = flow_input number most (held flow.input); pairs = pairs }

    run_is : IsRun (plan_of script) run_of (versions_in pairs)
    run_is = record { walked = walked; versions = refl }

    run_lawful : IsLawfulRun script w run_of
    run_lawful =
        let packets = take (length pairs) (packets_in (flow_input number most (held flow.input))) in
        let each = seen_each (plan_of script) flow.hops packets pairs walked in
        record {
          count = length-map pairs (λ (pair : PairState). pair.walked.versions) ∙ AllZip-long _ packets pairs walked;
          walks = λ k less. picked_each (IsSeen (plan_of script) flow.hops) k w 0 packets (versions_in pairs) each;
          rises = rises;
        }

    run_on : length pairs ≡ length (packets_in (flow_input number most (held flow.input))) → goes_on run_of ≡ true
    run_on same =
        let many : length pairs ≡ length (flow_input number most (held flow.input)).frames = same ∙ length-map (flow_input number most (held flow.input)).frames packet_in in
        on_when run_of whole.event whole.format ∙ (let is : (length pairs == length (flow_input number most (held flow.input)).frames) ≡ true = grind (arith, nat_tests) in is)

    run_off : length pairs < length (packets_in (flow_input number most (held flow.input))) → goes_on run_of ≡ false
    run_off few =
        let less : length pairs < length (flow_input number most (held flow.input)).frames = omega (arith, few, length-map (flow_input number most (held flow.input)).frames packet_in) in
        on_when run_of whole.event whole.format ∙ (let is : (length pairs == length (flow_input number most (held flow.input)).frames) ≡ false = grind (arith, nat_tests) in is)

    -- a flow that is under way
    stopped : (more tail : List ℕ) → more ≡ walked_lines number 1 script.nodes flow.hops pairs ++ tail → length pairs < length (packets_in (flow_input number most (held flow.input))) → all ≡ false → tail ≡ []
        → HaveRun number most (flow ∷ flows) all (flow_line number flow.input ++ more)
    stopped more tail is few part none =
        let off = run_off few in
        record {
          seen = versions_in pairs ∷ [];
          runs = run_of ∷ [];
          are = (refl, refl, refl, run_is, λ more. absurd (omega (arith, more)), no_runs (number + 1) (most - length (versions_in pairs)) flows);
          lawful = All-cons (IsLawfulRun script w) run_of [] run_lawful (All-nil (IsLawfulRun script w));
          done = λ yes. absurd (false≢true (sym part ∙ yes));
          is =
              ap (λ t. flow_line number flow.input ++ t) (is ∙ ap (λ t. walked_lines number 1 script.nodes flow.hops pairs ++ t) (none ∙ sym (tail_off most flows run_of [] all (done_if (are_done (flow ∷ flows) (run_of ∷ []))) off ∙ ap done_if (done_off most flows run_of [] all off))))
              ∙ sym (text_is most flows run_of [] all);
        }

    -- a flow that went on
    went_on : (more m1 m2 : List ℕ) → more ≡ walked_lines number 1 script.nodes flow.hops pairs ++ (end_text_of number (counted nothing_counted pairs) ++ m1) → m1 ≡ replies_of script number flow ++ m2
        → length pairs ≡ length (packets_in (flow_input number most (held flow.input))) → HaveRun (number + 1) (most - (counted nothing_counted pairs).packets) flows all m2
        → HaveRun number most (flow ∷ flows) all (flow_line number flow.input ++ more)
    went_on more m1 m2 is next same rest =
        let on = run_on same in
        let many : (counted nothing_counted pairs).packets ≡ length (versions_in pairs) = ap (λ (c : Counted). c.packets) (counted_all run_of) ∙ sym (length-map pairs (λ (pair : PairState). pair.walked.versions)) in
        record {
          seen = versions_in pairs ∷ rest.seen;
          runs = run_of ∷ rest.runs;
          are = (refl, refl, refl, run_is, λ more. on, subst (λ (n : ℕ). AreRuns (plan_of script) held (number + 1) (most - n) flows rest.seen rest.runs) many rest.are);
          lawful = All-cons (IsLawfulRun script w) run_of rest.runs run_lawful rest.lawful;
          done = λ yes. done_on most flows run_of rest.runs all on ∙ rest.done yes;
          is =
              let end = end_is most flows run_of rest.runs all in
              let behind : end_text_of number (counted nothing_counted pairs) ++ m1 ≡ tail_of run_of (turns rest.runs ++ done_if (are_done (flow ∷ flows) (run_of ∷ rest.runs))) =
              ap (λ t. end_text_of number (counted nothing_counted pairs) ++ t) (next ∙ ap (λ t. replies_of script number flow ++ t) rest.is)
              ∙ ap (λ t. t ++ (replies_of script number flow ++ text_of flows rest.runs)) (sym end)
              ∙ sym (append_assoc (run_end run_of) (replies_behind script run_of) (text_of flows rest.runs))
              ∙ sym (tail_on most flows run_of rest.runs all (turns rest.runs ++ done_if (are_done (flow ∷ flows) (run_of ∷ rest.runs))) on ∙ ap (λ (b : Bool). (run_end run_of ++ replies_behind script run_of) ++ (turns rest.runs ++ done_if b)) (done_on most flows run_of rest.runs all on)) in
              ap (λ t. flow_line number flow.input ++ t) (is ∙ ap (λ t. walked_lines number 1 script.nodes flow.hops pairs ++ t) behind) ∙ sym (text_is most flows run_of rest.runs all);
        }

  pub printed_flows : (number most : ℕ) (flows : List FlowLine) (all : Bool) (text : List ℕ) → FlowsStatus held number most flows 0 → Ordered number flows → FlowsFrom script w held number most flows all text → HaveRun number most flows all text
  printed_flows number most [] all text whole ordered from = record { seen = []; runs = []; are = tt; lawful = All-nil (IsLawfulRun script w); done = λ yes. refl; is = from }
  printed_flows number most (flow ∷ flows) all text whole ordered (inl stop) = record {
    seen = [];
    runs = [];
    are = tt;
    lawful = All-nil (IsLawfulRun script w);
    done = λ yes. absurd (false≢true (sym stop.0 ∙ yes));
    is = stop.1 ∙ sym (ap done_if (not_done_yet flow flows));
  }
  printed_flows number most (flow ∷ flows) all text whole ordered (inr (more, is, from)) =
      let input = flow_input number most (held flow.input) in
      let told = whole_input number most (held flow.input) (FlowsStatus held (number + 1) (most - length input.frames) flows 0) whole in
      let site = site_of script w number flow in
      let here : number + 0 ≡ number = omega arith in
      let low : flow.before ≤ before script number = subst (λ (n : ℕ). flow.before ≤ before script n) here (ordered 0 flow refl) in
      let p = printed_packets site (Behind number most flow flows) some nothing_counted (λ k. flow.before) (packets_in input) all more (λ k less. low) from in
      let later : Ordered (number + 1) flows = λ j later_flow at.
      let same : number + suc j ≡ number + 1 + j = omega arith in subst (λ (n : ℕ). later_flow.before ≤ before script n) same (ordered (suc j) later_flow at) in
      let have : HaveRun number most (flow ∷ flows) all (flow_line number flow.input ++ more) = elim p.behind [
        | inl few ↦ stopped number most flow flows all p.pairs told p.walked p.rises more p.tail p.is few.0 few.1 few.2
        | inr next ↦
            let many : (counted nothing_counted p.pairs).packets ≡ length input.frames = ap (λ (c : Counted). c.packets) (counted_all (run_of number most flow flows all p.pairs told p.walked p.rises)) ∙ next.0 ∙ length-map input.frames packet_in in
            let status = subst (λ (n : ℕ). FlowsStatus held (number + 1) (most - n) flows 0) (sym many) told.rest in
            let rest = printed_flows (number + 1) (most - (counted nothing_counted p.pairs).packets) flows all next.1.2.0 status later next.1.2.2 in
            went_on number most flow flows all p.pairs told p.walked p.rises more next.1.0 next.1.2.0 (p.is ∙ ap (λ t. walked_lines number 1 script.nodes flow.hops p.pairs ++ t) next.1.1) next.1.2.1 next.0 rest
      ] in
      subst (HaveRun number most (flow ∷ flows) all) (sym is) have
