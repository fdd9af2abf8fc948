-- A round beside a beginning of the steps, and how a flow ends from its beginning on.
use Rattle.std.proofs.Common.{◌≡◌, ◌<◌, ◌≤◌, ℕ, ◌+◌, true, false, List, [], length, take, All, Option, Some, None, Result, Ok, Err, refl, sym, ap, subst, ◌∙◌, arith, le_refl}
use Rattle.std.proofs.lemmas.List.{length-take-le}
use Rattle.label_commands.specs.declared.flow_lines.hop.Hop.{Hop}
use Rattle.std.specs.Prelude.{IsOk}
use Rattle.shared_tables.specs.Plan.{PlanState}
use Rattle.shared_tables.specs.Board.{ViewerState}
use Rattle.captures.specs.declared.packet_in.PacketIn.{PacketIn}
use Rattle.label_flow.specs.Pair.{PairState}
use Rattle.label_flow.specs.Round.{IsRound}
use Rattle.label_flow.specs.Walked.{AreWalked}
use Rattle.label_flow.specs.Schedule.{AreLawful, versions_in}
use Rattle.label_flow.proofs.Law.{rounds_are_lawful, rounds_walk_each_packet, flows_agree_on_a_beginning}
use Rattle.script_run.specs.declared.flow_run.end.FlowEnd.{FlowEnd}
use Rattle.script_run.specs.declared.flow_run.end.FlowEnd.TheVariants.{Stopped}
use Rattle.script_run.specs.declared.flow_run.end.FlowStop.{FlowStop}
use Rattle.script_run.specs.flow_run.Ends.{HasEnded}
use Rattle.label_commands.specs.declared.flow_lines.flow.FlowLine.{FlowLine}
use Rattle.script_run.specs.declared.flow_run.end.FlowStop.TheVariants as the_stop
use Rattle.label_flow.specs.Feed.{AreBegun}
use Rattle.script_run.specs.flow_run.inside.Output.{IsThere}
use Rattle.script_run.specs.flow_run.inside.Source.{IsFed, packets_left, file_of}
use Rattle.script_run.specs.flow_run.inside.Taken.{Moment, stop_in}
use Rattle.script_run.proofs.flow_run.Steps.{taken_begins, taken_out}
use Rattle.script_run.specs.flow_run.inside.Flown.{HasFlown}

abbrev part_of : PlanState → ℕ → PlanState
part_of plan m = record plan { steps = take m plan.steps }

abbrev seat : ℕ → PlanState → ℕ → ViewerState
seat board plan seen = record { board = board; plan = plan; seen = seen }

module _ (plan : PlanState) (m board before w : ℕ) (hops : List Hop) (packets : List PacketIn) (pairs : List PairState) (olds news : List ViewerState)
    (seats : All (λ v. v ≡ seat board (part_of plan m) before) olds) (count : length olds ≡ w) (some : 0 < w) (within : m ≤ length plan.steps) (low : before ≤ m)
    (round : IsRound hops 0 packets pairs olds news) where
  steps_are : length (take m plan.steps) ≡ m
  steps_are = length-take-le m plan.steps within

  each : AreWalked (part_of plan m) hops packets pairs × All (λ (pair : PairState). All (λ v. v ≤ length (take m plan.steps)) pair.walked.versions) pairs
  each = rounds_walk_each_packet (part_of plan m) hops packets pairs olds news (omega (arith, count, some)) (λ k d less. ap (λ (v : ViewerState). v.plan) (seats k d less)) round

  pub round_walked : AreWalked plan hops packets pairs
  round_walked =
      flows_agree_on_a_beginning.walked plan hops m packets pairs
      (subst (λ n. All (λ (pair : PairState). All (λ v. v ≤ n) pair.walked.versions) pairs) steps_are each.1) each.0

  pub round_lawful : AreLawful plan hops w before m packets (versions_in pairs)
  round_lawful =
      let part = rounds_are_lawful (part_of plan m) hops before packets pairs olds news (omega (arith, low, steps_are))
      (λ k d less. (ap (λ (v : ViewerState). v.plan) (seats k d less), ap (λ (v : ViewerState). v.seen) (seats k d less))) round in
      flows_agree_on_a_beginning.lawful plan hops w before m m packets (versions_in pairs) (le_refl m)
      (subst (λ n. AreLawful (part_of plan m) hops n before m packets (versions_in pairs)) count
      (subst (λ n. AreLawful (part_of plan m) hops (length olds) before n packets (versions_in pairs)) steps_are part))

none_begun : (left : Option (List PacketIn)) → AreBegun left []
none_begun None = tt
none_begun (Some packets) = (packets, refl)

pub ok_none : {T : Type 0} (result : Result T FlowStop) → IsOk result → stop_in result ≡ None
ok_none (Ok given) ok = refl
ok_none (Err stop) ok = absurd (let none : false ≡ true = ok in cc)

pub no_stop : {P : Type 0} (stop : FlowStop) (last : Option FlowStop) → last ≡ Some stop → last ≡ None → P
no_stop stop last is none = absurd (let no : Some stop ≡ None = sym is ∙ none in cc)

-- no packet was read, since memory ran out
pub flown_none : (plan : PlanState) (names : List (List ℕ)) (workers number upto : ℕ) (flow : FlowLine) (was : Moment) (waits : List ℕ) → flow.before ≤ upto
    → was.source.behind ≡ None → was.stop ≡ None → IsThere flow.output was.folder → IsFed was.folder was.source
    → HasFlown plan names workers number upto flow was (record { folder = was.folder; stream = was.stream }) waits was.seen (Stopped the_stop.OutOfMemory)
flown_none plan names workers number upto flow was waits low behind none there fed = record {
  now = record was { stop = Some the_stop.OutOfMemory };
  packets = [];
  pairs = [];
  taken = taken_out number names flow was was [] (taken_begins number names flow was none behind there) none;
  folder = refl;
  stream = refl;
  seen_is = refl;
  stop = refl;
  waits_are = tt;
  whole = λ ended. absurd ended;
  behind = tt;
  fed = fed;
  begun = none_begun (packets_left was.folder.tells was.source (file_of was.folder was.source));
  all = λ ended. absurd ended;
  walked = tt;
  lawful = record { count = refl; walks = λ k less. tt; rises = λ k less. low };
}
