-- How far a flow of a script has run, what is printed of it, and what its output capture holds.
use Rattle.std.specs.Prelude.{ℕ, ◌≡◌, ◌+◌, ◌==◌, ◌&&◌, Bool, true, false, not, is_some, if◌then◌else◌, List, [], ◌∷◌, ◌++◌, length, Option}
use Rattle.std.specs.Option.{option_map}
use Rattle.label_commands.specs.declared.flow_lines.flow.FlowLine.{FlowLine}
use Rattle.label_commands.specs.declared.flow_lines.hop.Hop.{Hop}
use Rattle.pcap_frames.specs.Record.{Frame}
use Rattle.captures.specs.Frame.{CapturedFrame}
use Rattle.captures.specs.Written.{file_octets}
use Rattle.label_flow.specs.declared.packet_walk.walked.End.{End}
use Rattle.label_flow.specs.declared.packet_walk.walked.End.TheVariants as the_end
use Rattle.shared_tables.specs.Plan.{PlanState}
use Rattle.label_flow.specs.Pair.{PairState}
use Rattle.label_flow.specs.Walked.{AreWalked}
use Rattle.label_flow.specs.Schedule.{versions_in}
use Rattle.call_report.specs.Lines.Flow.{flow_line, walked_line, flow_end_line}
use Rattle.call_report.specs.Output.{Output}
use Rattle.script_run.specs.flow_run.Input.{FlowInput, packets_in}

-- a flow by its number, counted from 1, with what it reads, and what became of the first of its packets
pub record FlowRun : Type 0 where
  pub number : ℕ
  pub flow : FlowLine
  pub input : FlowInput
  pub pairs : List PairState

-- each of its packets that was judged is what its walk is, under the tables of these versions
pub record IsRun (plan : PlanState) (run : FlowRun) (seen : List (List ℕ)) : Type 0 where
  pub walked : AreWalked plan run.flow.hops (packets_in run.input) run.pairs
  pub versions : versions_in run.pairs ≡ seen

-- all its packets are judged
abbrev pub is_judged : FlowRun → Bool
is_judged run = length run.pairs == length run.input.frames

-- and nothing ends the call there, so that the next flow comes
abbrev pub goes_on : FlowRun → Bool
goes_on run = is_judged run && is_some run.input.format && not (is_some run.input.event)

-- a packet was denied on its way
abbrev pub is_denied : End → Bool
is_denied (the_end.Denied hop why) = true
is_denied end = false

-- how many packets were denied
abbrev pub denied_in : List PairState → ℕ
denied_in [] = 0
denied_in (pair ∷ pairs) = (if is_denied pair.walked.end then 1 else 0) + denied_in pairs

-- and how many weren't
abbrev pub passed_in : List PairState → ℕ
passed_in [] = 0
passed_in (pair ∷ pairs) = (if is_denied pair.walked.end then 0 else 1) + passed_in pairs

-- the lines of packets, counted on from a number
abbrev pub walked_lines : ℕ → ℕ → List (List ℕ) → List Hop → List PairState → List ℕ
walked_lines flow number names hops [] = []
walked_lines flow number names hops (pair ∷ pairs) = walked_line flow number names hops pair.walked ++ walked_lines flow (number + 1) names hops pairs

-- what is printed of a flow up to the last packet that was judged; nodes have these names
abbrev pub run_text : List (List ℕ) → FlowRun → List ℕ
run_text names run = flow_line run.number run.flow.input ++ walked_lines run.number 1 names run.flow.hops run.pairs

-- and behind its last packet
abbrev pub run_end : FlowRun → List ℕ
run_end run = flow_end_line run.number (length run.pairs) (passed_in run.pairs) (denied_in run.pairs)

-- the packets that weren't denied, as their walks left them, each with the time of its frame
abbrev pub kept_frames : List CapturedFrame → List PairState → List Frame
kept_frames [] pairs = []
kept_frames (frame ∷ frames) [] = []
kept_frames (frame ∷ frames) (pair ∷ pairs) =
    if is_denied pair.walked.end then kept_frames frames pairs
    else record { head = frame.head; octets = pair.octets } ∷ kept_frames frames pairs

-- the output capture, in the format of the input; there is none where the input couldn't be begun
abbrev pub output_capture : FlowRun → Option (List ℕ)
output_capture run = option_map (λ format. file_octets format (kept_frames run.input.frames run.pairs)) run.input.format

-- what the file is to hold that a flow makes, if it makes one
abbrev pub run_output : FlowRun → Option Output
run_output run = option_map (λ name. record { name = name; octets = output_capture run }) run.flow.output
