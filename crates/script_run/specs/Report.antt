-- What is printed of a script's flows.
use Rattle.std.specs.Prelude.{ℕ, ◌-◌, if◌then◌else◌, List, [], ◌∷◌, ◌++◌, map}
use Rattle.std.specs.List.{concat, filter_map}
use Rattle.std.specs.Option.{option_map_or}
use Rattle.label_commands.specs.declared.script.Script.{Script}
use Rattle.label_commands.specs.Script.{before}
use Rattle.call_report.specs.Lines.Reply.{replies_text}
use Rattle.call_report.specs.Lines.Fixed.{done_line}
use Rattle.call_report.specs.Report.{Report}
use Rattle.call_report.specs.Output.{Output}
use Rattle.script_run.specs.flow_run.Run.{FlowRun, goes_on, run_text, run_end, run_output}
use Rattle.script_run.specs.Runs.{is_done, last_event}

-- the replies to the steps above the first flow
abbrev pub first_replies : Script → List ℕ
first_replies script = replies_text script.nodes script.steps 0 (before script 0)

-- the replies to the steps between a flow and the next one, or the script's end
abbrev pub replies_behind : Script → FlowRun → List ℕ
replies_behind script run = replies_text script.nodes script.steps run.flow.before (before script run.number - run.flow.before)

-- a flow, and where the next one comes, its `end` line and the replies in between
abbrev pub turn_text : Script → FlowRun → List ℕ
turn_text script run = run_text script.nodes run ++ (if goes_on run then run_end run ++ replies_behind script run else [])

-- the flows up to the last packet of the last one
abbrev pub text_so_far : Script → List FlowRun → List ℕ
text_so_far script [] = []
text_so_far script (run ∷ []) = run_text script.nodes run
text_so_far script (run ∷ next ∷ runs) = turn_text script run ++ text_so_far script (next ∷ runs)

-- All that stands where a read of an input, or the making of an output, can fail: the script is read before anything is printed.
abbrev pub pause_text : Script → List FlowRun → List ℕ
pause_text script [] = []
pause_text script (run ∷ runs) = first_replies script ++ text_so_far script (run ∷ runs)

-- the replies above the first flow, the flows with what comes behind each, and `done` behind the last one; or the line of the event that ends the call
abbrev pub runs_report : Script → List FlowRun → Report
runs_report script runs = record {
  body = first_replies script ++ (concat (map (turn_text script) runs) ++ (if is_done script runs then done_line else []));
  last = option_map_or (λ event. event.line) (last_event runs) [];
  pauses = pause_text script runs ∷ [];
}

-- what the files are to hold that the flows make
abbrev pub runs_outputs : List FlowRun → List Output
runs_outputs runs = filter_map run_output runs
