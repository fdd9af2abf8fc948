use Rattle.std.proofs.Common.{◌-◌, ◌+◌, ◌≡◌, ℕ, List, length, map, None, Some}
use Rattle.std.specs.Prelude.{IsTrue, true, slice_get}
use Rattle.label_commands.specs.declared.flow_lines.flow.FlowLine.{FlowLine}
use Rattle.label_commands.specs.Script.{before}
use Rattle.captures.specs.Frame.{packet_in}
use Rattle.captures.specs.Reader.{file_name_of, IsReadable}
use Rattle.call_report.specs.Report.{Folder}
use Rattle.call_report.specs.report_file.File.{KeepsPart}
use Rattle.label_audit.specs.inside.Reading.{StandsIn, IsJudgedTo, file_of}
use Rattle.label_audit.specs.inside.Flow.{Ready, IsFew, packets_awaited, left_by}
use Rattle.label_audit.proofs.Frames.{Unmoved}
use Rattle.label_audit.proofs.flow.judge_packets.Given as goal

-- so many packets were read and judged, and the others come
abbrev pub invariant-loop-judge : goal.invariant-loop-judge
invariant-loop-judge g l =
    let start = g.D.Depot.state l.initial.depot in
    let now = g.D.Depot.state l.depot in
    let w = length l.initial.judge.tables.items in
    record {
      same : Unmoved start now;
      name : l.report.name ≡ l.initial.report.name;
      keeps : KeepsPart now l.report;
      reader : file_name_of l.reader ≡ file_name_of l.initial.reader;
      ready : IsReadable now l.reader;
      few : IsFew l.judge.counts;
      tables : Ready l.script w (before l.script (l.flow + 1)) l.judge.tables.items;
      fault : IsTrue start.tells → (left_by now l.reader).fault ≡ None;
      count : IsTrue start.tells → l.judge.counts.packets + length (left_by now l.reader).frames ≡ l.initial.judge.counts.packets + length (left_by start l.initial.reader).frames;
      judged : IsTrue start.tells → (held : Folder) (most : ℕ) (line : FlowLine) (flows : List FlowLine) → slice_get l.script.flows l.flow ≡ Some line
          → IsJudgedTo (packets_awaited l.script w held l.flow most line flows l.initial.judge.counts l.initial.judge.tables.items (map packet_in (left_by start l.initial.reader).frames))
          (packets_awaited l.script w held l.flow most line flows l.judge.counts l.judge.tables.items (map packet_in (left_by now l.reader).frames)) (file_of start l.initial.report) l.initial.at l.at true;
      stands : IsTrue start.tells → StandsIn (file_of start l.initial.report) l.at;
    }

abbrev pub decreases-loop-judge : goal.decreases-loop-judge
decreases-loop-judge g l = 1048577 - l.judge.counts.packets
