use Rattle.netlabel_run.proofs.Answer.{shown_text, line_some}
use Rattle.call_report.specs.Lines.Packet.{shown_line}
use Rattle.call_report.proofs.Law.{no_memory_for_a_line}
use Rattle.netlabel_run.proofs.show.add_packet.Goals as goal

pub returns-in-Err : goal.returns-in-Err
returns-in-Err g c =
    let text = shown_text c.args.packet.now in
    (text.0, text.1, no_memory_for_a_line (shown_line c.args.number text.0) c.args.report.now.waiting.items c.write_packet.new.line.items (g.S.Sink.state c.args.out.now) (line_some c.args.number text.0))
