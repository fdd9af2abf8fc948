use Rattle.call_report.proofs.Law.{no_memory_for_a_line}
use Rattle.call_report.specs.Lines.Reply.{reply_text}
use Rattle.script_run.proofs.Answering.{reply_some}
use Rattle.script_run.proofs.replies.hand_on.Goals as goal

pub returns-in-Err : goal.returns-in-Err
returns-in-Err g c =
    no_memory_for_a_line (reply_text c.args.number c.args.name.now c.args.reply.now) c.args.report.now.waiting.items c.write_reply.new.out.items (g.S.Sink.state c.args.out.now)
    (reply_some c.args.number c.args.name.now c.args.reply.now)
