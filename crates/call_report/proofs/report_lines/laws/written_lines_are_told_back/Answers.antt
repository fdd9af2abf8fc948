use Rattle.call_report.proofs.report_lines.Written.{flow_written, end_written, done_written, ok_written, done_reply_written, refused_reply_written, listed_reply_written}
use Rattle.call_report.proofs.report_lines.laws.written_lines_are_told_back.Goals as goal

pub returns-clause-flow : goal.returns-clause-flow
returns-clause-flow c = flow_written

pub returns-clause-end : goal.returns-clause-end
returns-clause-end c = end_written

pub returns-clause-finished : goal.returns-clause-finished
returns-clause-finished c = done_written

pub returns-clause-ok : goal.returns-clause-ok
returns-clause-ok c = ok_written

pub returns-clause-done : goal.returns-clause-done
returns-clause-done c = done_reply_written

pub returns-clause-refused : goal.returns-clause-refused
returns-clause-refused c = refused_reply_written

pub returns-clause-listed : goal.returns-clause-listed
returns-clause-listed c = listed_reply_written
