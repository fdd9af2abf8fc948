use Rattle.call_report.proofs.report_lines.Stops.{pcap_written, pcapng_written, limit_written, packets_limit_written, script_written}
use Rattle.call_report.proofs.report_lines.laws.written_stops_are_told_back.Goals as goal

pub returns-clause-pcap : goal.returns-clause-pcap
returns-clause-pcap c = pcap_written

pub returns-clause-pcapng : goal.returns-clause-pcapng
returns-clause-pcapng c = pcapng_written

pub returns-clause-limit : goal.returns-clause-limit
returns-clause-limit c = limit_written

pub returns-clause-packets : goal.returns-clause-packets
returns-clause-packets c = packets_limit_written

pub returns-clause-script : goal.returns-clause-script
returns-clause-script c = script_written
