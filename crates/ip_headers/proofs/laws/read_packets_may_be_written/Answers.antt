use Rattle.ip_headers.proofs.Law.{read_packets_may_be_written}
use Rattle.ip_headers.proofs.laws.read_packets_may_be_written.Goals as goal

pub returns : goal.returns
returns c = read_packets_may_be_written
