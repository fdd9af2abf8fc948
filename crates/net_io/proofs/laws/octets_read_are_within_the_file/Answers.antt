use Rattle.net_io.proofs.Law.{octets_read_are_within_the_file}
use Rattle.net_io.proofs.laws.octets_read_are_within_the_file.Goals as goal

pub returns : goal.returns
returns c = octets_read_are_within_the_file
