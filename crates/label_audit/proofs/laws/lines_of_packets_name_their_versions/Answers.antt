use Rattle.label_audit.proofs.Law.{lines_of_packets_name_their_versions as law}
use Rattle.label_audit.proofs.laws.lines_of_packets_name_their_versions.Goals as goal

pub returns : goal.returns
returns c = law
