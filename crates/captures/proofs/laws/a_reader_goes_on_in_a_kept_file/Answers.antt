use Rattle.captures.proofs.Law.{a_reader_goes_on_in_a_kept_file}
use Rattle.captures.proofs.laws.a_reader_goes_on_in_a_kept_file.Goals as goal

pub returns : goal.returns
returns c = a_reader_goes_on_in_a_kept_file
